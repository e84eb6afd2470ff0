-- Where the pieces of a burst lie, and the address that is kept for each.
use Rattle.std.specs.Prelude.{ℕ, ◌+◌, ◌/◌, ◌≤◌, ◌<◌, ◌≡◌, true, length}
use Rattle.address.specs.declared.Settings.{Settings}
use Rattle.address.specs.Windows.{axi, holds_at}
use Rattle.address.specs.Laws.{Limit}
use Rattle.burst.specs.declared.Burst.{Burst}
use Rattle.burst.specs.declared.Piece.{Piece}
use Rattle.burst.specs.Words.{lower_address}
use Rattle.machine.specs.Bridge.{Bridge}
use Rattle.machine.specs.State.{next_address, place_of}
use Rattle.machine.specs.Memory.{window_for, index_of, pcie_of, pieces_of, piece_of, read_refusal, read_bridge}
use Rattle.bridge_laws.specs.MemoryLaws.{Routed, Tables, tag_of}
use Rattle.bridge_laws.specs.CompletionLaws.{Counts}

-- ---- one window, one page

-- a byte of a piece
abbrev pub ByteOf : Piece → ℕ → Type 0
ByteOf p x = (p.first ≤ x) × (x < p.first + p.length)

-- a piece lies in one window, that of the burst's first byte, which translates it, and in one 4 KB page on each side
pub record Lies (s : Settings) (q : Burst) (p : Piece) : Type 0 where
  pub window : (x : ℕ) → ByteOf p x → holds_at s.windows (index_of (window_for s.windows q)) (axi x) ≡ true
  pub no_other :
      (x i : ℕ) → ByteOf p x → i < s.windows.count → holds_at s.windows i (axi x) ≡ true
      → i ≡ index_of (window_for s.windows q)
  pub page : (x : ℕ) → ByteOf p x → x / 4096 ≡ p.first / 4096
  pub page_behind :
      (x : ℕ) → ByteOf p x → pcie_of s.windows q x / 4096 ≡ pcie_of s.windows q p.first / 4096

abbrev pub PieceLies : Type 0
PieceLies =
    (s : Settings) (q : Burst) → Routed s q
    → (l : ℕ) → Limit l
    → (k : ℕ) → k < pieces_of l q → Lies s q (piece_of l q k)

-- ---- the next address

-- the next address kept for a tag is the PCIe one, mod 128: that of the burst's byte at the tag's place, behind the window
abbrev pub NextBehind : Settings → Burst → Bridge → ℕ → Type 0
NextBehind s q b t = next_address b t ≡ lower_address (pcie_of s.windows q (q.start.0 + place_of b t))

-- after an accepted read, for each of its pieces; whatever the settings, also where the two sides of a window differ mod 128
abbrev pub ReadNext : Type 0
ReadNext =
    (b : Bridge) (q : Burst) (room : ℕ)
    → 0 < b.settings.reads
    → Tables b
    → read_refusal b q room ≡ 0
    → (k : ℕ) → k < pieces_of b.settings.reads q → NextBehind b.settings q (read_bridge b q) (tag_of b k)

-- and when n bytes more have come for it, where they stand in one row behind the window, as those of a routed burst do
-- (`RowBehind`)
abbrev pub NextMoves : Type 0
NextMoves =
    (s : Settings) (q : Burst) (t n : ℕ) (b x : Bridge)
    → Counts t n b x
    → t < length b.next
    → pcie_of s.windows q (q.start.0 + place_of x t) ≡ pcie_of s.windows q (q.start.0 + place_of b t) + n
    → NextBehind s q b t → NextBehind s q x t
