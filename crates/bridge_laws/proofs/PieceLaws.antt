-- The pieces' windows and pages, and the next address.
use Prim.Native.Nat.{ℕ, ◌+◌, ◌-◌, ◌%◌, ◌/◌, ◌<◌}
use mathlib.Core.Path.{◌≡◌, sym, ap, ◌∙◌}
use native.Mathlib.Omega.{arith}
use Rattle.address.specs.declared.Settings.{Settings}
use Rattle.address.specs.declared.Windows.{Windows}
use Rattle.address.specs.Windows.{axi}
use Rattle.address.specs.Laws.{Limit}
use Rattle.address.proofs.Laws as address
use Rattle.burst.specs.declared.Burst.{Burst}
use Rattle.burst.specs.declared.Piece.{Piece}
use Rattle.burst.specs.Bursts.{length_of}
use Rattle.burst.specs.Words.{lower_address}
use Rattle.burst.proofs.Pieces.{burst_in_page}
use Rattle.burst.proofs.Tiling.{piece_within}
use Rattle.machine.specs.State.{place_of}
use Rattle.machine.specs.Memory.{window_for, index_of, pcie_of, pieces_of, piece_of, read_bridge}
use Rattle.bridge_laws.specs.MemoryLaws.{Routed, Covered, tag_of}
use Rattle.bridge_laws.proofs.Parts.{same_place, same_next}
use Rattle.bridge_laws.specs.PieceLaws.{ByteOf, Lies, PieceLies, ReadNext, NextMoves}
use Rattle.bridge_laws.proofs.Behind.{inside, byte_covered, piece_covered, row_behind, low_bits_behind}
use Rattle.bridge_laws.proofs.Stored.{accepted_read_opens}

-- two steps of d from numbers with equal low bits leave the page together
same_page : (f g d : ℕ) → g % 4096 ≡ f % 4096 → (f + d) / 4096 ≡ f / 4096 → (g + d) / 4096 ≡ g / 4096
same_page f g d e z =
    let a : f % 4096 + d < 4096 = omega arith in
    let b : g % 4096 + d < 4096 = omega arith in
    omega (arith, b)

module _ (s : Settings) (q : Burst) (r : Routed s q) (l : ℕ) (limit : Limit l) (k : ℕ) (h : k < pieces_of l q) where
  abbrev w : Windows
  w = s.windows

  abbrev p : Piece
  p = piece_of l q k

  abbrev i : ℕ
  i = index_of (window_for w q)

  covered : (x : ℕ) → ByteOf p x → Covered q x
  covered x b = byte_covered s q r l limit k h x b.0 b.1

  first : Covered q p.first
  first = piece_covered s q r l limit k h

  one_page : (x : ℕ) → ByteOf p x → x / 4096 ≡ p.first / 4096
  one_page x b =
      let c = covered x b in
      burst_in_page q r.burst x c.0 c.1 ∙ sym (burst_in_page q r.burst p.first first.0 first.1)

  one_behind : (x : ℕ) → ByteOf p x → pcie_of w q x / 4096 ≡ pcie_of w q p.first / 4096
  one_behind x b =
      let m = row_behind s q r x (covered x b) in
      let n = row_behind s q r p.first first in
      let d = x - p.first in
      let u : p.first + d ≡ x = omega (arith, b.0) in
      let v : pcie_of w q p.first + d ≡ pcie_of w q x = omega (arith, m, n, first.0, b.0) in
      sym (ap (λ (y : ℕ). y / 4096) v)
      ∙ same_page p.first (pcie_of w q p.first) d (low_bits_behind s q r p.first first) (ap (λ (y : ℕ). y / 4096) u ∙ one_page x b)

  lies : Lies s q p
  lies =
      record {
        window = λ x b. (inside s q r x (covered x b)).1;
        no_other = λ x j b g o.
            let n = inside s q r x (covered x b) in address.at_most_one_holds w (address.accepted_windows s r.settings) (axi x) j i g n.0 o n.1;
        page = one_page;
        page_behind = one_behind;
      }

pub piece_lies : PieceLies
piece_lies s q r l limit k h = lies s q r l limit k h

pub read_next : ReadNext
read_next b q room e t n k h =
    let o = (accepted_read_opens b q room t n).tag k h in
    let p = piece_of b.settings.reads q k in
    let v = piece_within b.settings.reads q.start.0 (length_of q) k e h in
    let z : p.first ≡ q.start.0 + place_of (read_bridge b q) (tag_of b k) = omega (arith, same_place o, v.starts) in
    same_next o ∙ ap (λ (x : ℕ). lower_address (pcie_of b.settings.windows q x)) z

-- a remainder that is moved on
moves_on : (a n : ℕ) → (a % 128 + n) % 128 ≡ (a + n) % 128
moves_on a n = omega arith

pub next_moves : NextMoves
next_moves s q t n b x m l r e =
    m.next l
    ∙ ap (λ (y : ℕ). lower_address (y + n)) e
    ∙ moves_on (pcie_of s.windows q (q.start.0 + place_of b t)) n
    ∙ sym (ap lower_address r)
