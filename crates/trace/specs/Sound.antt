-- What holds of the bridge after every list of events, whatever the far side does.
use Rattle.std.specs.Prelude.{ℕ, zero, suc, ◌+◌, ◌-◌, ◌^◌, ◌≤◌, ◌<◌, ◌≡◌, ◌⊎◌, ◌≢◌, List, Bool, false, cond, not, ◌&&◌, length, get_or, eqb, ltb}
use Rattle.bits.specs.Bits.{is_set}
use Rattle.address.specs.declared.Settings.{Settings}
use Rattle.address.specs.Settings.{settings_number}
use Rattle.machine.specs.Bridge.{Bridge}
use Rattle.machine.specs.State.{tag_count, missing_of, owner_of, place_of, Open, registers_of}
use Rattle.machine.specs.Completions.{store_size, Held}
use Rattle.machine.specs.Ticks.{age_of}
use Rattle.machine.specs.Take.{state_of}
pub use Rattle.bridge_laws.specs.MemoryLaws.{Tables}
use Rattle.trace.specs.Events.{Event, run, start}

-- tag t is open for slot k
abbrev pub named : Bridge → ℕ → ℕ → Bool
named b k t = not (eqb (missing_of b t) 0) && eqb (owner_of b t) k

-- how many of the first n tags are open for slot k
unfoldable pub open_in : Bridge → ℕ → ℕ → ℕ
open_in b k zero = 0
open_in b k (suc n) = open_in b k n + cond (named b k n) 1 0

-- how many open pieces a slot says it has; the configuration slot has one
abbrev pub pieces_in : Bridge → ℕ → ℕ
pieces_in b k = cond (eqb (state_of b k) 1) (cond (ltb k 8) (get_or b.pieces k 0) 1) 0

-- an open tag is not free, its missing bytes lie in its slot's burst, and it is not yet as old as the time limit
pub record OpenTag (b : Bridge) (t : ℕ) : Type 0 where
  pub used : is_set b.core.free t ≡ false
  pub whole : place_of b t + missing_of b t ≤ 4096
  pub inside : owner_of b t < 8 → place_of b t + missing_of b t ≤ get_or b.size (owner_of b t) 0
  pub past : get_or b.sent t 0 < 2 ^ 32
  pub young : age_of b.core.ticks (get_or b.sent t 0) < b.settings.limit

pub record Sound (h : Held) : Type 0 where
  pub room : store_size ≤ length h.store
  pub right : settings_number h.bridge.settings ≡ 0
  pub sizes : Tables h.bridge
  pub clock : h.bridge.core.ticks < 2 ^ 32
  pub tags : (t : ℕ) → Open h.bridge t → OpenTag h.bridge t
  -- a slot's open pieces are the tags that are open for it
  pub count : (k : ℕ) → open_in h.bridge k tag_count ≡ pieces_in h.bridge k
  pub alive : (k : ℕ) → k < 8 → get_or h.bridge.state k 0 ≡ 1 → 0 < get_or h.bridge.pieces k 0
  pub fits : (k : ℕ) → k < 8 → get_or h.bridge.state k 0 ≢ 0 → get_or h.bridge.size k 0 ≤ 4096
  -- an open read in which a piece has failed has a response other than OKAY
  pub marked : (k : ℕ) → k < 8 → get_or h.bridge.state k 0 ≡ 1 → (get_or h.bridge.fault k 0 ≡ 4096) ⊎ (get_or h.bridge.cause k 0 ≢ 0)
  -- while the link is down no tag is open, and none rests
  pub down : (registers_of h.bridge).link ≡ false → (h.bridge.core.free ≡ 2 ^ tag_count - 1) × ((t : ℕ) → missing_of h.bridge t ≡ 0)

abbrev pub RunIsSound : Type 0
RunIsSound = (s : Settings) (store : List ℕ) → store_size ≤ length store → (es : List Event) → Sound (run (start s store) es)
