-- What is decided on numbers alone.
use Rattle.std.specs.Prelude.{ℕ, zero, suc, ◌+◌, ◌-◌, ◌%◌, ◌^◌, cond, not, List, [], ◌∷◌, ◌==◌, nat_lt, slice_index_or}
use Rattle.refusals.specs.Table.{refused_by, take_order}
use Rattle.parts.specs.Sizes.{slot_count, slot_free, slot_open, slot_finished, config_slot}
pub use Rattle.parts.specs.Sizes.{store_size}

-- 'A 32-bit tick counter starts again at zero after its last value'
abbrev pub next_tick : ℕ → ℕ
next_tick x = (x + 1) % 2 ^ 32

-- 'age (ticks since sending)', on a counter that wraps
abbrev pub age_of : ℕ → ℕ → ℕ
age_of now then = (now + (2 ^ 32 - then)) % 2 ^ 32

-- the first of n slots from k on that is free
unfoldable pub free_slot_from : List ℕ → ℕ → ℕ → ℕ
free_slot_from states k zero = k
free_slot_from states k (suc n) = cond (slice_index_or states k slot_open == slot_free) k (free_slot_from states (suc k) n)

-- 'Slot 8 is the configuration slot'; past it there is no slot
unfoldable pub state_in : ℕ → List ℕ → ℕ → ℕ
state_in config states k = cond (k == config_slot) config (cond (nat_lt k slot_count) (slice_index_or states k slot_free) slot_free)

-- order: take 8, 14; 'nothing finished there to take, or no such slot'
unfoldable pub take_number : ℕ → ℕ → ℕ
take_number room found = refused_by take_order (nat_lt room store_size ∷ not (found == slot_finished) ∷ [])
