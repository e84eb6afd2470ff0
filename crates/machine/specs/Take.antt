-- Taking a finished answer: a look and a release, 'two calls with one set of refusals' (01, 'Ticks and the link').
-- The state of a slot and the refusals are defined in `parts`, and passed on.
use Rattle.std.specs.Prelude.{ℕ, ◌*◌, List, [], cond, length, take, drop, ltb, eqb}
use Rattle.parts.specs.declared.Figures.{Figures}
use Rattle.machine.specs.State.{Bridge, Answered, slot_count, slot_size, slot_free, with_config, core_in, set_state, size_of, failure_of, session_of, free_config, response_of, taken, answered, refused}
unfoldable pub use Rattle.parts.specs.Numbers.{state_in, take_number}

abbrev pub state_of : Bridge → ℕ → ℕ
state_of b k = state_in b.core.config.state b.state k

abbrev pub take_refusal : Bridge → ℕ → ℕ → ℕ
take_refusal b room k = take_number room (state_of b k)

-- 'hands back the very part of the store that holds it, empty when refused'; slot 8's 'part is empty'
unfoldable pub looked : Bridge → List ℕ → ℕ → List ℕ
looked b store k =
    cond (eqb (take_refusal b (length store) k) 0) (cond (ltb k slot_count) (take (size_of b k) (drop (slot_size * k) store)) []) []

-- 'frees the slot'
unfoldable pub slot_freed : ℕ → Bridge → Bridge
slot_freed k b =
    cond (ltb k slot_count) (set_state k slot_free b)
    (core_in (with_config free_config b.core) b)

-- the figures that are kept of a read
abbrev pub figures_of : Bridge → ℕ → Figures
figures_of b k = record { session = session_of b k }

-- 'number, response and data word', and the figures; the word 'is 0 for writes and for memory reads'
unfoldable pub release_step : Bridge → ℕ → ℕ → Answered
release_step b room k =
    cond (eqb (take_refusal b room k) 0)
    (answered (slot_freed k b)
    (cond (ltb k slot_count) (taken (response_of (failure_of b k)) 0 (figures_of b k))
    (taken (response_of b.core.config.response) b.core.config.word b.core.config.figures)))
    (refused (take_refusal b room k) b)
