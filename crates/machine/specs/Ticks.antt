-- Ticks and the link (01, 'Ticks and the link'). What concerns the core alone is defined in `parts`, and passed on.
use Rattle.std.specs.Prelude.{ℕ, zero, suc, ◌-◌, ◌^◌, List, [], ◌∷◌, Bool, false, cond, ◌&&◌, not, length, replicate, ltb, eqb}
use Rattle.common.specs.Decode.{link_down_bit, cfg_timeout}
use Rattle.refusals.specs.Table.{refused_by, store_order}
use Rattle.verdict.specs.declared.Cause.TheVariants.{Timeout}
use Rattle.machine.specs.State.{Bridge, Answered, tag_count, slot_count, slot_open, slot_finished, with_ticks, with_free, with_config, core_in, put_missing, set_state, set_pieces, set_cause, slot_state, size_of, raised_core, missing_of, sent_of, place_of, owner_of, is_open, shut, slverr}
use Rattle.machine.specs.Completions.{store_size, Held, held, zeroed, failed, piece_closed, config_done, plain}
pub use Rattle.ecam.specs.Registers.{with_link}
pub use Rattle.parts.specs.Cores.{link_in, next_session, session_after, link_to}
pub use Rattle.parts.specs.Access.{drop_config}
pub use Rattle.parts.specs.Numbers.{next_tick, age_of}

-- ---- a tick

-- 'each request whose age .. is T'
abbrev pub is_old : Bridge → ℕ → Bool
is_old b t =
    is_open (missing_of b t) (place_of b t) && eqb (age_of b.core.ticks (sent_of b t)) b.settings.limit

-- 'At timeout it closes and its tag rests': it is not free. A memory read's piece fails, bit 22; configuration: SLVERR, bit 8
unfoldable pub timed_out : ℕ → Held → Held
timed_out t h =
    cond (ltb (owner_of h.bridge t) slot_count)
    (piece_closed (owner_of h.bridge t)
    (held (shut t (failed (owner_of h.bridge t) (place_of h.bridge t) Timeout h.bridge)) h.store))
    (held
    (shut t
    (core_in (raised_core cfg_timeout (with_config (config_done h.bridge.core.config slverr 0) h.bridge.core)) h.bridge))
    h.store)

unfoldable pub expire : Held → ℕ → Held
expire h t = cond (is_old h.bridge t) (timed_out t h) h

-- the tags below n
unfoldable pub expire_to : Held → ℕ → Held
expire_to h zero = h
expire_to h (suc n) = expire (expire_to h n) n

-- 'it steps, then closes'
unfoldable pub ticked : Held → Held
ticked h =
    cond (ltb (length h.store) store_size) h
    (expire_to
    (held (core_in (with_ticks (next_tick h.bridge.core.ticks) h.bridge.core) h.bridge) h.store) tag_count)

-- n ticks in a row
unfoldable pub ticked_to : Held → ℕ → Held
ticked_to h zero = h
ticked_to h (suc n) = ticked (ticked_to h n)

-- tick and link refuse only a store that is too short
abbrev pub store_refusal : ℕ → ℕ
store_refusal room = refused_by store_order (ltb room store_size ∷ [])

abbrev pub tick_step : Bridge → List ℕ → Answered
tick_step b store =
    record { bridge = (ticked (held b store)).bridge; answer = plain (store_refusal (length store)) }

-- ---- the link

-- a read that is open in slot k is finished as SLVERR with zero data
unfoldable pub drop_slot : Held → ℕ → Held
drop_slot h k =
    cond (eqb (slot_state h.bridge k) slot_open)
    (held (set_state k slot_finished (set_pieces k 0 (set_cause k slverr h.bridge))) (zeroed k (size_of h.bridge k) h.store))
    h

unfoldable pub drop_slots : Held → ℕ → Held
drop_slots h zero = h
drop_slots h (suc n) = drop_slot (drop_slots h n) n

-- 'Link going down sets bit 0, finishes each open access .. and frees every tag'
unfoldable pub link_lost : Bridge → Bridge
link_lost b =
    core_in
    (raised_core link_down_bit (link_in false (with_free (2 ^ tag_count - 1) (with_config (drop_config b.core.config) b.core))))
    (put_missing (replicate tag_count 0) b)

-- 'Going up, or repeating the present link state, changes nothing else', but that a down link that goes up begins a session
unfoldable pub linked : Bool → Held → Held
linked up h =
    cond (ltb (length h.store) store_size) h
    (cond (not up && h.bridge.core.registers.link) (drop_slots (held (link_lost h.bridge) h.store) slot_count)
    (held (core_in (link_to up h.bridge.core) h.bridge) h.store))

abbrev pub link_step : Bool → Bridge → List ℕ → Answered
link_step up b store =
    record { bridge = (linked up (held b store)).bridge; answer = plain (store_refusal (length store)) }
