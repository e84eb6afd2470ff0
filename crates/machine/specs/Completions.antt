-- Completions (01, 'Completions'): the bridge and the store that is lent to it, together. The configuration slot's answer
-- is defined in `parts`, a packet's bytes in `tlp`, and both are passed on.
use Rattle.std.specs.Prelude.{ℕ, ◌+◌, ◌-◌, ◌*◌, ◌%◌, List, cond, ◌&&◌, length, drop, ltb, leb, eqb, Result, Ok, Err}
use Rattle.std.proofs.Math.Seq.{paste}
use Rattle.refusals.specs.declared.Refusal.{Refusal}
use Rattle.tlp.specs.declared.completion.Completion.{Completion}
use Rattle.refusals.specs.Table.{too_short, malformed}
use Rattle.verdict.specs.declared.Cause.{Cause}
use Rattle.verdict.specs.declared.Cause.TheVariants.{Poison}
use Rattle.verdict.specs.declared.Verdict.{Verdict}
use Rattle.verdict.specs.declared.Verdict.TheVariants.{Unexpected, Good, Poisoned, Failed}
use Rattle.machine.specs.State.{Bridge, Answered, slot_count, slot_size, slot_finished, with_config, core_in, set_state, set_pieces, set_fault, set_cause, raise, missing_of, place_of, owner_of, open_pieces, fault_of, failure_of, is_write, is_open, counted, shut, freed, okay, refusal_change}
pub use Rattle.machine.specs.State.{next_address, size_of}
pub use Rattle.verdict.specs.Verdict.{is_unexpected, verdict_number}
use Rattle.machine.specs.Verdict.{memory_verdict, config_verdict, cause_response, cause_bit}
pub use Rattle.parts.specs.Answers.{plain}
pub use Rattle.parts.specs.Access.{config_done}
unfoldable pub use Rattle.parts.specs.Access.{config_answer}
pub use Rattle.parts.specs.Numbers.{store_size}
pub use Rattle.machine.specs.Stores.{zeroed, useful_bytes}
pub use Rattle.tlp.specs.Packet.{with_payload}
unfoldable pub use Rattle.tlp.specs.Packet.{completion_of}

-- the bridge and its store
pub record Held : Type 0 where
  pub bridge : Bridge
  pub store : List ℕ

abbrev pub held : Bridge → List ℕ → Held
held b s = record { bridge = b; store = s }

-- ---- slots

-- a piece of slot k failed at this place. Pieces are disjoint ranges of places, and a piece that fails again fails at a
-- later place: so the failure at the least place is the first failed piece's in address order, by its first cause
unfoldable pub faulted : ℕ → ℕ → ℕ → Bridge → Bridge
faulted k place code b = cond (ltb place (fault_of b k)) (set_fault k place (set_cause k code b)) b

-- a memory read's piece failed: its decode bit is set when the cause is seen
unfoldable pub failed : ℕ → ℕ → Cause → Bridge → Bridge
failed k place cause b = raise (cause_bit cause) (faulted k place (cause_response cause) b)

-- the read in slot k is finished; 'the burst's whole length in the slot is zero' unless it is OKAY
unfoldable pub finished : ℕ → Held → Held
finished k h =
    held (set_state k slot_finished (set_pieces k 0 h.bridge))
    (cond (eqb (failure_of h.bridge k) okay) h.store (zeroed k (size_of h.bridge k) h.store))

-- a piece of slot k is closed; 'A read is finished when all pieces are closed'
unfoldable pub piece_closed : ℕ → Held → Held
piece_closed k h =
    cond (leb (open_pieces h.bridge k) 1) (finished k h)
    (held (set_pieces k (open_pieces h.bridge k - 1) h.bridge) h.store)

-- 'A piece closes, and its tag is free'
abbrev pub closed : ℕ → ℕ → Held → Held
closed t k h = piece_closed k (held (freed t (shut t h.bridge)) h.store)

-- n bytes have come for tag t, the last perhaps
unfoldable pub advanced : ℕ → ℕ → ℕ → Held → Held
advanced t k n h =
    cond (leb (missing_of h.bridge t) n) (closed t k (held (counted t n h.bridge) h.store))
    (held (counted t n h.bridge) h.store)

-- ---- a completion for a memory read in slot k

unfoldable pub memory_completed : Held → ℕ → ℕ → ℕ → List ℕ → Verdict → Held
memory_completed h t k skip payload Unexpected = h
memory_completed h t k skip payload (Good n) =
    advanced t k n
    (held h.bridge (paste h.store (slot_size * k + place_of h.bridge t) (useful_bytes skip n payload) n))
memory_completed h t k skip payload (Poisoned n) =
    advanced t k n (held (failed k (place_of h.bridge t) Poison h.bridge) h.store)
memory_completed h t k skip payload (Failed cause) =
    closed t k (held (failed k (place_of h.bridge t) cause h.bridge) h.store)

-- ---- a completion for the configuration access

-- 'closed by its first expected completion'
unfoldable pub config_completed : Bridge → ℕ → List ℕ → Verdict → Bridge
config_completed b t payload v =
    freed t (shut t (core_in (with_config (config_answer b.core.config payload v) b.core) b))

-- ---- any completion

-- 'the requester ID is ours, the tag is open', and then by the request of that tag: a memory read, whose bytes go to one of
-- the slots, or the configuration access
unfoldable pub verdict_of : Bridge → Completion → Verdict
verdict_of b c =
    cond (eqb c.requester b.settings.requester && is_open (missing_of b c.tag) (place_of b c.tag))
    (cond (ltb (owner_of b c.tag) slot_count) (memory_verdict c (missing_of b c.tag) (next_address b c.tag))
    (config_verdict c (is_write b c.tag)))
    Unexpected

abbrev pub read_refused : Bridge → Result Completion Refusal → ℕ
read_refused b (Ok c) = verdict_number (verdict_of b c)
read_refused b (Err r) = malformed

-- 'completion 8, 12, 13'
unfoldable pub complete_refusal : Bridge → ℕ → List ℕ → ℕ
complete_refusal b room s = cond (ltb room store_size) too_short (read_refused b (completion_of s))

unfoldable pub expected : Held → Completion → List ℕ → Held
expected h c payload =
    cond (ltb (owner_of h.bridge c.tag) slot_count)
    (memory_completed h c.tag (owner_of h.bridge c.tag) (c.lower % 4) payload (verdict_of h.bridge c))
    (held (config_completed h.bridge c.tag payload (verdict_of h.bridge c)) h.store)

abbrev pub completed_by : Held → List ℕ → Result Completion Refusal → Held
completed_by h s (Ok c) = expected h c (drop 12 s)
completed_by h s (Err r) = h

-- the bridge and the store after a completion, of any bytes; 13 sets bit 21
unfoldable pub completed : Held → List ℕ → Held
completed h s =
    cond (eqb (complete_refusal h.bridge (length h.store) s) 0) (completed_by h s (completion_of s))
    (held (core_in (refusal_change (complete_refusal h.bridge (length h.store) s) h.bridge.core) h.bridge) h.store)

abbrev pub complete_step : Bridge → List ℕ → List ℕ → Answered
complete_step b store s =
    record { bridge = (completed (held b store) s).bridge; answer = plain (complete_refusal b (length store) s) }
