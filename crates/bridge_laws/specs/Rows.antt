-- The machine's steps on rows: what becomes of the one tag and the one slot that a step concerns, of the core and of the store.
use Rattle.std.specs.Prelude.{ℕ, zero, suc, ◌+◌, ◌-◌, min, List, ◌≡◌, true, false, cond, ltb, leb, eqb}
use Rattle.bits.specs.Bits.{is_set, set_bit, clear_bit}
use Rattle.tags.specs.Tags.{lowest}
use Rattle.burst.specs.declared.Burst.{Burst}
use Rattle.burst.specs.Bursts.{length_of}
use Rattle.burst.specs.Words.{lower_address}
use Rattle.parts.specs.Cores.{Core}
use Rattle.parts.specs.declared.Pending.{Pending}
use Rattle.machine.specs.State.{Bridge, missing_of, Tag, Slot, tag_count, slot_size, slot_free, slot_open, slot_finished, okay, slverr, with_free}
use Rattle.machine.specs.Memory.{pieces_of}
use Rattle.machine.specs.Completions.{zeroed}

-- ---- a tag is free, open (`Open`) or resting

abbrev pub Free : Bridge → ℕ → Type 0
Free b t = is_set b.core.free t ≡ true

-- neither free nor open: its request timed out, and the link has not dropped since
abbrev pub Resting : Bridge → ℕ → Type 0
Resting b t = (is_set b.core.free t ≡ false) × (missing_of b t ≡ 0)

-- ---- a tag's row

-- n bytes more have come
abbrev pub counted_tag : ℕ → Tag → Tag
counted_tag n r =
    record {
      missing = r.missing - n;
      sent = r.sent;
      owner = r.owner;
      place = r.place + n;
      next = lower_address (r.next + n);
      kind = r.kind;
    }

-- it is no longer open
abbrev pub shut_tag : Tag → Tag
shut_tag r =
    record { missing = 0; sent = r.sent; owner = r.owner; place = r.place; next = r.next; kind = r.kind }

-- it waits for what a request asks for, sent at a tick
abbrev pub pending_tag : ℕ → Pending → Tag
pending_tag now p =
    record { missing = p.missing; sent = now; owner = p.slot; place = p.place; next = p.next; kind = p.kind }

-- ---- a slot

-- a failure at a place is noted
abbrev pub noted_slot : ℕ → ℕ → Slot → Slot
noted_slot place code s =
    record { state = s.state; size = s.size; pieces = s.pieces; fault = place; cause = code; session = s.session }

-- where that place is the least
abbrev pub faulted_slot : ℕ → ℕ → Slot → Slot
faulted_slot place code s = cond (ltb place s.fault) (noted_slot place code s) s

abbrev pub finished_slot : Slot → Slot
finished_slot s =
    record { state = slot_finished; size = s.size; pieces = 0; fault = s.fault; cause = s.cause; session = s.session }

abbrev pub fewer_slot : Slot → Slot
fewer_slot s =
    record { state = s.state; size = s.size; pieces = s.pieces - 1; fault = s.fault; cause = s.cause; session = s.session }

-- a piece is closed, the last perhaps
abbrev pub closed_slot : Slot → Slot
closed_slot s = cond (leb s.pieces 1) (finished_slot s) (fewer_slot s)

-- it waits for n bytes, in so many pieces, of a read that was accepted in a session
abbrev pub waiting_slot : ℕ → ℕ → ℕ → Slot
waiting_slot n count session =
    record { state = slot_open; size = n; pieces = count; fault = slot_size; cause = okay; session = session }

-- so does the slot that an accepted read takes
abbrev pub claimed_slot : Bridge → Burst → Slot
claimed_slot b q = waiting_slot (length_of q) (pieces_of b.settings.reads q) b.core.session

-- the link drops: an open read is finished as SLVERR
abbrev pub lost_slot : Slot → Slot
lost_slot s =
    record { state = slot_finished; size = s.size; pieces = 0; fault = s.fault; cause = slverr; session = s.session }

abbrev pub dropped_slot : Slot → Slot
dropped_slot s = cond (eqb s.state slot_open) (lost_slot s) s

abbrev pub freed_slot : Slot → Slot
freed_slot s =
    record { state = slot_free; size = s.size; pieces = s.pieces; fault = s.fault; cause = s.cause; session = s.session }

-- ---- the core

abbrev pub freed_core : ℕ → Core → Core
freed_core t c = with_free (set_bit tag_count c.free t) c

-- the lowest free tag is taken
abbrev pub taken_core : Core → Core
taken_core c = with_free (clear_bit c.free (lowest tag_count c.free)) c

-- ---- the store

-- a slot that is finished and not OKAY is zeroed
abbrev pub finished_store : ℕ → Slot → List ℕ → List ℕ
finished_store k s store = cond (eqb s.cause okay) store (zeroed k (min s.size slot_size) store)

abbrev pub closed_store : ℕ → Slot → List ℕ → List ℕ
closed_store k s store = cond (leb s.pieces 1) (finished_store k s store) store

abbrev pub dropped_store : ℕ → Slot → List ℕ → List ℕ
dropped_store k s store = cond (eqb s.state slot_open) (zeroed k (min s.size slot_size) store) store

-- the slots in turn, by their rows before the drop
abbrev pub dropped_to : (ℕ → Slot) → List ℕ → ℕ → List ℕ
dropped_to row store zero = store
dropped_to row store (suc n) = dropped_store n (row n) (dropped_to row store n)
