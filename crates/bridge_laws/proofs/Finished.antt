-- A slot to which no open tag's answer goes stays as it is under a completion.
use Prim.Native.Nat.{ℕ, ◌+◌, ◌*◌, ◌≤◌, ◌<◌}
use mathlib.Core.Path.{◌≡◌, refl, sym, ap, ◌∙◌}
use mathlib.Core.Bool.{true}
use mathlib.Core.Logic.{inr, ◌≢◌}
use mathlib.Core.List.{List}
use native.Mathlib.Decide.{dec_lt}
use native.Mathlib.Omega.{arith}
use lib.ListN.{get_or}
use lib.Dec.{ltb}
use borrow.Author.Tests.{lt-ltb, le-ltb}
use Rattle.std.specs.Prelude.{Result, Ok, Err}
use Rattle.refusals.specs.declared.Refusal.{Refusal}
use Rattle.tlp.specs.declared.completion.Completion.{Completion}
use Rattle.machine.specs.Bridge.{Bridge}
use Rattle.machine.specs.State.{slot_at, raise, missing_of, owner_of, place_of, is_open}
use Rattle.machine.specs.Completions.{store_size, Held, held, verdict_of, completion_of, is_unexpected, read_refused, complete_refusal}
use Rattle.bridge_laws.specs.CompletionLaws.{Came, short, malformed, lost, memory, config, Kept, Accepted, AcceptedIsOpen, SlotSame, slot_of, AnswerSame, FinishedStays}
use Rattle.bridge_laws.proofs.Rows.{either}
use Rattle.bridge_laws.proofs.Cores.{raised_core_lem}
use Rattle.bridge_laws.proofs.Coming.{verdict_open, came_one_way}
use Rattle.bridge_laws.proofs.Stores.{other_slot}
use Rattle.bridge_laws.proofs.Keeping.{own_kept}

-- ---- what acceptance tells

read_accepted : (b : Bridge) (s : List ℕ) (r : Result Completion Refusal) → completion_of s ≡ r → read_refused b r ≡ 0 → Accepted b s
read_accepted b s (Ok c) e =
    either (λ (n : ℕ). n ≡ 0 → Accepted b s) (is_unexpected (verdict_of b c)) 13 0 (λ u n. absurd (omega arith))
    (λ u n. record { header = c; reads = e; expected = u; opened = verdict_open b c u })
read_accepted b s (Err r) e = λ n. absurd (omega arith)

pub accepted_is_open : AcceptedIsOpen
unfolding complete_refusal
accepted_is_open b room s =
    either (λ (n : ℕ). n ≡ 0 → Accepted b s) (ltb room store_size) 8 _ (λ z n. absurd (omega arith)) (λ z. read_accepted b s (completion_of s) refl)

-- ---- one slot of two

pub kept_slot : (j k t : ℕ) (h x : Held) → j ≢ k → Kept k t h x → SlotSame j h x
kept_slot j k t h x n p = record { row = p.here.slots j n; bytes = other_slot p.store j n }

-- the row is, and the bytes are
pub slot_same : (j : ℕ) (h x : Held) → slot_at x.bridge j ≡ slot_at h.bridge j
    → ((i : ℕ) → i < 4096 → get_or x.store (4096 * j + i) 0 ≡ get_or h.store (4096 * j + i) 0) → SlotSame j h x
slot_same j h x e f = record { row = e; bytes = f }

pub slot_then : (j : ℕ) (h x y : Held) → SlotSame j h x → SlotSame j x y → SlotSame j h y
slot_then j h x y p q = search (◌∙◌, q.bytes, p.bytes)

-- ---- any of the nine

-- whatever else becomes of the bridge
pub answer_rows : (j : ℕ) (h : Held) (b : Bridge) → slot_at b j ≡ slot_at h.bridge j → (j ≡ 8 → b.core.config ≡ h.bridge.core.config) → AnswerSame j h (held b h.store)
answer_rows j h b e f = record { slot = λ l. slot_same j h (held b h.store) e (λ i m. refl); config = f; room = refl; beyond = λ i l. refl }

pub answer_same : (j : ℕ) (h : Held) → AnswerSame j h h
answer_same j h = answer_rows j h h.bridge refl (λ e. refl)

pub answer_then : (j : ℕ) (h x y : Held) → AnswerSame j h x → AnswerSame j x y → AnswerSame j h y
answer_then j h x y p q = search (◌∙◌, slot_then j h x y, q.slot, p.slot, q.config, p.config, q.beyond, p.beyond)

-- the answer of a read slot's tag goes to no other slot
away : (b : Bridge) (t j : ℕ) → j < 8 → slot_of b t ≢ j → j ≢ owner_of b t
away b t j l n e = n (rw (lt-ltb (owner_of b t) 8 (omega arith)) (sym e))

-- and a tag whose answer does not go to the configuration slot has a read slot
near : (b : Bridge) (t : ℕ) → slot_of b t ≢ 8 → Dec (owner_of b t < 8) → owner_of b t < 8
near b t n (yes l) = l
near b t n (no l) = absurd (n (rw (le-ltb (owner_of b t) 8 (omega (arith, l)))))

-- past the slots no byte changes
kept_beyond : (k t : ℕ) (h x : Held) → Kept k t h x → (i : ℕ) → store_size ≤ i → Dec (k < 8) → get_or x.store i 0 ≡ get_or h.store i 0
kept_beyond k t h x p i l (yes s) = p.store.bytes i (inr (omega arith))
kept_beyond k t h x p i l (no s) = ap (λ (s : List ℕ). get_or s i 0) (p.none (omega (arith, s)))

-- what touches one tag and its slot leaves every other slot as it was
pub kept_answer : (j t : ℕ) (h x : Held) → slot_of h.bridge t ≢ j → Kept (owner_of h.bridge t) t h x → AnswerSame j h x
kept_answer j t h x n p =
    let k = owner_of h.bridge t in
    record {
      slot = λ l. kept_slot j k t h x (away h.bridge t j l n) p;
      config = λ e. p.here.config (near h.bridge t (λ f. n (f ∙ sym e)) (dec_lt k 8));
      room = p.store.room;
      beyond = λ i l. kept_beyond k t h x p i l (dec_lt k 8);
    }

pub finished_stays : FinishedStays
finished_stays h s j f = by (came_one_way h s)
  where
    own : (c : Completion) → completion_of s ≡ Ok c → is_open (missing_of h.bridge c.tag) (place_of h.bridge c.tag) ≡ true → {x : Held} {n : ℕ} → Came h s x n → AnswerSame j h x
    own c e o {x} p = kept_answer j c.tag h x (f c.tag o) (own_kept h s c e p)

    by : {x : Held} {n : ℕ} → Came h s x n → AnswerSame j h x
    by (short l) = answer_same j h
    by (malformed l e) = answer_same j h
    by (lost c l e u) = answer_rows j h (raise 21 h.bridge) refl (λ i. (raised_core_lem 21 h.bridge.core).config)
    by (memory c v l e r o m z u) = own c e o (memory c v l e r o m z u)
    by (config c v l e r o m z u) = own c e o (config c v l e r o m z u)
