-- What comes for an open tag while good completions are due: what is accepted is good, and what is refused carries nothing.
use Prim.Native.Nat.{ℕ, ◌+◌, ◌*◌, ◌%◌, ◌≤◌, ◌<◌}
use mathlib.Core.Path.{◌≡◌, refl, sym, ◌∙◌, subst}
use mathlib.Core.Logic.{inl, inr}
use mathlib.Core.List.{List, [], ◌∷◌}
use mathlib.Core.Bool.{Bool, true, false, cond, not}
use native.Mathlib.Omega.{arith}
use lib.Dec.{ltb, leb, eqb}
use lib.ListN.{length}
use borrow.Author.Tests.{eqb-true, eq-eqb, ne_eqb, ltb-true, lt-ltb, le-ltb, le-leb, not-true}
use Rattle.common.proofs.Tests.{row}
use Rattle.std.specs.Prelude.{Result, Ok}
use Rattle.refusals.specs.declared.Refusal.{Refusal}
use Rattle.tlp.specs.declared.completion.Completion.{Completion}
use Rattle.verdict.specs.declared.Verdict.{Verdict}
use Rattle.verdict.specs.declared.Verdict.TheVariants.{Unexpected, Good, Poisoned}
use Rattle.machine.specs.State.{Bridge, Slot, slot_at, missing_of, owner_of, failure_of, Open, is_write}
use Rattle.machine.specs.Verdict.{useful, memory_verdict, config_verdict, config_shape}
use Rattle.machine.specs.Completions.{Held, next_address, verdict_of, completion_of, config_answer}
use Rattle.bridge_laws.specs.Rows.{finished_slot, closed_slot}
use Rattle.bridge_laws.specs.Effects as effect
use Rattle.bridge_laws.specs.Effects.{Serves, good_part, good_last, poison_part, poison_last}
use Rattle.bridge_laws.proofs.Goodness.{good_exactly}
use Rattle.bridge_laws.proofs.Parts.{same_missing, same_cause}
use Rattle.trace.specs.Events.{Event, completion}
use Rattle.trace.specs.FarSide.{carries, Wire, paired}
use Rattle.trace.specs.Claims.{is_good, good_by, good_bytes, is_good_word, any_good_word}
use Rattle.trace.specs.Sound.{Sound}
use Rattle.trace.proofs.Tags.Turn.{no_path, good_none, GoodNext, good_next, good_not_fails}
use Rattle.trace.proofs.Tags.Wire.{own_of, Stream, Wired}
use Rattle.trace.proofs.Tags.Comes.{Data, verdict_data, verdict_fails_lem}
use Rattle.trace.proofs.Deadline.Events.{one_of}

-- ---- memory reads

abbrev good_tests : Completion → List Bool
good_tests c = carries c ∷ not c.poisoned ∷ ltb (4 * c.length) (c.lower % 4 + c.count + 4) ∷ []

good_ours : (r : ℕ) (c : Completion) → is_good r c ≡ true → c.requester ≡ r
good_ours r c e = eqb-true _ _ (row (eqb c.requester r) (good_tests c) e).0

-- the next that carries data is accepted as good
good_verdict : (r a n next : ℕ) (c : Completion) → a % 128 ≡ next % 128 → GoodNext r a n c → memory_verdict c n next ≡ Good (useful c n)
good_verdict r a n next c z g =
    let x = row (eqb c.requester r) (good_tests c) g.good in
    let y = row (eqb c.status 0) (c.payload ∷ []) x.1.0 in
    let l = ltb-true (4 * c.length) (c.lower % 4 + c.count + 4) x.1.1.1.0 in
    (good_exactly c n next).1
    (record { status = eqb-true _ _ y.0; poisoned = not-true _ x.1.1.0; payload = y.1.0; count = g.count; lower = g.lower ∙ z; length = omega (arith, g.count) })

-- a completion of ours for an open tag is judged by the tag's request
open_verdict : (h : Held) (c : Completion) → Sound h → c.requester ≡ h.bridge.settings.requester → Open h.bridge c.tag
    → verdict_of h.bridge c
    ≡ cond (ltb (owner_of h.bridge c.tag) 8) (memory_verdict c (missing_of h.bridge c.tag) (next_address h.bridge c.tag)) (config_verdict c (is_write h.bridge c.tag))
unfolding verdict_of
open_verdict h c v e m = rw (eq-eqb _ _ e, ne_eqb _ _ m, le-leb _ _ (v.tags c.tag m).whole)

closed_cause : (s : Slot) → (closed_slot s).cause ≡ s.cause
closed_cause s = one_of (λ (y : Slot). y.cause ≡ s.cause) (leb s.pieces 1) (finished_slot s) _ refl refl

-- s comes for tag t, which is open, and l is to come after it
pub record Comes (sent : ℕ → List (List ℕ)) (h : Held) (w : Wire) (es : List Event) (i : ℕ) (s : List ℕ) (c : Completion) (l : List (List ℕ)) : Type 0 where
  pub sound : Sound h
  pub wired : Wired sent h w (completion i s ∷ es)
  pub opens : Open h.bridge c.tag
  pub reads : completion_of s ≡ Ok c
  pub first : paired (own_of w.live c.tag) (completion i s ∷ es) ≡ s ∷ l

module _ {sent : ℕ → List (List ℕ)} {h : Held} {w : Wire} {es : List Event} {i : ℕ} {s : List ℕ} {c : Completion} {l : List (List ℕ)} (q : Comes sent h w es i s c l)
    (r : ℕ) (low : owner_of h.bridge c.tag < 8) (due : good_bytes r (s ∷ l) ≡ missing_of h.bridge c.tag) where
  abbrev b : Bridge
  b = h.bridge

  abbrev t : ℕ
  t = c.tag

  line : Stream sent b (completion i s ∷ es) (own_of w.live t) t
  line = ((q.wired.tags t).opens q.opens).stream low

  next_good : carries c ≡ true → GoodNext r line.next (missing_of b t) c
  next_good f =
      good_next r c s l q.reads f line.next (missing_of b t) (omega (arith, q.opens)) line.flow.sends (rw q.first at line.flow.comes) (omega arith)

  verdict_good : carries c ≡ true → memory_verdict c (missing_of b t) (next_address b t) ≡ Good (useful c (missing_of b t))
  verdict_good f = good_verdict r line.next (missing_of b t) (next_address b t) c line.low (next_good f)

  -- what is refused carries nothing
  pub read_misses : b.settings.requester ≡ r → verdict_of b c ≡ Unexpected → good_bytes r l ≡ missing_of b t
  read_misses e u = by (carries c) refl
    where
      by : (z : Bool) → carries c ≡ z → good_bytes r l ≡ missing_of b t
      by true f =
          let x = open_verdict h c q.sound (good_ours r c (next_good f).good ∙ sym e) q.opens in
          no_path (let y : Good (useful c (missing_of b t)) ≡ Unexpected = sym (verdict_good f) ∙ (sym (rw (lt-ltb _ _ low) at x) ∙ u) in cc)
      by false f = omega (arith, good_none r s c q.reads f)

  -- what comes now, and what is left
  less_due : {n : ℕ} → Data c (missing_of b t) (next_address b t) n → good_bytes r l + n ≡ missing_of b t
  less_due d =
      let g = next_good d.carry in
      let z : good_by r (completion_of s) ≡ useful c (missing_of b t) = rw (q.reads, g.good, g.count) in
      omega (arith, d.amount)

  not_poisoned : {n : ℕ} {A : Type 0} → memory_verdict c (missing_of b t) (next_address b t) ≡ Poisoned n → A
  not_poisoned {n} e =
      let d = verdict_data c (missing_of b t) (next_address b t) n (Poisoned n) e (inr refl) in
      no_path (let y : Good (useful c (missing_of b t)) ≡ Poisoned n = sym (verdict_good d.carry) ∙ e in cc)

  -- what is accepted is good: no piece fails, and what is missing then still comes
  pub read_serves : {k skip : ℕ} {payload : List ℕ} {x : Held} {u : Verdict} → Serves t k skip payload h x u → memory_verdict c (missing_of b t) (next_address b t) ≡ u
      → (failure_of x.bridge k ≡ failure_of b k) × (good_bytes r l ≡ missing_of x.bridge t)
  read_serves (good_part n g a z) e =
      let d = verdict_data c (missing_of b t) (next_address b t) n (Good n) e (inl refl) in
      (same_cause a.slot, omega (arith, less_due d, same_missing a.tag))
  read_serves {k} (good_last n g a z) e =
      let d = verdict_data c (missing_of b t) (next_address b t) n (Good n) e (inl refl) in
      (same_cause a.slot ∙ closed_cause (slot_at b k), omega (arith, less_due d, same_missing a.tag))
  read_serves (poison_part n g a z) e = not_poisoned e
  read_serves (poison_last n g a z) e = not_poisoned e
  read_serves (effect.fails why a z) e =
      absurd
      (good_not_fails r line.next (missing_of b t) c q.reads (omega (arith, q.opens)) line.flow.sends (rw q.first at line.flow.comes) (omega arith)
      (verdict_fails_lem c (missing_of b t) (next_address b t) why _ e refl))

-- ---- configuration accesses

-- the one that comes is the one that is due
due_good : (r : ℕ) (w : Bool) (s : List ℕ) (l : List (List ℕ)) → length (s ∷ l) ≤ 1 → any_good_word r w (s ∷ l) ≡ true → is_good_word r w (completion_of s) ≡ true
due_good r w s [] h f = by (is_good_word r w (completion_of s)) f
  where
    by : (z : Bool) → cond z true false ≡ true → z ≡ true
    by true g = refl
    by false g = g
due_good r w s (x ∷ l) h f = absurd (omega arith)

abbrev word_tests : Bool → Completion → List Bool
word_tests w c = eqb c.status 0 ∷ not c.poisoned ∷ config_shape c w ∷ []

word_ours : (r : ℕ) (w : Bool) (c : Completion) → is_good_word r w (Ok c) ≡ true → c.requester ≡ r
word_ours r w c e = eqb-true _ _ (row (eqb c.requester r) (word_tests w c) e).0

word_verdict : (r : ℕ) (w : Bool) (c : Completion) → is_good_word r w (Ok c) ≡ true → config_verdict c w ≡ Good 4
unfolding config_verdict
word_verdict r w c e = let x = row (eqb c.requester r) (word_tests w c) e in rw (x.1.0, x.1.1.1.0, not-true c.poisoned x.1.1.0)

module _ {sent : ℕ → List (List ℕ)} {h : Held} {w : Wire} {es : List Event} {i : ℕ} {s : List ℕ} {c : Completion} {l : List (List ℕ)} (q : Comes sent h w es i s c l)
    (r : ℕ) (high : 8 ≤ owner_of h.bridge c.tag) (due : any_good_word r (is_write h.bridge c.tag) (s ∷ l) ≡ true) where
  abbrev write : Bool
  write = is_write h.bridge c.tag

  good : is_good_word r write (Ok c) ≡ true
  good =
      let one = ((q.wired.tags c.tag).opens q.opens).word high in
      subst (λ (x : Result Completion Refusal). is_good_word r write x ≡ true) q.reads (due_good r write s l (rw q.first at one) due)

  -- it is not refused
  pub word_comes : h.bridge.settings.requester ≡ r → verdict_of h.bridge c ≡ Unexpected → ⊥
  word_comes e u =
      let x = open_verdict h c q.sound (word_ours r write c good ∙ sym e) q.opens in
      no_path (let y : Good 4 ≡ Unexpected = sym (word_verdict r write c good) ∙ (sym (rw (le-ltb _ _ high) at x) ∙ u) in cc)

  -- and its answer is OKAY
  pub word_answers : (payload : List ℕ) (u : Verdict) → config_verdict c write ≡ u → (config_answer h.bridge.core.config payload u).response ≡ 0
  unfolding config_answer
  word_answers payload u e = subst (λ (z : Verdict). (config_answer h.bridge.core.config payload z).response ≡ 0) (sym (word_verdict r write c good) ∙ e) refl
