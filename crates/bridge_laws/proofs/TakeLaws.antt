-- Taking an answer.
use mathlib.Core.Path.{◌≡◌, refl, sym, ap, subst, ◌∙◌}
use mathlib.Core.Bool.{Bool, true, false, not}
use mathlib.Core.List.{List, [], ◌∷◌, ◌++◌}
use Prim.Native.Nat.{ℕ, ◌*◌, ◌<◌, ◌≤◌}
use native.Mathlib.Omega.{arith}
use native.Mathlib.Decide.{dec_lt}
use borrow.Author.Tests.{lt-ltb, le-ltb, eq-eqb, ne_eqb, ltb-true, ltb-false, eqb-true}
use lib.ListN.{length, get_or, take, drop, length-drop, take-append-drop}
use lib.Seq.{get_or-set_other, get_or-take, get_or-drop, length-take-le}
use lib.Dec.{ltb, eqb}
use Rattle.refusals.specs.Table.{take_order, refused_by}
use Rattle.refusals.specs.declared.Response.TheVariants.{Nothing, Okay, Slverr, Decerr, Wait}
use Rattle.machine.specs.Bridge.{Bridge}
use Rattle.parts.specs.Cores.{Core}
use Rattle.parts.specs.Answers.{Answer}
use Rattle.machine.specs.State.{Answered, slot_count, free_config, core_in, response_of, refusal_change, refusal, taken, answered, refused}
use Rattle.machine.specs.Completions.{store_size, size_of}
use Rattle.machine.specs.Take.{state_in, state_of, take_number, take_refusal, looked, slot_freed, release_step}
use Rattle.bridge_laws.specs.ConfigLaws.{ResponseCoded, ReleaseResponds, ReleaseNumber, TakeRefused, PartOf, LookIsPart, LookAtSlot, LookAtConfig, Released, ReleaseFrees, ReleaseOnce}
use Rattle.bridge_laws.proofs.Rows.{either, set_zero}
use Rattle.bridge_laws.proofs.Verbs.{freed_read, freed_config}

-- ---- the refusals

-- what acceptance tells
pub record Passed (room found : ℕ) : Type 0 where
  pub long : store_size ≤ room
  pub finished : found ≡ 2

pub passed : (room found : ℕ) → take_number room found ≡ 0 → Passed room found
unfolding take_number
passed room found e = by (ltb room store_size) (eqb found 2) refl refl e
  where
    by : (p q : Bool) → ltb room store_size ≡ p → eqb found 2 ≡ q → refused_by take_order (p ∷ not q ∷ []) ≡ 0 → Passed room found
    by true q ep eq e = absurd (omega arith)
    by false false ep eq e = absurd (omega arith)
    by false true ep eq e = record { long = ltb-false _ _ ep; finished = eqb-true _ _ eq }

-- and what is enough for it
pub passes : (room found : ℕ) → store_size ≤ room → found ≡ 2 → take_number room found ≡ 0
unfolding take_number
passes room found l e = rw (le-ltb room store_size l, eq-eqb found 2 e)

-- 8 and 14 change nothing
kept : (room found : ℕ) (c : Core) → refusal_change (take_number room found) c ≡ c
unfolding take_number refusal_change
kept room found c =
    either (λ (n : ℕ). refusal_change n c ≡ c) (ltb room store_size) _ _ (λ e. refl)
    (λ e. either (λ (n : ℕ). refusal_change n c ≡ c) (not (eqb found 2)) _ _ (λ f. refl) (λ f. refl))

pub release_number : ReleaseNumber
unfolding release_step refused refusal taken
release_number b room k =
    let n = take_refusal b room k in
    either (λ (x : Answered). x.answer.number ≡ n) (eqb n 0) _ _
    (λ e. either (λ (a : Answer). a.number ≡ n) (ltb k 8) _ _ (λ f. sym (eqb-true _ _ e)) (λ f. sym (eqb-true _ _ e))) (λ e. refl)

pub take_refused : TakeRefused
unfolding looked release_step refused
take_refused b store k h =
    record {
      part = rw (ne_eqb _ _ h);
      step =
          rw (ne_eqb _ _ h)
          (ap (λ (c : Core). answered (core_in c b) (refusal (take_refusal b (length store) k))) (kept (length store) (state_of b k) b.core));
    }

-- ---- the response

pub response_coded : ResponseCoded
unfolding response_of
response_coded Okay l = refl
response_coded Slverr l = refl
response_coded Decerr l = refl
response_coded Nothing l = absurd (omega arith)
response_coded Wait l = absurd (omega arith)

pub release_responds : ReleaseResponds
unfolding release_step taken
release_responds b room k e = (λ l. rw (eq-eqb _ _ e, lt-ltb k slot_count l), λ z. rw (eq-eqb _ _ e, le-ltb k slot_count (omega arith)))

-- ---- the look

pub look_is_part : LookIsPart
unfolding looked
look_is_part b store k =
    let none : PartOf [] store = record { before = []; after = store; whole = refl } in
    let P : List ℕ → Type 0 = λ (x : List ℕ). PartOf x store in
    either P (eqb (take_refusal b (length store) k) 0) _ _
    (λ e. either P (ltb k 8) _ _
    (λ f. record {
      before = take (4096 * k) store;
      after = drop (size_of b k) (drop (4096 * k) store);
      whole =
          ap (λ (x : List ℕ). take (4096 * k) store ++ x) (take-append-drop (size_of b k) (drop (4096 * k) store))
          ∙ take-append-drop (4096 * k) store;
    }) (λ f. none)) (λ e. none)

-- the part of an accepted look at a read's slot
slot_part : (b : Bridge) (store : List ℕ) (k : ℕ) → take_refusal b (length store) k ≡ 0 → k < 8 → looked b store k ≡ take (size_of b k) (drop (4096 * k) store)
unfolding looked
slot_part b store k e h = rw (eq-eqb _ _ e, lt-ltb _ _ h)

pub look_at_slot : LookAtSlot
look_at_slot b store k e h =
    let p = passed (length store) (state_of b k) e in
    record {
      size = ap length (slot_part b store k e h) ∙ length-take-le (size_of b k) (drop (4096 * k) store) (omega (arith, p.long, length-drop (4096 * k) store));
      at = λ i l. ap (λ (s : List ℕ). get_or s i 0) (slot_part b store k e h) ∙ get_or-take (size_of b k) (drop (4096 * k) store) i 0 l ∙ get_or-drop (4096 * k) store i 0;
    }

pub look_at_config : LookAtConfig
unfolding looked
look_at_config b store = either (λ (x : List ℕ). x ≡ []) (eqb (take_refusal b (length store) 8) 0) _ _ (λ e. refl) (λ e. refl)

-- ---- the release

-- there is no slot past 8
pub in_range_lem : (config : ℕ) (states : List ℕ) (k : ℕ) → state_in config states k ≡ 2 → k ≤ 8
unfolding state_in
in_range_lem config states k =
    either (λ (x : ℕ). x ≡ 2 → k ≤ 8) (eqb k 8) _ _ (λ f e. omega (arith, eqb-true k 8 f))
    (λ f. either (λ (x : ℕ). x ≡ 2 → k ≤ 8) (ltb k 8) _ _ (λ g e. omega (arith, ltb-true k 8 g)) (λ g e. absurd (omega arith)))

freed_slot_lem : (b : Bridge) (k : ℕ) → k ≤ 8 → Released b k (slot_freed k b)
unfolding state_in
freed_slot_lem b k h = by (dec_lt k 8)
  where
    by : Dec (k < 8) → Released b k (slot_freed k b)
    by (yes l) =
        let n : k ≡ 8 → ⊥ = λ e. omega arith in
        let o : k ≡ 8 → b.core.config ≡ free_config = λ e. absurd (n e) in
        subst (Released b k) (sym (freed_read k b l))
        (search (set_zero, get_or-set_other, lt-ltb k 8 l, ne_eqb k 8 n))
    by (no l) =
        let z : k ≡ 8 = omega (arith, l) in
        subst (Released b k) (sym (freed_config k b (omega (arith, l))))
        (record {
          free = rw (eq-eqb k 8 z);
          others = λ j d. let m : j ≡ 8 → ⊥ = λ s. d (s ∙ sym z) in rw (ne_eqb j 8 m);
          config = λ m. absurd (omega arith);
          emptied = λ m. refl;
          rest = refl;
        })

freed_bridge : (b : Bridge) (room k : ℕ) → take_refusal b room k ≡ 0 → (release_step b room k).bridge ≡ slot_freed k b
unfolding release_step
freed_bridge b room k e = rw (eq-eqb _ _ e)

pub release_frees : ReleaseFrees
release_frees b room k e =
    let p = passed room (state_of b k) e in
    subst (Released b k) (sym (freed_bridge b room k e)) (freed_slot_lem b k (in_range_lem b.core.config.state b.state k p.finished))

pub release_once : ReleaseOnce
unfolding take_number
release_once b room k e =
    let p = passed room (state_of b k) e in
    rw ((release_frees b room k e).free, le-ltb _ _ p.long)
