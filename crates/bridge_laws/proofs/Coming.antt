-- What can come of a completion: the cases, and that there is no other.
use Prim.Native.Nat.{ℕ, ◌≤◌}
use mathlib.Core.Path.{◌≡◌, refl, sym}
use mathlib.Core.Bool.{Bool, true, false, cond, ◌&&◌}
use mathlib.Core.List.{List, [], ◌∷◌}
use lib.ListN.{length, drop}
use lib.Dec.{ltb, eqb}
use borrow.Author.Tests.{ltb-true, ltb-false, eqb-true}
use Rattle.std.specs.Prelude.{Result, Ok, Err}
use Rattle.refusals.specs.declared.Refusal.{Refusal}
use Rattle.tlp.proofs.Refused.{refused_malformed}
use Rattle.tlp.specs.declared.completion.Completion.{Completion}
use Rattle.refusals.specs.Table.{refused_by, completion_order}
use Rattle.machine.specs.Bridge.{Bridge}
use Rattle.verdict.specs.declared.Verdict.{Verdict}
use Rattle.verdict.specs.declared.Verdict.TheVariants.{Unexpected, Good, Poisoned, Failed}
use Rattle.machine.specs.State.{core_in, missing_of, owner_of, place_of, is_open, is_write, refusal_change}
use Rattle.machine.specs.Verdict.{memory_verdict, config_verdict}
use Rattle.machine.specs.Completions.{store_size, Held, held, next_address, verdict_of, completion_of, is_unexpected, read_refused, complete_refusal, expected, completed_by, completed}
use Rattle.bridge_laws.specs.CompletionLaws.{Ours, Came, short, malformed, lost, memory, config, CameOneWay, is_malformed, is_not_expected, CompletionOrder}
use Rattle.machine.proofs.Judging.{never}
use Rattle.bridge_laws.proofs.Rows.{either}

unexpected_is : (v : Verdict) → is_unexpected v ≡ true → v ≡ Unexpected
unexpected_is Unexpected e = refl
unexpected_is (Good n) e = never (sym e)
unexpected_is (Poisoned n) e = never (sym e)
unexpected_is (Failed cause) e = never (sym e)

-- ---- an expected completion: the requester ID is ours, the tag is open, and the verdict is by its request

expected_by : (x : Verdict) (q o : Bool) → is_unexpected (cond (q && o) x Unexpected) ≡ false → (q ≡ true) × ((o ≡ true) × (cond (q && o) x Unexpected ≡ x))
expected_by x true true e = (refl, (refl, refl))
expected_by x true false e = never e
expected_by x false o e = never e

module _ (b : Bridge) (c : Completion) (e : is_unexpected (verdict_of b c) ≡ false) where
  is_expected : (eqb c.requester b.settings.requester ≡ true) × ((is_open (missing_of b c.tag) (place_of b c.tag) ≡ true) × (verdict_of b c
      ≡ cond (ltb (owner_of b c.tag) 8) (memory_verdict c (missing_of b c.tag) (next_address b c.tag)) (config_verdict c (is_write b c.tag))))
  unfolding verdict_of
  is_expected = expected_by _ _ _ e

  pub verdict_open : is_open (missing_of b c.tag) (place_of b c.tag) ≡ true
  verdict_open = is_expected.1.0

  pub verdict_memory : ltb (owner_of b c.tag) 8 ≡ true → verdict_of b c ≡ memory_verdict c (missing_of b c.tag) (next_address b c.tag)
  verdict_memory m = rw m at is_expected.1.1

  verdict_ours : Ours b c
  verdict_ours = eqb-true _ _ is_expected.0

  verdict_config : ltb (owner_of b c.tag) 8 ≡ false → verdict_of b c ≡ config_verdict c (is_write b c.tag)
  verdict_config m = rw m at is_expected.1.1

-- ---- the cases

module _ (h : Held) (s : List ℕ) where
  -- bridge and store after a completion, by its number
  abbrev after : Result Completion Refusal → ℕ → Held
  after r n = cond (eqb n 0) (completed_by h s r) (held (core_in (refusal_change n h.bridge.core) h.bridge) h.store)

  by_owner : store_size ≤ length h.store → (c : Completion) → completion_of s ≡ Ok c → is_unexpected (verdict_of h.bridge c) ≡ false
      → Came h s (expected h c (drop 12 s)) 0
  unfolding expected
  by_owner l c e u =
      let b = h.bridge in
      let v = verdict_of b c in
      either (λ (x : Held). Came h s x 0) (ltb (owner_of b c.tag) 8) _ _
      (λ z. memory c v l e (verdict_ours b c u) (verdict_open b c u) (ltb-true _ _ z) (sym (verdict_memory b c u z)) u)
      (λ z. config c v l e (verdict_ours b c u) (verdict_open b c u) (ltb-false _ _ z) (sym (verdict_config b c u z)) u)

  by_read : store_size ≤ length h.store → (r : Result Completion Refusal) → completion_of s ≡ r
      → Came h s (after r (read_refused h.bridge r)) (read_refused h.bridge r)
  unfolding refusal_change
  by_read l (Ok c) e =
      either (λ (n : ℕ). Came h s (after (Ok c) n) n) (is_unexpected (verdict_of h.bridge c)) 13 0
      (λ u. lost c l e (unexpected_is (verdict_of h.bridge c) u)) (λ u. by_owner l c e u)
  by_read l (Err r) e = malformed l (refused_malformed s r e)

pub came_one_way : CameOneWay
unfolding completed complete_refusal refusal_change
came_one_way h s =
    either (λ (n : ℕ). Came h s (after h s (completion_of s) n) n) (ltb (length h.store) store_size) 8 _
    (λ z. short (ltb-true _ _ z)) (λ z. by_read h s (ltb-false _ _ z) (completion_of s) refl)

-- ---- the order of its refusals

pub completion_order_lem : CompletionOrder
unfolding complete_refusal
completion_order_lem b room s = by (completion_of s)
  where
    by : (r : Result Completion Refusal) → cond (ltb room store_size) 8 (read_refused b r) ≡ refused_by completion_order (ltb room store_size ∷ is_malformed r ∷ is_not_expected b r ∷ [])
    by (Ok c) = refl
    by (Err r) = refl
