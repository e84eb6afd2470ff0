-- When data is good.
use Prim.Native.Nat.{ℕ}
use mathlib.Core.Path.{◌≡◌, refl}
use mathlib.Core.Bool.{Bool, true, false, cond}
use native.Mathlib.Omega.{arith}
use lib.Dec.{eqb}
use borrow.Author.Tests.{eqb-true, ltb-true, eq-eqb, lt-ltb}
use Rattle.common.proofs.Tests.{row, holds}
use Rattle.tlp.specs.declared.completion.Completion.{Completion}
use Rattle.verdict.specs.declared.Verdict.TheVariants.{Unexpected, Good, Poisoned, Failed}
use Rattle.machine.specs.Verdict.{cause_of, useful, in_order, received, memory_verdict}
use Rattle.machine.proofs.Judging.{order_tests}
use Rattle.bridge_laws.specs.CompletionLaws.{IsGood, GoodExactly}

module _ (c : Completion) (missing next : ℕ) where
  received_good : (n : ℕ) → eqb c.status 0 ≡ true → in_order c missing next ≡ true → (p : Bool) → c.poisoned ≡ p → cond p (Poisoned (useful c missing)) (Good (useful c missing)) ≡ Good n → IsGood c missing next × (n ≡ useful c missing)
  received_good n s o true p e = let z : ◌≡◌ {A = ℕ} 0 1 = cc in absurd (omega arith)
  received_good n s o false p e =
      let r = row c.payload (order_tests c missing next) o in (
        record {
          status = eqb-true _ _ s;
          poisoned = p;
          payload = r.0;
          count = eqb-true _ _ r.1.0;
          lower = eqb-true _ _ r.1.1.0;
          length = ltb-true _ _ r.1.1.1.0;
        },
        cc,
      )

  good_by_lem : (n : ℕ) (s : Bool) → eqb c.status 0 ≡ s → (o : Bool) → in_order c missing next ≡ o → (r : Bool) → cond s (cond o (received c (useful c missing)) Unexpected) (cond r Unexpected (Failed (cause_of c.status))) ≡ Good n → IsGood c missing next × (n ≡ useful c missing)
  good_by_lem n true s true o r e = received_good n s o c.poisoned refl e
  good_by_lem n true s false o r e = let z : ◌≡◌ {A = ℕ} 0 1 = cc in absurd (omega arith)
  good_by_lem n false s o f true e = let z : ◌≡◌ {A = ℕ} 0 1 = cc in absurd (omega arith)
  good_by_lem n false s o f false e = let z : ◌≡◌ {A = ℕ} 0 1 = cc in absurd (omega arith)

  in_order_lem : IsGood c missing next → in_order c missing next ≡ true
  in_order_lem g =
      holds c.payload (order_tests c missing next)
      (g.payload, (eq-eqb _ _ g.count, (eq-eqb _ _ g.lower, (lt-ltb _ _ g.length, tt))))

pub good_exactly : GoodExactly
unfolding memory_verdict
good_exactly c missing next = (
  λ n e. good_by_lem c missing next n (eqb c.status 0) refl (in_order c missing next) refl (eqb c.status 2) e,
  λ g. rw (eq-eqb _ _ g.status, in_order_lem c missing next g, g.poisoned),
)
