-- How many open tags name a slot.
use Prim.Native.Nat.{ℕ, zero, suc, ◌+◌, ◌≤◌, ◌<◌}
use mathlib.Core.Path.{◌≡◌, refl, sym, ap, ◌∙◌}
use mathlib.Core.Logic.{◌≢◌}
use mathlib.Core.Bool.{Bool, true, false, cond, not}
use native.Mathlib.Omega.{arith}
use native.Mathlib.Decide.{ℕ_discrete}
use lib.Dec.{eqb}
use borrow.Author.Tests.{eqb-true, eqb-false, eq-eqb, ne_eqb, not-true}
use Rattle.common.proofs.Tests.{and_left, and_right}
use Rattle.machine.specs.Bridge.{Bridge}
use Rattle.machine.specs.State.{missing_of, owner_of, Open}
use Rattle.trace.specs.Sound.{named, open_in}
use Rattle.trace.proofs.Soundness.Cases.{at_each, by_test}

-- ---- whether a tag is open for a slot

pub record Names (b : Bridge) (k t : ℕ) : Type 0 where
  pub missing : Open b t
  pub owner : owner_of b t ≡ k

pub named_is : (b : Bridge) (k t : ℕ) → named b k t ≡ true → Names b k t
named_is b k t e = record {
  missing = eqb-false _ _ (not-true _ (and_left (not (eqb (missing_of b t) 0)) (eqb (owner_of b t) k) e));
  owner = eqb-true _ _ (and_right (not (eqb (missing_of b t) 0)) (eqb (owner_of b t) k) e);
}

pub is_named : (b : Bridge) (k t : ℕ) → Open b t → owner_of b t ≡ k → named b k t ≡ true
is_named b k t m o = rw (ne_eqb _ _ m, eq-eqb _ _ o)

pub closed_unnamed : (b : Bridge) (k t : ℕ) → missing_of b t ≡ 0 → named b k t ≡ false
closed_unnamed b k t m = rw (eq-eqb _ _ m)

-- a test depends on the two numbers alone
pub named_same : (b x : Bridge) (k t : ℕ) → missing_of x t ≡ missing_of b t → owner_of x t ≡ owner_of b t → named x k t ≡ named b k t
named_same b x k t m o = rw (m, o)

-- what a tag adds to a slot's count
abbrev pub weight : Bridge → ℕ → ℕ → ℕ
weight b k t = cond (named b k t) 1 0

pub weighs : (b : Bridge) (k t : ℕ) → Open b t → owner_of b t ≡ k → weight b k t ≡ 1
weighs b k t m o = rw (is_named b k t m o)

pub weightless : (b : Bridge) (k t : ℕ) → missing_of b t ≡ 0 → weight b k t ≡ 0
weightless b k t m = rw (closed_unnamed b k t m)

-- a tag that is open for slot k at most counts for no other
pub no_weight : (b : Bridge) (t k j : ℕ) → (Open b t → owner_of b t ≡ k) → j ≢ k → weight b j t ≡ 0
no_weight b t k j o d =
    by_test (λ (n : ℕ). n ≡ 0) (named b j t) (λ e. let n = named_is b j t e in absurd (d (sym n.owner ∙ o n.missing))) (λ e. refl)

-- ---- how many are

pub open_same : (b x : Bridge) (k n : ℕ) → ((u : ℕ) → named x k u ≡ named b k u) → open_in x k n ≡ open_in b k n
unfolding open_in
open_same b x k zero h = refl
open_same b x k (suc n) h = rw (open_same b x k n h, h n)

-- where every tag but t counts as before, the counts differ by what t adds
module _ (b x : Bridge) (k t : ℕ) (others : (u : ℕ) → u ≢ t → named x k u ≡ named b k u) where
  below : (n : ℕ) → n ≤ t → open_in x k n ≡ open_in b k n
  unfolding open_in
  below zero h = refl
  below (suc n) h = rw (below n (omega arith), others n (λ e. omega arith))

  pub open_change : (n : ℕ) → t < n → open_in x k n + weight b k t ≡ open_in b k n + weight x k t
  unfolding open_in
  open_change zero h = absurd (omega arith)
  open_change (suc n) h = go (ℕ_discrete n t) (open_change n)
    where
      go : Dec (n ≡ t) → (t < n → open_in x k n + weight b k t ≡ open_in b k n + weight x k t)
          → open_in x k (suc n) + weight b k t ≡ open_in b k (suc n) + weight x k t
      go (yes e) ih = omega (arith, below n (omega arith), ap (weight b k) e, ap (weight x k) e)
      go (no e) ih =
          let p : weight x k n ≡ weight b k n = rw (others n e) in
          omega (arith, ih (omega arith), p)

pub open_counted : (b : Bridge) (k t n : ℕ) → named b k t ≡ true → t < n → 0 < open_in b k n
unfolding open_in
open_counted b k t zero e h = absurd (omega arith)
open_counted b k t (suc n) e h =
    at_each (λ i. named b k i ≡ true → i < suc n → 0 < open_in b k n + weight b k n) n (λ f l. let p : weight b k n ≡ 1 = rw f in omega (arith, p))
    (λ i d f l. omega (arith, open_counted b k i n f (omega arith))) t e h

-- where some are open, one can be named
pub record Found (b : Bridge) (k n : ℕ) : Type 0 where
  pub tag : ℕ
  pub low : tag < n
  pub names : named b k tag ≡ true

pub open_found : (b : Bridge) (k n : ℕ) → 0 < open_in b k n → Found b k n
unfolding open_in
open_found b k zero h = absurd (omega arith)
open_found b k (suc n) h =
    by_test (λ (w : ℕ). 0 < open_in b k n + w → Found b k (suc n)) (named b k n) (λ e l. record { tag = n; low = omega arith; names = e })
    (λ e l. let f = open_found b k n (omega arith) in record { tag = f.tag; low = omega (arith, f.low); names = f.names }) h

-- where none is, every tag of the slot is closed
pub open_none : (b : Bridge) (k n t : ℕ) → open_in b k n ≡ 0 → t < n → named b k t ≡ false
open_none b k n t e h = go (named b k t) refl
  where
    go : (z : Bool) → named b k t ≡ z → named b k t ≡ false
    go true f = absurd (omega (arith, open_counted b k t n f h))
    go false f = f

-- where no tag is open, none is counted
pub all_closed : (b : Bridge) (k n : ℕ) → ((t : ℕ) → missing_of b t ≡ 0) → open_in b k n ≡ 0
unfolding open_in
all_closed b k zero h = refl
all_closed b k (suc n) h = omega (arith, all_closed b k n h, weightless b k n (h n))
