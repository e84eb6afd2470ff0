-- One turn of each walk, and tests that come to the same.
use Rattle.std.proofs.Common.{◌≡◌, ◌≢◌, ℕ, zero, suc, ◌+◌, ◌-◌, ◌*◌, ◌%◌, ◌^◌, ◌<◌, ◌≤◌, Bool, true, false, ◌&&◌, ◌||◌, eqb, leb, Some, None, List, get_or, sym, refl, ap, ◌∙◌, one-mul, add-one, arith, lit<, pow_pos, shl_exact, eq-eqb, ne_eqb, eqb-true, le-leb, leb-true}
use borrow.Author.Tests.{lt-leb}
use mathlib.Core.Bool.{false≢true}
use native.Mathlib.Decide.{ℕ_discrete}
use Rattle.address.specs.declared.AxiAddress.{AxiAddress}
use Rattle.address.specs.Windows.{holds, first_from}
use Rattle.address.specs.declared.Windows.{Windows}
use Rattle.address.specs.Settings.{power_among, each_from, windows_right}

-- two tests, each of which holds where the other does
pub same_test : (x y : Bool) → (x ≡ true → y ≡ true) → (y ≡ true → x ≡ true) → x ≡ y
same_test true true f g = refl
same_test true false f g = sym (f refl)
same_test false true f g = g refl
same_test false false f g = refl

-- both parts of a test
pub and_left : (x y : Bool) → x && y ≡ true → x ≡ true
and_left true y e = refl
and_left false y e = e

pub and_right : (x y : Bool) → x && y ≡ true → y ≡ true
and_right true y e = e
and_right false y e = absurd (false≢true e)

-- a sum compared by the difference
pub leb_sub : (b s o : ℕ) → b ≤ o → leb s (o - b) ≡ leb (b + s) o
leb_sub b s o h =
    same_test (leb s (o - b)) (leb (b + s) o) (λ e. le-leb (b + s) o (omega (arith, leb-true s (o - b) e)))
    (λ e. le-leb s (o - b) (omega (arith, leb-true (b + s) o e)))

-- a walk that ended well tested each
pub each_at : (t : ℕ → Bool) (i n : ℕ) → each_from t i n ≡ true → (k : ℕ) → i ≤ k → k < i + n → t k ≡ true
unfolding each_from
each_at t i zero e k h g = absurd (omega arith)
each_at t i (suc n) e k h g = pick (ℕ_discrete i k) (each_at t (suc i) n (and_right (t i) (each_from t (suc i) n) e) k)
  where
    pick : Dec (i ≡ k) → (suc i ≤ k → k < suc i + n → t k ≡ true) → t k ≡ true
    pick (yes p) f = ap t (sym p) ∙ and_left (t i) (each_from t (suc i) n) e
    pick (no p) f = f (omega (arith, p)) (omega arith)

-- a walk that looks for a power of two
pub power_hit : (k n x : ℕ) → x ≡ 2 ^ k → power_among k (suc n) x ≡ true
unfolding power_among
power_hit k n x e = rw (eq-eqb x (2 ^ k) e)

pub power_on : (k n x : ℕ) → (x ≡ 2 ^ k → ⊥) → power_among k (suc n) x ≡ power_among (k + 1) n x
unfolding power_among
power_on k n x e = rw (ne_eqb x (2 ^ k) e, add-one k)

-- a power of two by a shift that loses nothing
pub one_shl : (k w : ℕ) → k < w → 1 * 2 ^ k % 2 ^ w ≡ 2 ^ k
one_shl k w h = shl_exact {a = 1} 1 k w (lit< tt) (omega arith) ∙ one-mul (2 ^ k)

-- a walk that looks for a window
module _ (base size : List ℕ) (a : AxiAddress) where
  pub first_none : (i : ℕ) → first_from base size a i 0 ≡ None
  unfolding first_from
  first_none i = refl

  pub first_hit : (i n : ℕ) → holds (get_or base i 0) (get_or size i 0) a ≡ true → first_from base size a i (suc n) ≡ Some i
  unfolding first_from
  first_hit i n e = rw e

  pub first_on : (i n : ℕ) → holds (get_or base i 0) (get_or size i 0) a ≡ false → first_from base size a i (suc n) ≡ first_from base size a (i + 1) n
  unfolding first_from
  first_on i n e = rw (e, add-one i)

-- what a walk that found a power of two says of it
pub record Power (low n x : ℕ) : Type 0 where
  pub exponent : ℕ
  pub least : low ≤ exponent
  pub most : exponent < low + n
  pub is : x ≡ 2 ^ exponent

power_split : (low n x : ℕ) (t : Bool) → eqb x (2 ^ low) ≡ t → (power_among (suc low) n x ≡ true → Power (suc low) n x) → t || power_among (suc low) n x ≡ true → Power low (suc n) x
power_split low n x true h f g = record { exponent = low; least = omega arith; most = omega arith; is = eqb-true x (2 ^ low) h }
power_split low n x false h f g =
    let p = f g in
    record { exponent = p.exponent; least = omega arith; most = omega arith; is = p.is }

pub power_found : (low n x : ℕ) → power_among low n x ≡ true → Power low n x
unfolding power_among
power_found low zero x e = absurd (false≢true e)
power_found low (suc n) x e = power_split low n x (eqb x (2 ^ low)) refl (power_found (suc low) n x) e

pub power_in : (low n x k : ℕ) → low ≤ k → k < low + n → x ≡ 2 ^ k → power_among low n x ≡ true
power_in low zero x k h g e = absurd (omega arith)
power_in low (suc n) x k h g e = by (ℕ_discrete x (2 ^ low)) (λ d. power_in (low + 1) n x k d (omega arith) e)
  where
    by : Dec (x ≡ 2 ^ low) → (low + 1 ≤ k → power_among (low + 1) n x ≡ true) → power_among low (suc n) x ≡ true
    by (yes p) f = power_hit low n x p
    by (no p) f =
        let d : low ≢ k = λ q. p (e ∙ ap (λ (j : ℕ). 2 ^ j) (sym q)) in
        power_on low n x p ∙ f (omega (arith, d))

pub power_pos : (low n x : ℕ) → power_among low n x ≡ true → 0 < x
power_pos low n x e = let p = power_found low n x e in rw p.is (pow_pos p.exponent)

-- one window more than there is room for
pub seven_windows : (w : Windows) → 6 < w.count → windows_right w ≡ false
unfolding windows_right
seven_windows w h = rw (le-leb 1 w.count (omega arith), lt-leb w.count 6 h)
