-- Arguments by cases: on a number, and on a test.
use Prim.Native.Nat.{ℕ}
use mathlib.Core.Path.{◌≡◌, refl, sym, subst}
use mathlib.Core.Logic.{◌≢◌}
use mathlib.Core.Bool.{Bool, true, false, cond}
use native.Mathlib.Decide.{ℕ_discrete}

-- of one number, and of each other
pub at_each : (P : ℕ → Type 0) (k : ℕ) → P k → ((j : ℕ) → j ≢ k → P j) → (j : ℕ) → P j
at_each P k h o j = go (ℕ_discrete j k)
  where
    go : Dec (j ≡ k) → P j
    go (yes e) = subst P (sym e) h
    go (no d) = o j d

-- an equation that follows where it does not hold
pub or_else : (a b : ℕ) → (a ≢ b → a ≡ b) → a ≡ b
or_else a b h = at_each (λ j. j ≡ a → j ≡ b) b (λ e. refl) (λ j d e. subst (λ i. i ≡ b) (sym e) (h (λ f. d (subst (λ i. i ≡ b) (sym e) f)))) a refl

-- where a test holds, and where it fails
pub by_test : {A : Type 0} (P : A → Type 0) (z : Bool) {a b : A} → (z ≡ true → P a) → (z ≡ false → P b) → P (cond z a b)
by_test P true p q = p refl
by_test P false p q = q refl
