-- The rows after a setter, and the laws of columns by which the effect of every step is found.
use Prim.Native.Nat.{ℕ, zero, suc, ◌<◌}
use mathlib.Core.Path.{◌≡◌, refl}
use mathlib.Core.Bool.{Bool, true, false, cond}
use mathlib.Core.List.{List, [], ◌∷◌}
use lib.ListN.{length, get_or, set, replicate, length-set}
use lib.Seq.{get_or-set_same, get_or-set_other}
use Rattle.machine.specs.State.{tag_count, slot_count}
use Rattle.bridge_laws.specs.RowLaws.{SettersAlone}

-- what a test decides, by its two cases
pub either : {A : Type 0} (P : A → Type 0) (z : Bool) (x y : A) → (z ≡ true → P x) → (z ≡ false → P y) → P (cond z x y)
either P true x y f g = f refl
either P false x y f g = g refl

-- a column of the right length has an entry for each tag, or for each slot
pub tag_fits : (l : List ℕ) (t : ℕ) → length l ≡ tag_count → t < tag_count → t < length l
tag_fits l t e h = rw e h

pub slot_fits : (l : List ℕ) (k : ℕ) → length l ≡ slot_count → k < slot_count → k < length l
slot_fits l k e h = rw e h

-- a column of zeros, and a zero that is put
pub zeros : (n i : ℕ) → get_or {A = ℕ} (replicate n 0) i 0 ≡ 0
zeros zero i = refl
zeros (suc n) zero = refl
zeros (suc n) (suc i) = zeros n i

pub set_zero : (l : List ℕ) (t : ℕ) → get_or (set l t 0) t 0 ≡ 0
set_zero [] t = refl
set_zero (x ∷ l) zero = refl
set_zero (x ∷ l) (suc t) = set_zero l t

-- what an entry that is put leaves, and where it stands
pub ruleset columns = (get_or-set_other, length-set, get_or-set_same, tag_fits, slot_fits)

pub setters_alone : SettersAlone
setters_alone = search columns
