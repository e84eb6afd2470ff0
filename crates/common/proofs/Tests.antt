-- What a row of tests, `a && b && c`, tells once it holds, and what makes it hold.
use mathlib.Core.Path.{◌≡◌, refl}
use mathlib.Core.Bool.{Bool, true, false, ◌&&◌, ◌||◌}
use mathlib.Core.List.{List, [], ◌∷◌}
use mathlib.Core.Logic.{◌⊎◌, inl, inr}

pub and_left : (a b : Bool) → a && b ≡ true → a ≡ true
and_left true b e = refl
and_left false b e = e

pub and_right : (a b : Bool) → a && b ≡ true → b ≡ true
and_right true b e = e
and_right false b e = cc

pub or_either : (a b : Bool) → a || b ≡ true → (a ≡ true) ⊎ (b ≡ true)
or_either true b e = inl refl
or_either false b e = inr e

-- the row that starts with a test and goes on with a list of them
abbrev pub joined : Bool → List Bool → Bool
joined t [] = t
joined t (u ∷ us) = joined (t && u) us

-- each test of a list holds
abbrev pub Each : List Bool → Type 0
Each [] = Unit
Each (t ∷ ts) = (t ≡ true) × Each ts

pub row : (t : Bool) (ts : List Bool) → joined t ts ≡ true → Each (t ∷ ts)
row t [] e = (e, tt)
row t (u ∷ us) e = let r = row (t && u) us e in (and_left t u r.0, (and_right t u r.0, r.1))

pub holds : (t : Bool) (ts : List Bool) → Each (t ∷ ts) → joined t ts ≡ true
holds t [] r = r.0
holds t (u ∷ us) r = holds (t && u) us (rw (r.0, r.1.0), r.1.1)
