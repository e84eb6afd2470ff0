-- Rows of tests, as the header rules and the local words have them.
use Rattle.std.specs.Prelude.{ℕ, List, [], ◌∷◌, Bool, true, cond, ◌&&◌}

-- every test of a row holds
abbrev pub every : List Bool → Bool
every [] = true
every (t ∷ ts) = t && every ts

-- the number beside the first test that holds, and 0 where none does
abbrev pub first_of : List (Bool × ℕ) → ℕ
first_of [] = 0
first_of ((t, n) ∷ rest) = cond t n (first_of rest)
