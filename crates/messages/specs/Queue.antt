-- A queue of messages (02, A1): the list of its entries, oldest first. An entry is the word that its register shows.
use Rattle.std.specs.Prelude.{ℕ, List, [], ◌∷◌, ◌++◌, Bool, true, false, cond, length, leb}

-- '32 entries deep'
abbrev pub depth : ℕ
depth = 32

abbrev pub is_empty : List ℕ → Bool
is_empty [] = true
is_empty (e ∷ q) = false

abbrev pub is_full : List ℕ → Bool
is_full q = leb depth (length q)

-- the newest goes last; 'Overflow drops the newest'
abbrev pub push : List ℕ → ℕ → List ℕ
push q e = cond (is_full q) q (q ++ e ∷ [])

-- 'removes the oldest entry'; of an empty queue none
abbrev pub pop : List ℕ → List ℕ
pop [] = []
pop (e ∷ q) = q

-- what the register shows; 0 where the queue is empty
abbrev pub oldest : List ℕ → ℕ
oldest [] = 0
oldest (e ∷ q) = e
