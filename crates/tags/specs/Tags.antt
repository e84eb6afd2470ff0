-- The tags 0 to n - 1. A word has a one at each that is free.
use Rattle.std.specs.Prelude.{ℕ, zero, suc, List, [], ◌∷◌, cond, length, get_or, take}
use Rattle.bits.specs.Bits.{is_set, clear_bit}

-- the free ones of the m tags from k on, in rising order
unfoldable pub free_from : ℕ → ℕ → ℕ → List ℕ
free_from k zero w = []
free_from k (suc m) w = cond (is_set w k) (k ∷ free_from (suc k) m w) (free_from (suc k) m w)

-- the free tags, in rising order
abbrev pub free_tags : ℕ → ℕ → List ℕ
free_tags n w = free_from 0 n w

-- 'the lowest-numbered free tag'; n where none is free
abbrev pub lowest : ℕ → ℕ → ℕ
lowest n w = get_or (free_tags n w) 0 n

-- how many are free
abbrev pub available : ℕ → ℕ → ℕ
available n w = length (free_tags n w)

-- the word once these tags are taken, one after the other
unfoldable pub without : ℕ → List ℕ → ℕ
without w [] = w
without w (t ∷ ts) = without (clear_bit w t) ts

-- the k lowest free tags, or all of them where there are fewer
abbrev pub lowest_few : ℕ → ℕ → ℕ → List ℕ
lowest_few n w k = take k (free_tags n w)
