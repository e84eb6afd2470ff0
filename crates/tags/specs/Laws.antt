-- What is proved of free tags, for every number n of them.
use Rattle.std.specs.Prelude.{◌≡◌, List, ◌∷◌, true, false, ℕ, suc, ◌-◌, ◌^◌, ◌≤◌, ◌<◌, get_or, drop}
use Rattle.std.specs.Int.Count.{ones, count_trailing_zeros}
use Rattle.bits.specs.Bits.{is_set, set_bit, clear_bit}
use Rattle.tags.specs.Tags.{free_tags, lowest, available, without, lowest_few}

-- ---- the list of free tags

-- each tag of the list is one of the n, and free
pub record FreeTag (n w t : ℕ) : Type 0 where
  pub below : t < n
  pub free : is_set w t ≡ true

abbrev pub ListedIsFree : Type 0
ListedIsFree = (n w i : ℕ) → i < available n w → FreeTag n w (get_or (free_tags n w) i 0)

-- each free one stands in it, after as many as are free below it
pub record Listed (n w t : ℕ) : Type 0 where
  pub inside : available t w < available n w
  pub here : get_or (free_tags n w) (available t w) 0 ≡ t

abbrev pub FreeIsListed : Type 0
FreeIsListed = (n w t : ℕ) → FreeTag n w t → Listed n w t

-- the list rises
abbrev pub Rising : Type 0
Rising = (n w i j : ℕ) → i < j → j < available n w → get_or (free_tags n w) i 0 < get_or (free_tags n w) j 0

-- ---- the lowest, and how many

-- the lowest is free, and none below it is
pub record Lowest (n w t : ℕ) : Type 0 where
  pub tag : FreeTag n w t
  pub none : (i : ℕ) → i < t → is_set w i ≡ false

abbrev pub LowestIs : Type 0
LowestIs = (n w : ℕ) → 0 < available n w → Lowest n w (lowest n w)

-- trailing zeros find it
abbrev pub LowestByZeros : Type 0
LowestByZeros = (n w : ℕ) → count_trailing_zeros n w ≡ lowest n w

-- counting ones counts them
abbrev pub AvailableByOnes : Type 0
AvailableByOnes = (n w : ℕ) → w < 2 ^ n → ones w ≡ available n w

-- there are at most n
abbrev pub AvailableWithin : Type 0
AvailableWithin = (n w : ℕ) → available n w ≤ n

-- the word of n ones has n free tags
abbrev pub AllFree : Type 0
AllFree = (n : ℕ) → available n (2 ^ n - 1) ≡ n

-- ---- taking and freeing

-- taking the first tag of the list leaves the rest
abbrev pub TakeFirst : Type 0
TakeFirst = (n w t : ℕ) (ts : List ℕ) → free_tags n w ≡ t ∷ ts → free_tags n (clear_bit w t) ≡ ts

-- taking any free tag leaves one less
abbrev pub TakeOneLess : Type 0
TakeOneLess = (n w t : ℕ) → FreeTag n w t → available n w ≡ suc (available n (clear_bit w t))

-- freeing a taken one gives one more
abbrev pub FreeOneMore : Type 0
FreeOneMore = (n w t : ℕ) → t < n → is_set w t ≡ false → available n (set_bit n w t) ≡ suc (available n w)

-- after the k lowest are taken the others are free, and no more
abbrev pub TakeFewLeaves : Type 0
TakeFewLeaves = (n w k : ℕ) → free_tags n (without w (lowest_few n w k)) ≡ drop k (free_tags n w)

-- k takes of the lowest, one by one, take the k lowest
abbrev pub TakeOneByOne : Type 0
TakeOneByOne =
    (n w k : ℕ)
    → k < available n w
    → without w (lowest_few n w (suc k)) ≡ clear_bit (without w (lowest_few n w k)) (lowest n (without w (lowest_few n w k)))

-- and the tag of turn k is the list's k-th
abbrev pub TurnTakes : Type 0
TurnTakes = (n w k : ℕ) → k < available n w → lowest n (without w (lowest_few n w k)) ≡ get_or (free_tags n w) k 0
