-- The laws of free tags, by induction over how many there are.
use mathlib.Core.Path.{◌≡◌, refl, sym, ap, ◌∙◌, subst, subst⁻¹}
use mathlib.Core.List.{List, [], ◌∷◌, ◌++◌}
use mathlib.Core.Bool.{Bool, true, false, cond, not}
use Prim.Native.Nat.{ℕ, zero, suc, ◌+◌, ◌-◌, ◌/◌, ◌%◌, ◌^◌, ◌≤◌, ◌<◌, zero-le, suc-le-suc}
use native.Mathlib.Nat.{not-suc-le-zero, le_of_suc-le-suc, zero-lt-suc, le_refl, le_of_lt, sub-zero, add-zero, eq-or-lt_of_le, mod-lt}
use native.Mathlib.Omega.{arith}
use mathlib.Core.Logic.{⊎_elim}
use lib.ListN.{length, get_or, take, drop}
use lib.Seq.{take-suc, get_or-drop}
use lib.Arith.{lt-one}
use lib.Pow.{pow_pos}
use lib.Count.{ones, ones_step, count_trailing_zeros, under}
use Rattle.bits.specs.Bits.{is_set, set_bit, clear_bit}
use Rattle.bits.proofs.Bits.{first_bit, next_bit, bit_small, half_fits, bit_set, bit_clear, same_bit, none_above, set_sets, clear_clears}
use Rattle.bits.proofs.Words.{not_bits}
use Rattle.tags.specs.Tags.{free_from, free_tags, lowest, available, without}
use Rattle.tags.specs.Laws.{ListedIsFree, FreeIsListed, Rising, LowestIs, LowestByZeros, AvailableByOnes, AvailableWithin, AllFree, TakeFirst, TakeOneLess, FreeOneMore, TakeFewLeaves, TakeOneByOne, TurnTakes}

differ : (i j : ℕ) → i < j → i ≡ j → ⊥
differ i j h e = omega arith

-- ---- the list, one tag at a time

from_free : (k m w : ℕ) → is_set w k ≡ true → free_from k (suc m) w ≡ k ∷ free_from (suc k) m w
unfolding free_from
from_free k m w e = rw e

from_taken : (k m w : ℕ) → is_set w k ≡ false → free_from k (suc m) w ≡ free_from (suc k) m w
unfolding free_from
from_taken k m w e = rw e

-- words that agree on these tags have the same free ones
from_same : (m k a b : ℕ) → ((i : ℕ) → k ≤ i → is_set a i ≡ is_set b i) → free_from k m a ≡ free_from k m b
unfolding free_from
from_same zero k a b s = refl
from_same (suc m) k a b s = rw (s k (le_refl k), from_same m (suc k) a b (λ i h. s i (le_of_lt h)))

-- each of the list: where it lies, and that it is free
record Within (k m w t : ℕ) : Type 0 where
  from : k ≤ t
  up_to : t < k + m
  free : is_set w t ≡ true

wider : (k m w t : ℕ) → Within (suc k) m w t → Within k (suc m) w t
wider k m w t h = record { from = le_of_lt h.from; up_to = omega (arith, h.up_to); free = h.free }

within : (m k w i : ℕ) → i < length (free_from k m w) → Within k m w (get_or (free_from k m w) i 0)
unfolding free_from
within zero k w i h = absurd (not-suc-le-zero h)
within (suc m) k w i h = by (is_set w k) refl i h (λ j l. within m (suc k) w j l)
  where
    by : (x : Bool) → is_set w k ≡ x → (i : ℕ) → i < length (cond x (k ∷ free_from (suc k) m w) (free_from (suc k) m w))
        → ((j : ℕ) → j < length (free_from (suc k) m w) → Within (suc k) m w (get_or (free_from (suc k) m w) j 0))
        → Within k (suc m) w (get_or (cond x (k ∷ free_from (suc k) m w) (free_from (suc k) m w)) i 0)
    by true e zero h rest = record { from = le_refl k; up_to = omega arith; free = e }
    by true e (suc i) h rest = wider k m w (get_or (free_from (suc k) m w) i 0) (rest i (le_of_suc-le-suc h))
    by false e i h rest = wider k m w (get_or (free_from (suc k) m w) i 0) (rest i h)

pub listed_is_free : ListedIsFree
listed_is_free n w i h = let t = within n 0 w i h in record { below = omega (arith, t.up_to); free = t.free }

-- ---- rising

rises : (m k w i j : ℕ) → i < j → j < length (free_from k m w) → get_or (free_from k m w) i 0 < get_or (free_from k m w) j 0
unfolding free_from
rises zero k w i j h l = absurd (not-suc-le-zero l)
rises (suc m) k w i j h l = by (is_set w k) i j h l (λ i j h l. rises m (suc k) w i j h l)
  where
    by : (x : Bool) (i j : ℕ) → i < j → j < length (cond x (k ∷ free_from (suc k) m w) (free_from (suc k) m w))
        → ((i j : ℕ) → i < j → j < length (free_from (suc k) m w) → get_or (free_from (suc k) m w) i 0 < get_or (free_from (suc k) m w) j 0)
        → get_or (cond x (k ∷ free_from (suc k) m w) (free_from (suc k) m w)) i 0 < get_or (cond x (k ∷ free_from (suc k) m w) (free_from (suc k) m w)) j 0
    by true i zero h l rest = absurd (not-suc-le-zero h)
    by true zero (suc j) h l rest = (within m (suc k) w j (le_of_suc-le-suc l)).from
    by true (suc i) (suc j) h l rest = rest i j (le_of_suc-le-suc h) (le_of_suc-le-suc l)
    by false i j h l rest = rest i j h l

pub rising : Rising
rising n w i j h l = rises n 0 w i j h l

-- ---- each free tag has its place

-- the place of tag t = k + d in the list from k on
record Place (k m w d t : ℕ) : Type 0 where
  inside : length (free_from k d w) < length (free_from k m w)
  here : get_or (free_from k m w) (length (free_from k d w)) 0 ≡ t

place : (d m k w t : ℕ) → t ≡ k + d → d < m → is_set w t ≡ true → Place k m w d t
unfolding free_from
place d zero k w t e l f = absurd (not-suc-le-zero l)
place zero (suc m) k w t e l f =
    let z : t ≡ k = omega arith in
    let g : is_set w k ≡ true = rw z at f in
    record { inside = rw (from_free k m w g) (zero-lt-suc (length (free_from (suc k) m w))); here = rw (from_free k m w g) (sym z) }
place (suc d) (suc m) k w t e l f = by (is_set w k) refl (place d m (suc k) w t (omega arith) (le_of_suc-le-suc l) f)
  where
    by : (x : Bool) → is_set w k ≡ x → Place (suc k) m w d t → Place k (suc m) w (suc d) t
    by true g p = record { inside = rw (from_free k d w g, from_free k m w g) (suc-le-suc p.inside); here = rw (from_free k d w g, from_free k m w g) p.here }
    by false g p = record { inside = rw (from_taken k d w g, from_taken k m w g) p.inside; here = rw (from_taken k d w g, from_taken k m w g) p.here }

pub free_is_listed : FreeIsListed
free_is_listed n w t f = let p = place t n 0 w t (omega arith) f.below f.free in record { inside = p.inside; here = p.here }

-- ---- the lowest

-- in range, the default does not matter
any_default : (l : List ℕ) (i d e : ℕ) → i < length l → get_or l i d ≡ get_or l i e
any_default [] i d e h = absurd (not-suc-le-zero h)
any_default (x ∷ l) zero d e h = refl
any_default (x ∷ l) (suc i) d e h = any_default l i d e (le_of_suc-le-suc h)

pub lowest_is : LowestIs
lowest_is n w h =
    rw (any_default (free_tags n w) 0 n 0 h)
    (record { tag = listed_is_free n w 0 h; none = λ i l. by i l (is_set w i) refl })
  where
    by : (i : ℕ) → i < get_or (free_tags n w) 0 0 → (x : Bool) → is_set w i ≡ x → is_set w i ≡ false
    by i l false e = e
    by i l true e =
        let below : i < n = omega (arith, (listed_is_free n w 0 h).below) in
        let p = free_is_listed n w i (record { below = below; free = e }) in
        absurd (first (available i w) p.inside p.here)
      where
        first : (j : ℕ) → j < available n w → get_or (free_tags n w) j 0 ≡ i → ⊥
        first zero q z = omega arith
        first (suc j) q z = omega (arith, rising n w 0 (suc j) (zero-lt-suc j) q)

-- ---- by halves: the tags from suc k on of w are those from k on of w / 2, one higher

shifted : (w k : ℕ) → is_set w (suc k) ≡ is_set (w / 2) k
shifted w k = same_bit w (w / 2) (suc k) k (next_bit w k)

head_shift : (m k w d : ℕ) → get_or (free_from (suc k) m w) 0 (suc d) ≡ suc (get_or (free_from k m (w / 2)) 0 d)
unfolding free_from
head_shift zero k w d = refl
head_shift (suc m) k w d = by (is_set w (suc k)) refl (head_shift m (suc k) w d)
  where
    by : (x : Bool) → is_set w (suc k) ≡ x → get_or (free_from (suc (suc k)) m w) 0 (suc d) ≡ suc (get_or (free_from (suc k) m (w / 2)) 0 d)
        → get_or (free_from (suc k) (suc m) w) 0 (suc d) ≡ suc (get_or (free_from k (suc m) (w / 2)) 0 d)
    by true e ih = rw (from_free (suc k) m w e, from_free k m (w / 2) (sym (shifted w k) ∙ e))
    by false e ih = rw (from_taken (suc k) m w e, from_taken k m (w / 2) (sym (shifted w k) ∙ e)) ih

length_shift : (m k w : ℕ) → length (free_from (suc k) m w) ≡ length (free_from k m (w / 2))
unfolding free_from
length_shift zero k w = refl
length_shift (suc m) k w = by (is_set w (suc k)) refl (length_shift m (suc k) w)
  where
    by : (x : Bool) → is_set w (suc k) ≡ x → length (free_from (suc (suc k)) m w) ≡ length (free_from (suc k) m (w / 2))
        → length (free_from (suc k) (suc m) w) ≡ length (free_from k (suc m) (w / 2))
    by true e ih = rw (from_free (suc k) m w e, from_free k m (w / 2) (sym (shifted w k) ∙ e)) (ap suc ih)
    by false e ih = rw (from_taken (suc k) m w e, from_taken k m (w / 2) (sym (shifted w k) ∙ e)) ih

odd_set : (w d : ℕ) → w % 2 ≡ suc d → is_set w 0 ≡ true
odd_set w d e = bit_set w 0 (omega (arith, first_bit w, bit_small w 0))

pub lowest_by_zeros : LowestByZeros
unfolding count_trailing_zeros free_from
lowest_by_zeros zero w = refl
lowest_by_zeros (suc n) w = by (w % 2) refl (lowest_by_zeros n (w / 2))
  where
    by : (r : ℕ) → w % 2 ≡ r → count_trailing_zeros n (w / 2) ≡ lowest n (w / 2) → under r (count_trailing_zeros n (w / 2)) ≡ get_or (free_from 0 (suc n) w) 0 (suc n)
    by zero e ih = rw (from_taken 0 n w (bit_clear w 0 (first_bit w ∙ e)), head_shift n 0 w n) (ap suc ih)
    by (suc d) e ih = rw (from_free 0 n w (odd_set w d e))

pub available_by_ones : AvailableByOnes
unfolding ones free_from
available_by_ones zero w h = ap ones (lt-one h)
available_by_ones (suc n) w h = by (w % 2) refl (available_by_ones n (w / 2) (half_fits n w h))
  where
    by : (r : ℕ) → w % 2 ≡ r → ones (w / 2) ≡ available n (w / 2) → ones w ≡ length (free_from 0 (suc n) w)
    by zero e ih = rw (from_taken 0 n w (bit_clear w 0 (first_bit w ∙ e)), length_shift n 0 w) (omega (arith, ones_step w))
    by (suc d) e ih = rw (from_free 0 n w (odd_set w d e), length_shift n 0 w) (omega (arith, ones_step w, mod-lt w (zero-lt-suc 1)))

most : (m k w : ℕ) → length (free_from k m w) ≤ m
unfolding free_from
most zero k w = zero-le
most (suc m) k w = by (is_set w k) (most m (suc k) w)
  where
    by : (x : Bool) → length (free_from (suc k) m w) ≤ m → length (cond x (k ∷ free_from (suc k) m w) (free_from (suc k) m w)) ≤ suc m
    by true h = suc-le-suc h
    by false h = omega arith

pub available_within : AvailableWithin
available_within n w = most n 0 w

all_from : (m k w : ℕ) → ((i : ℕ) → i < k + m → is_set w i ≡ true) → length (free_from k m w) ≡ m
unfolding free_from
all_from zero k w f = refl
all_from (suc m) k w f = rw (f k (omega arith)) (ap suc (all_from m (suc k) w (λ i h. f i (omega arith))))

pub all_free : AllFree
all_free n = all_from n 0 (2 ^ n - 1) (λ i h. one i (omega arith))
  where
    one : (i : ℕ) → i < n → is_set (2 ^ n - 1) i ≡ true
    one i h = ap (λ (w : ℕ). is_set w i) (sym (sub-zero (2 ^ n - 1))) ∙ (not_bits n 0 i (pow_pos n) h ∙ ap not (none_above 0 0 i (zero-lt-suc 0) zero-le))

-- ---- taking and freeing

take_head : (m k w t : ℕ) (ts : List ℕ) → free_from k m w ≡ t ∷ ts → free_from k m (clear_bit w t) ≡ ts
unfolding free_from
take_head zero k w t ts e = no_such (cc)
  where
    no_such : {A : Type 0} → ◌≡◌ {A = ℕ} 0 1 → A
    no_such z = absurd (omega arith)
take_head (suc m) k w t ts e = by (is_set w k) refl e (λ q. take_head m (suc k) w t ts q)
  where
    by : (x : Bool) → is_set w k ≡ x → cond x (k ∷ free_from (suc k) m w) (free_from (suc k) m w) ≡ t ∷ ts
        → (free_from (suc k) m w ≡ t ∷ ts → free_from (suc k) m (clear_bit w t) ≡ ts)
        → free_from k (suc m) (clear_bit w t) ≡ ts
    by true f q ih =
        let kt : k ≡ t = cc in
        let rest : free_from (suc k) m w ≡ ts = cc in
        let C = clear_clears w t in
        from_taken k m (clear_bit w t) (rw kt C.here)
        ∙ (from_same m (suc k) (clear_bit w t) w (λ i h. C.others i (λ z. omega arith)) ∙ rest)
    by false f q ih =
        let C = clear_clears w t in
        let above : suc k ≤ t = ap_head q in
        from_taken k m (clear_bit w t) (C.others k (λ z. omega arith) ∙ f) ∙ ih q
      where
        ap_head : free_from (suc k) m w ≡ t ∷ ts → suc k ≤ t
        ap_head z = subst (λ (l : List ℕ). suc k ≤ get_or l 0 0) z (within m (suc k) w 0 (subst⁻¹ (λ (l : List ℕ). 0 < length l) z (zero-lt-suc (length ts)))).from

pub take_first : TakeFirst
take_first n w t ts e = take_head n 0 w t ts e

-- two words that agree but at t, where a has a one and b none
one_more_lem : (m k a b t : ℕ) → k ≤ t → t < k + m → is_set a t ≡ true → is_set b t ≡ false → ((i : ℕ) → (i ≡ t → ⊥) → is_set a i ≡ is_set b i)
    → length (free_from k m a) ≡ suc (length (free_from k m b))
unfolding free_from
one_more_lem zero k a b t l h p q s = absurd (omega arith)
one_more_lem (suc m) k a b t l h p q s =
    ⊎_elim
    (λ (z : k ≡ t).
    rw (from_free k m a (rw z p), from_taken k m b (rw z q), from_same m (suc k) a b (λ i g. s i (λ y. omega arith))))
    (λ (g : k < t). by g (is_set a k) refl (one_more_lem m (suc k) a b t g (omega arith) p q s))
    (eq-or-lt_of_le l)
  where
    by : k < t → (x : Bool) → is_set a k ≡ x → length (free_from (suc k) m a) ≡ suc (length (free_from (suc k) m b))
        → length (free_from k (suc m) a) ≡ suc (length (free_from k (suc m) b))
    by g true e ih = rw (from_free k m a e, from_free k m b (sym (s k (differ k t g)) ∙ e)) (ap suc ih)
    by g false e ih = rw (from_taken k m a e, from_taken k m b (sym (s k (differ k t g)) ∙ e)) ih

pub take_one_less : TakeOneLess
take_one_less n w t f =
    let C = clear_clears w t in
    one_more_lem n 0 w (clear_bit w t) t zero-le (omega (arith, f.below)) f.free C.here (λ i ne. sym (C.others i ne))

pub free_one_more : FreeOneMore
free_one_more n w t h e =
    let S = set_sets n w t h in one_more_lem n 0 (set_bit n w t) w t zero-le (omega arith) S.here e S.others

-- ---- a run of takes

leaves : (n k w : ℕ) (l : List ℕ) → free_tags n w ≡ l → free_tags n (without w (take k l)) ≡ drop k l
unfolding without
leaves n zero w l e = e
leaves n (suc k) w [] e = e
leaves n (suc k) w (t ∷ ts) e = leaves n k (clear_bit w t) ts (take_first n w t ts e)

pub take_few_leaves : TakeFewLeaves
take_few_leaves n w k = leaves n k w (free_tags n w) refl

pub turn_takes : TurnTakes
turn_takes n w k h =
    rw (take_few_leaves n w k, get_or-drop k (free_tags n w) 0 n, add-zero k) (any_default (free_tags n w) k n 0 h)

without_snoc : (l : List ℕ) (w t : ℕ) → without w (l ++ (t ∷ [])) ≡ clear_bit (without w l) t
unfolding without
without_snoc [] w t = refl
without_snoc (x ∷ l) w t = without_snoc l (clear_bit w x) t

pub take_one_by_one : TakeOneByOne
take_one_by_one n w k h =
    rw (take-suc (free_tags n w) k 0 h, turn_takes n w k h) (without_snoc (take k (free_tags n w)) w (get_or (free_tags n w) k 0))
