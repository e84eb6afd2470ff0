-- A bit by halves, words built from bits, and a bit set or cleared.
use mathlib.Core.Path.{◌≡◌, refl, sym, ap, ◌∙◌}
use mathlib.Core.Bool.{Bool, true, false, cond, not, ◌&&◌}
use mathlib.Core.Logic.{⊎_elim}
use Prim.Native.Nat.{ℕ, zero, suc, ◌+◌, ◌-◌, ◌/◌, ◌%◌, ◌^◌, ◌≤◌, ◌<◌}
use native.Mathlib.Nat.{div-one, pow-suc, pow-succ', div-div-eq-div-mul, mod-lt, not-suc-le-zero, le_of_suc-le-suc, zero-lt-suc, le_of_eq, eq-or-lt_of_le}
use native.Mathlib.Omega.{arith}
use lib.Dec.{eqb, ltb}
use borrow.Author.Tests.{eq-eqb, ne_eqb, eqb-true, eqb-false, lt-ltb}
use Rattle.std.proofs.lemmas.Nat.Bits.{bit_at_above, same_from_bits_below}
use Rattle.bits.specs.Bits.{bit, is_set, from_bits, set_bit, clear_bit}
use Rattle.bits.specs.Laws.{FromBitsHas, FromBitsFits, NoneAbove, SameBits, IsSetAt, SetSets, IsClearAt, ClearClears}

-- ---- a bit by halves

pub first_bit : (w : ℕ) → bit w 0 ≡ w % 2
unfolding bit
first_bit w = ap (λ (x : ℕ). x % 2) (div-one w)

pub next_bit : (w i : ℕ) → bit w (suc i) ≡ bit (w / 2) i
unfolding bit
next_bit w i = rw (pow-succ' 2 i, ← (div-div-eq-div-mul w 2 (2 ^ i)))

pub bit_small : (w i : ℕ) → bit w i < 2
unfolding bit
bit_small w i = mod-lt (w / 2 ^ i) (zero-lt-suc 1)

pub half_fits : (n w : ℕ) → w < 2 ^ suc n → w / 2 < 2 ^ n
half_fits n w h = omega (arith, pow-suc 2 n)

-- ---- a test of a bit, and the bit itself

pub set_bit_lem : (w i : ℕ) → is_set w i ≡ true → bit w i ≡ 1
unfolding is_set
set_bit_lem w i e = eqb-true (bit w i) 1 e

pub clear_bit_lem : (w i : ℕ) → is_set w i ≡ false → bit w i ≡ 0
unfolding is_set
clear_bit_lem w i e = omega (arith, bit_small w i, eqb-false (bit w i) 1 e)

pub bit_set : (w i : ℕ) → bit w i ≡ 1 → is_set w i ≡ true
unfolding is_set
bit_set w i e = eq-eqb (bit w i) 1 e

pub bit_clear : (w i : ℕ) → bit w i ≡ 0 → is_set w i ≡ false
unfolding is_set
bit_clear w i e = ne_eqb (bit w i) 1 (λ q. omega arith)

pub same_bit : (a b i j : ℕ) → bit a i ≡ bit b j → is_set a i ≡ is_set b j
unfolding is_set
same_bit a b i j e = ap (λ (x : ℕ). eqb x 1) e

pub same_set : (a b i j : ℕ) → is_set a i ≡ is_set b j → bit a i ≡ bit b j
same_set a b i j e = by (is_set b j) refl
  where
    by : (x : Bool) → is_set b j ≡ x → bit a i ≡ bit b j
    by true q = set_bit_lem a i (e ∙ q) ∙ sym (set_bit_lem b j q)
    by false q = clear_bit_lem a i (e ∙ q) ∙ sym (clear_bit_lem b j q)

-- ---- past a word's bits; words with the same bits

pub none_above : NoneAbove
unfolding bit
none_above n w i h l = bit_clear w i (bit_at_above w n i h l)

pub same_bits : SameBits
unfolding bit
same_bits n a b ha hb s = same_from_bits_below n a b ha hb (λ i h. same_set a b i i (s i h))

-- ---- a sum with a power of two whose bit is free

sum_half : (w t : ℕ) → (w + 2 ^ suc t) / 2 ≡ w / 2 + 2 ^ t
sum_half w t = omega (arith, pow-suc 2 t)

sum_next : (w t i : ℕ) → bit (w + 2 ^ suc t) (suc i) ≡ bit (w / 2 + 2 ^ t) i
sum_next w t i = rw (next_bit, sum_half w t)

pub sum_here : (t w : ℕ) → bit w t ≡ 0 → bit (w + 2 ^ t) t ≡ 1
sum_here zero w e = omega (arith, first_bit w, first_bit (w + 1))
sum_here (suc t) w e = sum_next w t t ∙ sum_here t (w / 2) (sym (next_bit w t) ∙ e)

even_sum : (w : ℕ) → w % 2 ≡ 0 → (w + 1) / 2 ≡ w / 2
even_sum w e = omega arith

pub sum_other : (t i w : ℕ) → bit w t ≡ 0 → (i ≡ t → ⊥) → bit (w + 2 ^ t) i ≡ bit w i
sum_other zero zero w e ne = absurd (ne refl)
sum_other zero (suc i) w e ne =
    next_bit (w + 1) i ∙ ap (λ (x : ℕ). bit x i) (even_sum w (sym (first_bit w) ∙ e)) ∙ sym (next_bit w i)
sum_other (suc t) zero w e ne = omega (arith, first_bit w, first_bit (w + 2 ^ suc t), pow-suc 2 t)
sum_other (suc t) (suc i) w e ne =
    sum_next w t i ∙ sum_other t i (w / 2) (sym (next_bit w t) ∙ e) (λ q. ne (ap suc q)) ∙ sym (next_bit w i)

pub sum_fits : (t n w : ℕ) → t < n → w < 2 ^ n → bit w t ≡ 0 → w + 2 ^ t < 2 ^ n
sum_fits t zero w l h e = absurd (not-suc-le-zero l)
sum_fits zero (suc n) w l h e = omega (arith, first_bit w, pow-suc 2 n)
sum_fits (suc t) (suc n) w l h e =
    let half : w / 2 + 2 ^ t < 2 ^ n = sum_fits t n (w / 2) (le_of_suc-le-suc l) (half_fits n w h) (sym (next_bit w t) ∙ e) in
    omega (arith, pow-suc 2 t, pow-suc 2 n)

pub power_le : (t w : ℕ) → bit w t ≡ 1 → 2 ^ t ≤ w
power_le zero w e = omega (arith, first_bit w)
power_le (suc t) w e = omega (arith, power_le t (w / 2) (sym (next_bit w t) ∙ e), pow-suc 2 t)

-- ---- a difference with a power of two whose bit is a one

less_half : (w t : ℕ) → (w - 2 ^ suc t) / 2 ≡ w / 2 - 2 ^ t
less_half w t = omega (arith, pow-suc 2 t)

less_here : (t w : ℕ) → bit w t ≡ 1 → bit (w - 2 ^ t) t ≡ 0
less_here zero w e = omega (arith, first_bit w, first_bit (w - 1))
less_here (suc t) w e = next_bit (w - 2 ^ suc t) t ∙ ap (λ (x : ℕ). bit x t) (less_half w t) ∙ less_here t (w / 2) (sym (next_bit w t) ∙ e)

less_more : (p w : ℕ) → p ≤ w → (w - p) + p ≡ w
less_more p w h = omega arith

less_other : (t i w : ℕ) → bit w t ≡ 1 → (i ≡ t → ⊥) → bit (w - 2 ^ t) i ≡ bit w i
less_other t i w e ne =
    sym (sum_other t i (w - 2 ^ t) (less_here t w e) ne) ∙ ap (λ (x : ℕ). bit x i) (less_more (2 ^ t) w (power_le t w e))

-- ---- a word built from its bits

pub from_bits_fits : FromBitsFits
unfolding from_bits
from_bits_fits zero f = zero-lt-suc 0
from_bits_fits (suc n) f = by (f n) (from_bits_fits n f)
  where
    by : (x : Bool) → from_bits n f < 2 ^ n → from_bits n f + cond x (2 ^ n) 0 < 2 ^ suc n
    by true h = omega (arith, pow-suc 2 n)
    by false h = omega (arith, pow-suc 2 n)

pub from_bits_has : FromBitsHas
unfolding from_bits
from_bits_has zero f i h = absurd (not-suc-le-zero h)
from_bits_has (suc n) f i h =
    ⊎_elim
    (λ (e : i ≡ n). rw e (top (f n)))
    (λ (l : i < n). lower (f n) l ∙ from_bits_has n f i l)
    (eq-or-lt_of_le (le_of_suc-le-suc h))
  where
    free : bit (from_bits n f) n ≡ 0
    free = clear_bit_lem _ n (none_above n (from_bits n f) n (from_bits_fits n f) (le_of_eq refl))

    top : (x : Bool) → is_set (from_bits n f + cond x (2 ^ n) 0) n ≡ x
    top true = bit_set (from_bits n f + 2 ^ n) n (sum_here n (from_bits n f) free)
    top false = bit_clear (from_bits n f + 0) n (ap (λ (x : ℕ). bit x n) (omega arith) ∙ free)

    lower : (x : Bool) → i < n → is_set (from_bits n f + cond x (2 ^ n) 0) i ≡ is_set (from_bits n f) i
    lower true l = same_bit (from_bits n f + 2 ^ n) (from_bits n f) i i (sum_other n i (from_bits n f) free (λ q. omega arith))
    lower false l = ap (λ (x : ℕ). is_set x i) (omega arith)

-- ---- a bit set, and a bit cleared

pub set_sets : SetSets
unfolding set_bit
set_sets n w t l = by (is_set w t) refl
  where
    by : (x : Bool) → is_set w t ≡ x → IsSetAt n w t (cond (ltb t n && not (is_set w t)) (w + 2 ^ t) w)
    by true e = rw (lt-ltb t n l, e) (record { here = e; others = λ i ne. refl; fits = λ h. h })
    by false e =
        let z : bit w t ≡ 0 = clear_bit_lem w t e in
        rw (lt-ltb t n l, e)
        (record {
          here = bit_set (w + 2 ^ t) t (sum_here t w z);
          others = λ i ne. same_bit (w + 2 ^ t) w i i (sum_other t i w z ne);
          fits = λ h. sum_fits t n w l h z;
        })

pub clear_clears : ClearClears
unfolding clear_bit
clear_clears w t = by (is_set w t) refl
  where
    by : (x : Bool) → is_set w t ≡ x → IsClearAt w t (cond (is_set w t) (w - 2 ^ t) w)
    by true e =
        let o : bit w t ≡ 1 = set_bit_lem w t e in
        rw e
        (record {
          here = bit_clear (w - 2 ^ t) t (less_here t w o);
          others = λ i ne. same_bit (w - 2 ^ t) w i i (less_other t i w o ne);
          fits = omega arith;
        })
    by false e = rw e (record { here = e; others = λ i ne. refl; fits = le_of_eq refl })
