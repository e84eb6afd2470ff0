-- The bits of the operators on words.
use mathlib.Core.Path.{◌≡◌, refl, ap, ◌∙◌}
use mathlib.Core.Bool.{Bool, true, false, not, ◌&&◌, ◌||◌}
use Prim.Native.Nat.{ℕ, zero, suc, ◌+◌, ◌-◌, ◌/◌, ◌^◌, ◌<◌, min, max}
use native.Mathlib.Nat.{pow-suc, not-suc-le-zero, le_of_suc-le-suc}
use native.Mathlib.Omega.{arith}
use lib.Bits.{bit_and, bit_or}
use Rattle.std.proofs.lemmas.Nat.Bits.{bit_at_and, bit_at_or}
use Rattle.bits.specs.Bits.{bit, is_set}
use Rattle.bits.specs.Laws.{AndBits, OrBits, NotBits}
use Rattle.bits.proofs.Bits.{first_bit, next_bit, bit_small, half_fits, set_bit_lem, clear_bit_lem, bit_set, bit_clear}

and_bit : (a b i : ℕ) → bit (bit_and a b) i ≡ min (bit a i) (bit b i)
unfolding bit
and_bit = bit_at_and

or_bit : (a b i : ℕ) → bit (bit_or a b) i ≡ max (bit a i) (bit b i)
unfolding bit
or_bit = bit_at_or

pub and_bits : AndBits
and_bits a b i = by (is_set a i) (is_set b i) refl refl
  where
    by : (x y : Bool) → is_set a i ≡ x → is_set b i ≡ y → is_set (bit_and a b) i ≡ (is_set a i && is_set b i)
    by true true p q = rw (p, q) (bit_set (bit_and a b) i (omega (arith, and_bit a b i, set_bit_lem a i p, set_bit_lem b i q)))
    by true false p q = rw (p, q) (bit_clear (bit_and a b) i (omega (arith, and_bit a b i, clear_bit_lem b i q)))
    by false y p q = rw p (bit_clear (bit_and a b) i (omega (arith, and_bit a b i, clear_bit_lem a i p)))

pub or_bits : OrBits
or_bits a b i = by (is_set a i) (is_set b i) refl refl
  where
    by : (x y : Bool) → is_set a i ≡ x → is_set b i ≡ y → is_set (bit_or a b) i ≡ (is_set a i || is_set b i)
    by true y p q = rw p (bit_set (bit_or a b) i (omega (arith, or_bit a b i, set_bit_lem a i p, bit_small b i)))
    by false true p q = rw (p, q) (bit_set (bit_or a b) i (omega (arith, or_bit a b i, set_bit_lem b i q, bit_small a i)))
    by false false p q = rw (p, q) (bit_clear (bit_or a b) i (omega (arith, or_bit a b i, clear_bit_lem a i p, clear_bit_lem b i q)))

not_half : (n w : ℕ) → w < 2 ^ suc n → ((2 ^ suc n - 1) - w) / 2 ≡ (2 ^ n - 1) - w / 2
not_half n w h = omega (arith, pow-suc 2 n)

not_bit : (n w i : ℕ) → w < 2 ^ n → i < n → bit ((2 ^ n - 1) - w) i + bit w i ≡ 1
not_bit zero w i h l = absurd (not-suc-le-zero l)
not_bit (suc n) w zero h l = omega (arith, first_bit w, first_bit ((2 ^ suc n - 1) - w), pow-suc 2 n)
not_bit (suc n) w (suc i) h l =
    let half = not_bit n (w / 2) i (half_fits n w h) (le_of_suc-le-suc l) in
    omega (arith, half, next_bit w i, next_bit ((2 ^ suc n - 1) - w) i ∙ ap (λ (x : ℕ). bit x i) (not_half n w h))

pub not_bits : NotBits
not_bits n w i h l = by (is_set w i) refl
  where
    by : (x : Bool) → is_set w i ≡ x → is_set ((2 ^ n - 1) - w) i ≡ not (is_set w i)
    by true p = rw p (bit_clear ((2 ^ n - 1) - w) i (omega (arith, not_bit n w i h l, set_bit_lem w i p)))
    by false p = rw p (bit_set ((2 ^ n - 1) - w) i (omega (arith, not_bit n w i h l, clear_bit_lem w i p)))
