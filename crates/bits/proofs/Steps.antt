-- A bit set or cleared by the operators on a word is the definitions' sum or difference.
use mathlib.Core.Path.{◌≡◌, sym, ◌∙◌}
use mathlib.Core.Bool.{false}
use mathlib.Core.Logic.{⊎_elim}
use Prim.Native.Nat.{ℕ, ◌-◌, ◌*◌, ◌%◌, ◌^◌, ◌≤◌, ◌<◌}
use native.Mathlib.Omega.{arith}
use borrow.Author.Tests.{le-ltb}
use lib.Bits.{and_le_l}
use Rattle.std.specs.Int.{w32}
use Rattle.std.specs.Int.Bits.{bit_and, bit_or}
use Rattle.std.proofs.lemmas.Bool.Decides.{eqb_tells}
use Rattle.std.proofs.lemmas.Nat.Bits.{same_from_bits, same_from_bits_below, bit_at_set_same, bit_at_set_other, bit_at_clear_same, bit_at_clear_other}
use Rattle.bits.specs.Bits.{bit, is_set, set_bit, clear_bit}
use Rattle.bits.proofs.Bits.{none_above, set_bit_lem, clear_bit_lem, same_set, set_sets, clear_clears}

pub past : (w i : ℕ) → w < 2 ^ 32 → 32 ≤ i → is_set w i ≡ false
past w i h l = none_above 32 w i h l

pub or_one : (w i : ℕ) → i < 32 → bit_or w ((1 * 2 ^ i) % 2 ^ 32) ≡ set_bit 32 w i
unfolding bit
or_one w i l = same_from_bits _ _ by
  where
    by : (j : ℕ) → bit (bit_or w ((1 * 2 ^ i) % 2 ^ 32)) j ≡ bit (set_bit 32 w i) j
    by j =
        ⊎_elim
        (λ p. let e : j ≡ i = p.1 in rw e (bit_at_set_same w32 w i l ∙ sym (set_bit_lem _ _ (set_sets 32 w i l).here)))
        (λ p. bit_at_set_other w32 w i l j p.1 ∙ sym (same_set _ _ j j ((set_sets 32 w i l).others j p.1)))
        (eqb_tells j i)

pub set_past : (w i : ℕ) → 32 ≤ i → w ≡ set_bit 32 w i
unfolding set_bit
set_past w i h = rw (le-ltb i 32 h)

pub and_one : (w i : ℕ) → w < 2 ^ 32 → i < 32 → bit_and w ((2 ^ 32 - 1) - (1 * 2 ^ i) % 2 ^ 32) ≡ clear_bit w i
unfolding bit
and_one w i h l = same_from_bits_below 32 _ _ (omega (arith, and_le_l w ((2 ^ 32 - 1) - (1 * 2 ^ i) % 2 ^ 32))) (omega (arith, (clear_clears w i).fits)) by
  where
    by : (j : ℕ) → j < 32 → bit (bit_and w ((2 ^ 32 - 1) - (1 * 2 ^ i) % 2 ^ 32)) j ≡ bit (clear_bit w i) j
    by j k =
        ⊎_elim
        (λ p. let e : j ≡ i = p.1 in rw e (bit_at_clear_same w32 w i l ∙ sym (clear_bit_lem _ _ (clear_clears w i).here)))
        (λ p. bit_at_clear_other w32 w i l j k p.1 ∙ sym (same_set _ _ j j ((clear_clears w i).others j p.1)))
        (eqb_tells j i)

pub clear_past : (w i : ℕ) → w < 2 ^ 32 → 32 ≤ i → w ≡ clear_bit w i
unfolding clear_bit
clear_past w i h l = rw (past w i h l)
