-- What is proved of the bits of a word, for every number n of bits.
use Rattle.std.specs.Prelude.{◌≡◌, Bool, true, false, not, ◌&&◌, ◌||◌, ℕ, ◌-◌, ◌^◌, ◌≤◌, ◌<◌}
use Rattle.std.specs.Int.Bits.{bit_and, bit_or}
use Rattle.bits.specs.Bits.{is_set, from_bits, set_bit, clear_bit}

-- a word built from its bits has those bits
abbrev pub FromBitsHas : Type 0
FromBitsHas = (n : ℕ) (f : ℕ → Bool) (i : ℕ) → i < n → is_set (from_bits n f) i ≡ f i

-- and no others
abbrev pub FromBitsFits : Type 0
FromBitsFits = (n : ℕ) (f : ℕ → Bool) → from_bits n f < 2 ^ n

-- a word of n bits has none past them
abbrev pub NoneAbove : Type 0
NoneAbove = (n w i : ℕ) → w < 2 ^ n → n ≤ i → is_set w i ≡ false

-- two words of n bits that have the same bits are the same word
abbrev pub SameBits : Type 0
SameBits = (n a b : ℕ) → a < 2 ^ n → b < 2 ^ n → ((i : ℕ) → i < n → is_set a i ≡ is_set b i) → a ≡ b

-- setting a bit: it is a one, the others stay, the word still fits
pub record IsSetAt (n w t r : ℕ) : Type 0 where
  pub here : is_set r t ≡ true
  pub others : (i : ℕ) → (i ≡ t → ⊥) → is_set r i ≡ is_set w i
  pub fits : w < 2 ^ n → r < 2 ^ n

abbrev pub SetSets : Type 0
SetSets = (n w t : ℕ) → t < n → IsSetAt n w t (set_bit n w t)

-- clearing a bit: it is a zero, the others stay, the word is no larger
pub record IsClearAt (w t r : ℕ) : Type 0 where
  pub here : is_set r t ≡ false
  pub others : (i : ℕ) → (i ≡ t → ⊥) → is_set r i ≡ is_set w i
  pub fits : r ≤ w

abbrev pub ClearClears : Type 0
ClearClears = (w t : ℕ) → IsClearAt w t (clear_bit w t)

-- the bits of the operators `&`, `|` and `!`
abbrev pub AndBits : Type 0
AndBits = (a b i : ℕ) → is_set (bit_and a b) i ≡ (is_set a i && is_set b i)

abbrev pub OrBits : Type 0
OrBits = (a b i : ℕ) → is_set (bit_or a b) i ≡ (is_set a i || is_set b i)

abbrev pub NotBits : Type 0
NotBits = (n w i : ℕ) → w < 2 ^ n → i < n → is_set ((2 ^ n - 1) - w) i ≡ not (is_set w i)
