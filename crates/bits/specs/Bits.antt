-- A number as a row of bits.
use Rattle.std.specs.Prelude.{ℕ, zero, suc, ◌+◌, ◌-◌, ◌/◌, ◌%◌, ◌^◌, Bool, cond, not, ◌&&◌, ltb, eqb}

-- the bit of w at i, 0 or 1
unfoldable pub bit : ℕ → ℕ → ℕ
bit w i = w / 2 ^ i % 2

-- the bit of w at i is a one
unfoldable pub is_set : ℕ → ℕ → Bool
is_set w i = eqb (bit w i) 1

-- the word of n bits that has a one at i exactly where f says so
unfoldable pub from_bits : ℕ → (ℕ → Bool) → ℕ
from_bits zero f = 0
from_bits (suc n) f = from_bits n f + cond (f n) (2 ^ n) 0

-- a word of n bits with a one at i; past its bits nothing changes
unfoldable pub set_bit : ℕ → ℕ → ℕ → ℕ
set_bit n w i = cond (ltb i n && not (is_set w i)) (w + 2 ^ i) w

-- a word with a zero at i
unfoldable pub clear_bit : ℕ → ℕ → ℕ
clear_bit w i = cond (is_set w i) (w - 2 ^ i) w
