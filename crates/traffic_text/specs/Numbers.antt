-- Numbers in a file's bytes (docs/TRAFFIC.md, 'Numbers'): the most significant byte first. Past the end of a list its bytes
-- count as 0.
use Rattle.std.specs.Prelude.{ℕ, ◌+◌, ◌*◌, List, slice_index}

abbrev pub byte_at : List ℕ → ℕ → ℕ
byte_at s i = slice_index s i

-- four bytes
abbrev pub joined_of : ℕ → ℕ → ℕ → ℕ → ℕ
joined_of a b c d = a * 16777216 + b * 65536 + c * 256 + d

-- a u32
abbrev pub word_at : List ℕ → ℕ → ℕ
word_at s i = joined_of (byte_at s i) (byte_at s (i + 1)) (byte_at s (i + 2)) (byte_at s (i + 3))

-- a u64
abbrev pub long_at : List ℕ → ℕ → ℕ
long_at s i = word_at s i * 4294967296 + word_at s (i + 4)
