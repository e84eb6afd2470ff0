-- The checksum of bytes, Adler-32 (docs/TRAFFIC.md, 'Checksum').
use Rattle.std.specs.Prelude.{ℕ, zero, suc, ◌+◌, ◌*◌, ◌%◌, List, length, slice_index}

-- a after n bytes
unfoldable pub low_to : List ℕ → ℕ → ℕ
low_to s zero = 1
low_to s (suc n) = low_to s n + slice_index s n

-- b after n bytes
unfoldable pub high_to : List ℕ → ℕ → ℕ
high_to s zero = 0
high_to s (suc n) = high_to s n + low_to s (suc n)

abbrev pub sum_joined : ℕ → ℕ → ℕ
sum_joined a b = b % 65521 * 65536 + a % 65521

unfoldable pub checksum : List ℕ → ℕ
checksum s = sum_joined (low_to s (length s)) (high_to s (length s))
