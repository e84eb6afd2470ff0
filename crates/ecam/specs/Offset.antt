-- The fields of an offset into configuration space (Table 2-24).
use Rattle.std.specs.Prelude.{ℕ, ◌*◌, ◌/◌, ◌%◌, ◌^◌}

-- 7:2 register
abbrev pub register : ℕ → ℕ
register o = o / 2 ^ 2 % 2 ^ 6

-- 11:8 extended register
abbrev pub extended : ℕ → ℕ
extended o = o / 2 ^ 8 % 2 ^ 4

-- 14:12 function
abbrev pub function : ℕ → ℕ
function o = o / 2 ^ 12 % 2 ^ 3

-- 19:15 device
abbrev pub device : ℕ → ℕ
device o = o / 2 ^ 15 % 2 ^ 5

-- from 20 bus
abbrev pub bus : ℕ → ℕ
bus o = o / 2 ^ 20

-- the byte offset of the local word: bits 11:2, low two bits ignored
abbrev pub word : ℕ → ℕ
word o = o % 2 ^ 12 / 4 * 4
