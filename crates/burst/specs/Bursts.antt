-- What a burst covers, and which bursts are accepted (01, 'Memory bursts').
use Rattle.std.specs.Prelude.{ℕ, ◌+◌, ◌-◌, ◌*◌, ◌/◌, ◌^◌, [], ◌∷◌, Bool, cond, leb, eqb}
use Rattle.refusals.specs.Table.{wrong_burst, wrong_data}
use Rattle.common.specs.Tests.{every}
use Rattle.address.specs.Settings.{between}
use Rattle.burst.specs.declared.Burst.{Burst}

-- 'up to, not including, the start rounded down to 2^z plus beats x 2^z'
unfoldable pub end_from : ℕ → ℕ → ℕ → ℕ
end_from start z beats = start / 2 ^ z * 2 ^ z + beats * 2 ^ z

abbrev pub end_of : Burst → ℕ
end_of b = end_from b.start.0 b.size b.beats

-- where the 4 KB page of an address ends
abbrev pub page_end : ℕ → ℕ
page_end a = a / 4096 * 4096 + 4096

-- 'Size code z is 0 to 5, beats 1 to 256, type INCR (1)'; 'it must stay in one 4 KB page'
unfoldable pub burst_right : Burst → Bool
burst_right b =
    every
    (eqb b.kind 1
    ∷ leb b.size 5
    ∷ between 1 256 b.beats
    ∷ leb (end_of b) (page_end b.start.0)
    ∷ [])

-- 'burst type, size, beats or page wrong': 3
unfoldable pub burst_number : Burst → ℕ
burst_number b = cond (burst_right b) 0 wrong_burst

-- how many bytes an accepted burst covers; a refused one has none
unfoldable pub length_of : Burst → ℕ
length_of b = cond (burst_right b) (end_of b - b.start.0) 0

-- 'write data not the burst's length': 15
unfoldable pub data_number : Burst → ℕ → ℕ
data_number b len = cond (eqb len (length_of b)) 0 wrong_data
