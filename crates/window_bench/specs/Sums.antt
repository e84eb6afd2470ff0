-- What the functions that are timed answer: a number for each address, and the sum of these.
use Rattle.std.specs.Prelude.{ℕ, zero, suc, ◌+◌, ◌%◌, ◌^◌, cond, List, length, ◌==◌, slice_index}
use Rattle.address.specs.declared.Windows.{Windows}
use Rattle.address.specs.Windows.{axi, window_of, found_number, translated_at}
use Rattle.address.specs.Code.Entries.{entry_number}
use Rattle.packets.specs.Packets.{index_of}

-- the sum of f of the first n numbers, a number of 64 bits
unfoldable pub sum_to : (ℕ → ℕ) → List ℕ → ℕ → ℕ
sum_to f xs zero = 0
sum_to f xs (suc n) = (sum_to f xs n + f (slice_index xs n)) % 2 ^ 64

abbrev pub sum_of : (ℕ → ℕ) → List ℕ → ℕ
sum_of f xs = sum_to f xs (length xs)

-- which window holds an address; 6 for none
abbrev pub entry_at : ℕ → List ℕ → List ℕ → ℕ → ℕ
entry_at count base size a = entry_number (window_of count base size (axi a))

abbrev pub table_of : ℕ → List ℕ → List ℕ → List ℕ → Windows
table_of count base size target = record { count = count; base = base; size = size; target = target }

-- the PCIe address behind the window that holds an address; 0 where none does
unfoldable pub reached_at : Windows → ℕ → ℕ
reached_at w a =
    cond (found_number (window_of w.count w.base w.size (axi a)) == 0)
    (translated_at w (index_of (window_of w.count w.base w.size (axi a))) (axi a)).0 0
