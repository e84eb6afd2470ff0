-- Windows: which one holds an address, and what the address becomes behind it (01, 'Settings' and 'Memory bursts').
use Rattle.std.specs.Prelude.{ℕ, zero, suc, ◌+◌, ◌-◌, ◌%◌, ◌^◌, ◌<◌, min, Option, Some, None, Bool, cond, ◌&&◌, List, nat_le, nat_lt, slice_index}
use Rattle.refusals.specs.Table.{no_window}
use Rattle.address.specs.declared.AxiAddress.{AxiAddress}
use Rattle.address.specs.declared.PcieAddress.{PcieAddress}
use Rattle.address.specs.declared.Windows.{Windows}

-- 'two kinds of number that must never be mixed'
abbrev pub axi : ℕ → AxiAddress
axi n = record { 0 = n }

abbrev pub pcie : ℕ → PcieAddress
pcie n = record { 0 = n }

-- a window holds an address from its base on, below base + size
unfoldable pub holds : ℕ → ℕ → AxiAddress → Bool
holds base size a = nat_le base a.0 && nat_lt (a.0 - base) size

-- the first of the n windows from i on that holds an address
unfoldable pub first_from : List ℕ → List ℕ → AxiAddress → ℕ → ℕ → Option ℕ
first_from base size a i zero = None
first_from base size a i (suc n) =
    cond (holds (slice_index base i) (slice_index size i) a) (Some i) (first_from base size a (suc i) n)

-- which of the windows holds an address; entries past the count are ignored, and there are six
unfoldable pub window_of : ℕ → List ℕ → List ℕ → AxiAddress → Option ℕ
window_of count base size a = first_from base size a 0 (min count 6)

-- what is found is a place of the table
abbrev pub Placed : Option ℕ → Type 0
Placed (Some i) = i < 6
Placed None = Unit

-- 'no window holds the first byte': 2
abbrev pub found_number : Option ℕ → ℕ
found_number (Some i) = 0
found_number None = no_window

-- 'PCIe address = target + (address - base)', a number of 64 bits
unfoldable pub translated : ℕ → ℕ → AxiAddress → PcieAddress
translated base target a = pcie ((target + (a.0 - base)) % 2 ^ 64)

-- window i of a table holds an address
abbrev pub holds_at : Windows → ℕ → AxiAddress → Bool
holds_at w i a = holds (slice_index w.base i) (slice_index w.size i) a

-- an address behind window i of a table
abbrev pub translated_at : Windows → ℕ → AxiAddress → PcieAddress
translated_at w i a = translated (slice_index w.base i) (slice_index w.target i) a
