-- What holds of settings, windows and translation. The tables are any; a law that wants right windows says so.
use Rattle.std.specs.Prelude.{◌≡◌, ℕ, ◌+◌, ◌-◌, ◌/◌, ◌%◌, ◌^◌, ◌<◌, ◌≤◌, max, Some, None, true, false, slice_index}
use Rattle.address.specs.declared.AxiAddress.{AxiAddress}
use Rattle.address.specs.declared.Windows.{Windows}
use Rattle.address.specs.declared.Settings.{Settings}
use Rattle.address.specs.Windows.{axi, holds, window_of, holds_at, translated_at}
use Rattle.address.specs.Settings.{apart, windows_right, settings_number, example_settings}

-- the settings of the worked examples are accepted
abbrev pub ExampleAccepted : Type 0
ExampleAccepted = settings_number example_settings ≡ 0

-- the windows of accepted settings are right
abbrev pub AcceptedWindows : Type 0
AcceptedWindows = (s : Settings) → settings_number s ≡ 0 → windows_right s.windows ≡ true

-- a limit at which bursts are cut: a power of two, 128 to 4,096
pub record Limit (l : ℕ) : Type 0 where
  pub exponent : ℕ
  pub least : 7 ≤ exponent
  pub most : exponent ≤ 12
  pub power : l ≡ 2 ^ exponent

-- the limits of accepted settings are such
abbrev pub AcceptedReads : Type 0
AcceptedReads = (s : Settings) → settings_number s ≡ 0 → Limit s.reads

abbrev pub AcceptedWrites : Type 0
AcceptedWrites = (s : Settings) → settings_number s ≡ 0 → Limit s.writes × (s.writes ≤ 1024)

-- the window found is below the count and holds the address
abbrev pub FoundHolds : Type 0
FoundHolds =
    (w : Windows) (a : AxiAddress) (i : ℕ)
    → window_of w.count w.base w.size a ≡ Some i
    → (i < w.count) × (holds_at w i a ≡ true)

-- where none is found, none of the six holds it
abbrev pub NothingHolds : Type 0
NothingHolds =
    (w : Windows) (a : AxiAddress)
    → window_of w.count w.base w.size a ≡ None
    → (i : ℕ) → i < w.count → i < 6 → holds_at w i a ≡ false

-- at most one of right windows holds an address
abbrev pub AtMostOneHolds : Type 0
AtMostOneHolds =
    (w : Windows) → windows_right w ≡ true
    → (a : AxiAddress) (i j : ℕ) → i < w.count → j < w.count → holds_at w i a ≡ true → holds_at w j a ≡ true → i ≡ j

-- and two ranges that are not apart do share an address: the later start
abbrev pub OverlapShares : Type 0
OverlapShares =
    (b s b₂ s₂ : ℕ) → 0 < s → 0 < s₂ → apart b s b₂ s₂ ≡ false
    → (holds b s (axi (max b b₂)) ≡ true) × (holds b₂ s₂ (axi (max b b₂)) ≡ true)

-- the one of right windows that holds an address is found
abbrev pub HolderFound : Type 0
HolderFound =
    (w : Windows) → windows_right w ≡ true
    → (a : AxiAddress) (i : ℕ) → i < w.count → holds_at w i a ≡ true → window_of w.count w.base w.size a ≡ Some i

-- a page lies in one of right windows or outside all
abbrev pub PageInOneWindow : Type 0
PageInOneWindow =
    (w : Windows) → windows_right w ≡ true
    → (a b : AxiAddress) → a.0 / 4096 ≡ b.0 / 4096
    → window_of w.count w.base w.size a ≡ window_of w.count w.base w.size b

-- a window ends at 2^64 at the latest, on both sides
abbrev pub WindowEnds : Type 0
WindowEnds =
    (w : Windows) → windows_right w ≡ true
    → (i : ℕ) → i < w.count
    → (slice_index w.base i + slice_index w.size i ≤ 2 ^ 64) × (slice_index w.target i + slice_index w.size i ≤ 2 ^ 64)

-- translation does not wrap: the address keeps its offset in the window
abbrev pub KeepsOffset : Type 0
KeepsOffset =
    (w : Windows) → windows_right w ≡ true
    → (a : AxiAddress) (i : ℕ) → i < w.count → holds_at w i a ≡ true
    → (translated_at w i a).0 ≡ slice_index w.target i + (a.0 - slice_index w.base i)

-- it keeps the low 12 bits
abbrev pub KeepsLowBits : Type 0
KeepsLowBits =
    (w : Windows) → windows_right w ≡ true
    → (a : AxiAddress) (i : ℕ) → i < w.count → holds_at w i a ≡ true
    → (translated_at w i a).0 % 4096 ≡ a.0 % 4096

-- it keeps the order of addresses of one window
abbrev pub KeepsOrder : Type 0
KeepsOrder =
    (w : Windows) → windows_right w ≡ true
    → (a b : AxiAddress) (i : ℕ) → i < w.count → holds_at w i a ≡ true → holds_at w i b ≡ true
    → a.0 < b.0 → (translated_at w i a).0 < (translated_at w i b).0

-- distinct addresses of one window stay distinct
abbrev pub StaysDistinct : Type 0
StaysDistinct =
    (w : Windows) → windows_right w ≡ true
    → (a b : AxiAddress) (i : ℕ) → i < w.count → holds_at w i a ≡ true → holds_at w i b ≡ true
    → translated_at w i a ≡ translated_at w i b → a ≡ b
