-- The rules on settings (01, 'Settings'), and the settings of its worked examples.
use Rattle.std.specs.Prelude.{ℕ, zero, suc, ◌+◌, ◌-◌, ◌%◌, ◌^◌, Bool, true, false, cond, ◌&&◌, ◌||◌, List, [], ◌∷◌, ◌==◌, nat_le, nat_lt, slice_index}
use Rattle.refusals.specs.Table.{setting}
use Rattle.common.specs.Tests.{every}
use Rattle.address.specs.declared.Windows.{Windows}
use Rattle.address.specs.declared.Settings.{Settings}

-- low to high
abbrev pub between : ℕ → ℕ → ℕ → Bool
between low high x = nat_le low x && nat_le x high

-- x is 2^k for one of the n numbers k from low on
unfoldable pub power_among : ℕ → ℕ → ℕ → Bool
power_among low zero x = false
power_among low (suc n) x = x == 2 ^ low || power_among (suc low) n x

-- a power of two, 2^low to 2^high
abbrev pub power_of_two : ℕ → ℕ → ℕ → Bool
power_of_two low high x = power_among low (suc high - low) x

-- a test holds of each of the n numbers from i on
unfoldable pub each_from : (ℕ → Bool) → ℕ → ℕ → Bool
each_from test i zero = true
each_from test i (suc n) = test i && each_from test (suc i) n

-- a test holds of each number below n
abbrev pub each : ℕ → (ℕ → Bool) → Bool
each n test = each_from test 0 n

-- 'an AXI base, a power-of-two size of 2^12 to 2^40 bytes and a PCIe target; base and target are multiples of the
-- size'; both are addresses, of 64 bits
unfoldable pub window_right : ℕ → ℕ → ℕ → Bool
window_right base size target =
    every
    (power_of_two 12 40 size
    ∷ (base % size == 0)
    ∷ (target % size == 0)
    ∷ nat_lt base (2 ^ 64)
    ∷ nat_lt target (2 ^ 64)
    ∷ [])

-- two AXI ranges are disjoint: the one that starts first is over where the other starts
unfoldable pub apart : ℕ → ℕ → ℕ → ℕ → Bool
apart base size base₂ size₂ = cond (nat_le base base₂) (nat_le (base + size) base₂) (nat_le (base₂ + size₂) base)

-- window i, of the table
abbrev pub right_at : List ℕ → List ℕ → List ℕ → ℕ → Bool
right_at base size target i = window_right (slice_index base i) (slice_index size i) (slice_index target i)

-- windows i and j, of the table
abbrev pub apart_at : List ℕ → List ℕ → ℕ → ℕ → Bool
apart_at base size j i = apart (slice_index base i) (slice_index size i) (slice_index base j) (slice_index size j)

-- '1 to 6 windows', each right, 'AXI ranges are disjoint; targets may overlap'
unfoldable pub windows_right : Windows → Bool
windows_right w =
    every
    (between 1 6 w.count
    ∷ each w.count (right_at w.base w.size w.target)
    ∷ each w.count (λ j. each j (apart_at w.base w.size j))
    ∷ [])

-- every rule on the settings
unfoldable pub settings_right : Settings → Bool
settings_right s =
    every
    (windows_right s.windows
    ∷ between 1 8 s.bits  -- bus bits n
    ∷ power_of_two 7 12 s.reads  -- read limit, 128 to 4,096
    ∷ power_of_two 7 10 s.writes  -- write limit, 128 to 1,024
    ∷ between 1 65535 s.limit  -- time limit T
    ∷ nat_lt s.requester (2 ^ 16)  -- requester ID, 16 bits
    ∷ [])

-- 'a setting breaks its rule': 1
unfoldable pub settings_number : Settings → ℕ
settings_number s = cond (settings_right s) 0 setting

-- 'Window 0: base 12340000 hex, 64 KB, target 56710000'
abbrev pub example_windows : Windows
example_windows = record {
  count = 1;
  base = 0x12340000 ∷ 0 ∷ 0 ∷ 0 ∷ 0 ∷ 0 ∷ [];
  size = 65536 ∷ 0 ∷ 0 ∷ 0 ∷ 0 ∷ 0 ∷ [];
  target = 0x56710000 ∷ 0 ∷ 0 ∷ 0 ∷ 0 ∷ 0 ∷ [];
}

-- 'requester 0, n 8, limits 128, T 65,535'
abbrev pub example_settings : Settings
example_settings = record { windows = example_windows; bits = 8; reads = 128; writes = 128; limit = 65535; requester = 0 }
