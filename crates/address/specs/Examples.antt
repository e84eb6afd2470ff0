-- Settings at and beyond the edges of their rules, by their numbers.
use Rattle.std.specs.Prelude.{◌≡◌, ℕ, ◌-◌, ◌^◌, [], ◌∷◌, map}
use Rattle.address.specs.declared.Windows.{Windows}
use Rattle.address.specs.Settings.{settings_number, example_windows}

abbrev pub number_of : Windows → ℕ → ℕ → ℕ → ℕ → ℕ → ℕ
number_of w n r m t id =
    settings_number (record { windows = w; bits = n; reads = r; writes = m; limit = t; requester = id })

-- one window, and two
abbrev pub one : ℕ → ℕ → ℕ → Windows
one b s t = record {
  count = 1;
  base = b ∷ 0 ∷ 0 ∷ 0 ∷ 0 ∷ 0 ∷ [];
  size = s ∷ 0 ∷ 0 ∷ 0 ∷ 0 ∷ 0 ∷ [];
  target = t ∷ 0 ∷ 0 ∷ 0 ∷ 0 ∷ 0 ∷ [];
}

abbrev pub two : ℕ → ℕ → ℕ → ℕ → Windows
two b s b₂ s₂ = record {
  count = 2;
  base = b ∷ b₂ ∷ 0 ∷ 0 ∷ 0 ∷ 0 ∷ [];
  size = s ∷ s₂ ∷ 0 ∷ 0 ∷ 0 ∷ 0 ∷ [];
  target = 0 ∷ 0 ∷ 0 ∷ 0 ∷ 0 ∷ 0 ∷ [];
}

-- the first n of six neighbours
abbrev pub many : ℕ → Windows
many n = record {
  count = n;
  base = 0 ∷ 0x1000 ∷ 0x2000 ∷ 0x3000 ∷ 0x4000 ∷ 0x5000 ∷ [];
  size = 0x1000 ∷ 0x1000 ∷ 0x1000 ∷ 0x1000 ∷ 0x1000 ∷ 0x1000 ∷ [];
  target = 0 ∷ 0 ∷ 0 ∷ 0 ∷ 0 ∷ 0 ∷ [];
}

abbrev pub window_number : Windows → ℕ
window_number w = number_of w 8 128 128 65535 0

-- sizes 0, 2^11, 2^12, no power of two, 2^40, 2^41
abbrev pub Sizes : Type 0
Sizes =
    map (λ s. window_number (one 0 s 0)) (0 ∷ 2 ^ 11 ∷ 2 ^ 12 ∷ 0x3000 ∷ 2 ^ 40 ∷ 2 ^ 41 ∷ [])
    ≡ 1 ∷ 1 ∷ 0 ∷ 1 ∷ 0 ∷ 1 ∷ []

-- a base that is no multiple, a target that is none, and a window at the very top of both sides
abbrev pub Multiples : Type 0
Multiples =
    map window_number (one 0x1000 0x2000 0 ∷ one 0 0x2000 0x1000 ∷ one (2 ^ 64 - 0x2000) 0x2000 (2 ^ 64 - 0x2000) ∷ [])
    ≡ 1 ∷ 1 ∷ 0 ∷ []

-- neighbours in both orders, one within the other in both orders, the same twice; the targets are all the same
abbrev pub Ranges : Type 0
Ranges =
    map window_number
    (two 0x10000 0x10000 0x20000 0x10000
    ∷ two 0x20000 0x10000 0x10000 0x10000
    ∷ two 0x10000 0x10000 0x1F000 0x1000
    ∷ two 0x1F000 0x1000 0x10000 0x10000
    ∷ two 0x10000 0x10000 0x10000 0x10000
    ∷ [])
    ≡ 0 ∷ 0 ∷ 1 ∷ 1 ∷ 1 ∷ []

-- no window, one, six, seven
abbrev pub Counts : Type 0
Counts = map (λ n. window_number (many n)) (0 ∷ 1 ∷ 6 ∷ 7 ∷ []) ≡ 1 ∷ 0 ∷ 0 ∷ 1 ∷ []

-- limits for reads and for writes
abbrev pub Limits : Type 0
Limits =
    (map (λ r. number_of example_windows 8 r 128 65535 0) (0 ∷ 127 ∷ 128 ∷ 129 ∷ 4096 ∷ 8192 ∷ []) ≡ 1 ∷ 1 ∷ 0 ∷ 1 ∷ 0 ∷ 1 ∷ [])
    × (map (λ m. number_of example_windows 8 128 m 65535 0) (0 ∷ 127 ∷ 128 ∷ 129 ∷ 1024 ∷ 2048 ∷ []) ≡ 1 ∷ 1 ∷ 0 ∷ 1 ∷ 0 ∷ 1 ∷ [])

-- bus bits, time limit, requester ID
abbrev pub Others : Type 0
Others =
    (map (λ n. number_of example_windows n 128 128 65535 0) (0 ∷ 1 ∷ 8 ∷ 9 ∷ []) ≡ 1 ∷ 0 ∷ 0 ∷ 1 ∷ [])
    × (map (λ t. number_of example_windows 8 128 128 t 0) (0 ∷ 1 ∷ 65535 ∷ 65536 ∷ []) ≡ 1 ∷ 0 ∷ 0 ∷ 1 ∷ [])
    × (map (λ id. number_of example_windows 8 128 128 65535 id) (0 ∷ 65535 ∷ 65536 ∷ []) ≡ 0 ∷ 0 ∷ 1 ∷ [])
