-- The worked examples W2 to W6 (01), as facts about the definitions.
use Rattle.std.specs.Prelude.{◌≡◌, ℕ, ◌-◌, ◌^◌, [], ◌∷◌, map}
use Rattle.address.specs.Windows.{axi, window_of, found_number, translated_at}
use Rattle.address.specs.Settings.{example_windows, example_settings}
use Rattle.burst.specs.declared.Burst.{Burst}
use Rattle.burst.specs.declared.Piece.{Piece}
use Rattle.burst.specs.Bursts.{burst_number, length_of}
use Rattle.burst.specs.Pieces.{piece_count, pieces}
use Rattle.burst.specs.Words.{word_count, first_enables, last_enables, lower_address}

-- a burst of type INCR
abbrev pub incr : ℕ → ℕ → ℕ → Burst
incr start z beats = record { start = axi start; size = z; beats = beats; kind = 1 }

-- the PCIe address behind window 0
abbrev pub behind : ℕ → ℕ
behind a = (translated_at example_windows 0 (axi a)).0

-- the bytes of a piece, and where they are behind window 0
abbrev pub sent : Piece → ℕ × ℕ
sent p = (p.length, behind p.first)

-- the refusal number of an address by its window
abbrev pub decoded : ℕ → ℕ
decoded a = found_number (window_of example_windows.count example_windows.base example_windows.size (axi a))

-- 'same start, 64 beats, limit 128: 68 bytes from 56710ABC, 128 from 56710B00, 60 from 56710B80'
abbrev pub W2 : Type 0
W2 =
    map sent (pieces example_settings.reads 0x12340ABC (length_of (incr 0x12340ABC 2 64)))
    ≡ (68, 0x56710ABC) ∷ (128, 0x56710B00) ∷ (60, 0x56710B80) ∷ []

-- 'start 12340ABE, z 2, 2 beats: 6 bytes, 2 words, enables first C, last F; count 6, lower 3E'
abbrev pub W3 : Type 0
W3 =
    (length_of (incr 0x12340ABE 2 2) ≡ 6)
    × (pieces example_settings.reads 0x12340ABE 6 ≡ record { first = 0x12340ABE; length = 6 } ∷ [])
    × (word_count (behind 0x12340ABE) 6 ≡ 2)
    × (first_enables (behind 0x12340ABE) 6 ≡ 0xC)
    × (last_enables (behind 0x12340ABE) 6 ≡ 0xF)
    × (lower_address (behind 0x12340ABE) ≡ 0x3E)

-- 'start 12340ABD, z 0, 2 beats: one word, first 6, last 0'
abbrev pub W4 : Type 0
W4 =
    (length_of (incr 0x12340ABD 0 2) ≡ 2)
    × (word_count (behind 0x12340ABD) 2 ≡ 1)
    × (first_enables (behind 0x12340ABD) 2 ≡ 6)
    × (last_enables (behind 0x12340ABD) 2 ≡ 0)

-- '12340FFE, z 2, 1 beat is 2 bytes; 12340FFC with 2 beats gets 3'
abbrev pub W5 : Type 0
W5 =
    (burst_number (incr 0x12340FFE 2 1) ≡ 0) × (length_of (incr 0x12340FFE 2 1) ≡ 2) × (burst_number (incr 0x12340FFC 2 2) ≡ 3)

-- '1234FFFC accepted by decode; 12350000 gets 2'
abbrev pub W6 : Type 0
W6 = (decoded 0x1234FFFC ≡ 0) × (decoded 0x12350000 ≡ 2)

-- ## At and beyond the edges

abbrev pub number_of : ℕ → ℕ → ℕ → ℕ → ℕ
number_of start z beats kind = burst_number (record { start = axi start; size = z; beats = beats; kind = kind })

-- types, size codes, beats
abbrev pub Fields : Type 0
Fields =
    (map (number_of 0x12340000 2 1) (0 ∷ 1 ∷ 2 ∷ []) ≡ 3 ∷ 0 ∷ 3 ∷ [])
    × (map (λ z. number_of 0x12340000 z 1 1) (0 ∷ 5 ∷ 6 ∷ []) ≡ 0 ∷ 0 ∷ 3 ∷ [])
    × (map (λ n. number_of 0x12340000 0 n 1) (0 ∷ 1 ∷ 256 ∷ 257 ∷ []) ≡ 3 ∷ 0 ∷ 0 ∷ 3 ∷ [])

-- a whole page, the same from 16 bytes on, and bursts that end at 2^64 or would pass it
abbrev pub Pages : Type 0
Pages =
    (map (λ a. number_of a 4 256 1) (0x12340000 ∷ 0x12340010 ∷ []) ≡ 0 ∷ 3 ∷ [])
    × (map (λ n. number_of (2 ^ 64 - 1) 5 n 1) (1 ∷ 2 ∷ []) ≡ 0 ∷ 3 ∷ [])
    × (length_of (incr (2 ^ 64 - 1) 5 1) ≡ 1)
    × (length_of (incr 0x12340000 4 256) ≡ 4096)

-- '4,096-byte read at limit 128 needs 32 tags' (W11), and other limits
abbrev pub Cuts : Type 0
Cuts = map (λ l. piece_count l 0x12340000 4096) (128 ∷ 256 ∷ 4096 ∷ []) ≡ 32 ∷ 16 ∷ 1 ∷ []
