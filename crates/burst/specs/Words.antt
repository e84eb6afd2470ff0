-- The 4-byte words that n bytes from address a on touch (01, 'Memory bursts').
use Rattle.std.specs.Prelude.{ℕ, zero, suc, ◌+◌, ◌-◌, ◌*◌, ◌/◌, ◌%◌, ◌^◌, min, List, ◌++◌, Bool, cond, ◌&&◌, length, replicate, leb, ltb}
use Rattle.burst.specs.Pieces.{piece_at}

-- the address of the first word, 'low two bits zero'
unfoldable pub word_address : ℕ → ℕ
word_address a = a / 4 * 4

-- 'Length counts 4-byte words touched'
unfoldable pub word_count : ℕ → ℕ → ℕ
word_count a n = (a % 4 + n + 3) / 4

-- the byte at address x is one of them
abbrev pub wanted : ℕ → ℕ → ℕ → Bool
wanted a n x = leb a x && ltb x (a + n)

-- a bit for each of the bytes from, .., to - 1 of a word
abbrev pub enables : ℕ → ℕ → ℕ
enables from to = 2 ^ to - 2 ^ from

-- the bytes wanted of the first word
unfoldable pub first_enables : ℕ → ℕ → ℕ
first_enables a n = enables (a % 4) (min 4 (a % 4 + n))

-- and of the last, which ends behind the last byte; 'with one word, last is 0'
unfoldable pub last_enables : ℕ → ℕ → ℕ
last_enables a n = cond (leb (word_count a n) 1) 0 (enables 0 ((a % 4 + n + 3) % 4 + 1))

-- the words' bytes, 'unwanted bytes zero'
unfoldable pub words_of : ℕ → List ℕ → List ℕ
words_of a bytes =
    replicate (a % 4) 0 ++ bytes ++ replicate (4 * word_count a (length bytes) - (a % 4 + length bytes)) 0

-- the words of the first k pieces of a cut
unfoldable pub words_before : ℕ → ℕ → ℕ → ℕ → ℕ
words_before l a n zero = 0
words_before l a n (suc k) = words_before l a n k + word_count (piece_at l a n k).first (piece_at l a n k).length

-- the lower address of a completion whose first byte is at a: 'the next address mod 128'
abbrev pub lower_address : ℕ → ℕ
lower_address a = a % 128
