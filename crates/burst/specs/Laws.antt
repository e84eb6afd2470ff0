-- What holds of bursts, pieces and words. The laws on the cut are stated once, for any limit l; each says what it asks of l.
use Rattle.std.specs.Prelude.{◌≡◌, true, cond, ℕ, ◌+◌, ◌-◌, ◌*◌, ◌/◌, ◌%◌, ◌^◌, ◌≤◌, ◌<◌, length, get_or}
use mathlib.Core.List.{List, flat_map}
use Rattle.address.specs.declared.AxiAddress.{AxiAddress}
use Rattle.address.specs.declared.Windows.{Windows}
use Rattle.address.specs.Windows.{axi, window_of, holds_at, translated_at}
use Rattle.address.specs.Settings.{windows_right}
use Rattle.address.specs.Laws.{Limit}
use Rattle.burst.specs.declared.Burst.{Burst}
use Rattle.burst.specs.Bursts.{end_of, page_end, burst_number, length_of}
use Rattle.burst.specs.Pieces.{piece_count, piece_at, pieces, addresses, bytes_of, Within}
use Rattle.burst.specs.Words.{word_address, word_count, first_enables, last_enables, wanted, words_of, words_before, lower_address}

-- ## Bursts

-- an accepted burst has 1 to 4,096 bytes, which end where 01 says, in the page of the start
pub record Covers (b : Burst) : Type 0 where
  pub some : 0 < length_of b
  pub most : length_of b ≤ 4096
  pub ends : b.start.0 + length_of b ≡ end_of b
  pub page : b.start.0 + length_of b ≤ page_end b.start.0

abbrev pub AcceptedCovers : Type 0
AcceptedCovers = (b : Burst) → burst_number b ≡ 0 → Covers b

-- one that would pass 2^64 is refused
abbrev pub PastTheTop : Type 0
PastTheTop = (b : Burst) → b.start.0 < 2 ^ 64 → 2 ^ 64 < end_of b → burst_number b ≡ 3

-- every byte of an accepted burst is in the page of the first
abbrev pub BurstInPage : Type 0
BurstInPage =
    (b : Burst) → burst_number b ≡ 0
    → (x : ℕ) → b.start.0 ≤ x → x < b.start.0 + length_of b → x / 4096 ≡ b.start.0 / 4096

-- and in its window, or outside all
abbrev pub BurstInWindow : Type 0
BurstInWindow =
    (b : Burst) → burst_number b ≡ 0
    → (w : Windows) → windows_right w ≡ true
    → (x : ℕ) → b.start.0 ≤ x → x < b.start.0 + length_of b
    → window_of w.count w.base w.size (axi x) ≡ window_of w.count w.base w.size b.start

-- ## Pieces

-- THE TILING LAW: joined in order, the pieces' bytes are exactly the n addresses from a on, each once
abbrev pub PiecesTile : Type 0
PiecesTile = (l a n : ℕ) → 0 < l → flat_map bytes_of (pieces l a n) ≡ addresses a n

-- none is empty
abbrev pub PieceNotEmpty : Type 0
PieceNotEmpty = (l a n k : ℕ) → 0 < l → 0 < n → k < piece_count l a n → 0 < (piece_at l a n k).length

-- each lies among the bytes; so a piece of an accepted burst lies in its page and window
abbrev pub PieceWithin : Type 0
PieceWithin = (l a n k : ℕ) → 0 < l → k < piece_count l a n → Within a n (piece_at l a n k)

-- none crosses a multiple of the limit: the bytes of the k-th are in the k-th block
abbrev pub PieceInBlock : Type 0
PieceInBlock =
    (l a n k : ℕ) → 0 < l
    → (x : ℕ) → (piece_at l a n k).first ≤ x → x < (piece_at l a n k).first + (piece_at l a n k).length → x / l ≡ a / l + k

-- none is longer than the limit
abbrev pub PieceAtMostLimit : Type 0
PieceAtMostLimit = (l a n k : ℕ) → (piece_at l a n k).length ≤ l

-- a page has at most 4,096 / l pieces, which is at most 32
abbrev pub PiecesInPage : Type 0
PiecesInPage =
    (l a n : ℕ) → Limit l → 0 < n → a + n ≤ page_end a → (piece_count l a n ≤ 4096 / l) × (4096 / l ≤ 32)

-- the cut asks of the first address only its place in its block: from another with the same place it is the same
abbrev pub SameCut : Type 0
SameCut =
    (l a b n : ℕ) → 0 < l → a % l ≡ b % l
    → (piece_count l a n ≡ piece_count l b n)
    × ((k : ℕ)
    → ((piece_at l a n k).length ≡ (piece_at l b n k).length)
    × ((piece_at l a n k).first - a ≡ (piece_at l b n k).first - b))

-- translation keeps that place, so it is the same cut on both sides of a window
abbrev pub SamePlaceBehind : Type 0
SamePlaceBehind =
    (l : ℕ) → Limit l
    → (w : Windows) → windows_right w ≡ true
    → (a : AxiAddress) (i : ℕ) → i < w.count → holds_at w i a ≡ true → (translated_at w i a).0 % l ≡ a.0 % l

-- ## Words

-- where the limit is a multiple of 4, a piece touches at most l / 4 words
abbrev pub PieceWords : Type 0
PieceWords =
    (l a n k : ℕ) → 0 < l → l % 4 ≡ 0 → word_count (piece_at l a n k).first (piece_at l a n k).length ≤ l / 4

-- for the limits of the settings that is at most 1,024
abbrev pub LimitWords : Type 0
LimitWords = (l : ℕ) → Limit l → (0 < l) × (l % 4 ≡ 0) × (l / 4 ≤ 1024)

-- the words of two neighbours meet: no word is in two pieces
abbrev pub WordsMeet : Type 0
WordsMeet =
    (l a n k : ℕ) → 0 < l → l % 4 ≡ 0 → k + 1 < piece_count l a n
    → word_address (piece_at l a n k).first + 4 * word_count (piece_at l a n k).first (piece_at l a n k).length
    ≡ word_address (piece_at l a n (k + 1)).first

-- those of the last end where those of all the bytes end
abbrev pub WordsEnd : Type 0
WordsEnd =
    (l a n k : ℕ) → 0 < l → 0 < n → k + 1 ≡ piece_count l a n
    → word_address (piece_at l a n k).first + 4 * word_count (piece_at l a n k).first (piece_at l a n k).length
    ≡ word_address a + 4 * word_count a n

-- so the words of the first k pieces end where the k-th starts, and those of all are the words of all the bytes
abbrev pub WordsBefore : Type 0
WordsBefore =
    (l a n k : ℕ) → 0 < l → l % 4 ≡ 0 → k < piece_count l a n
    → word_address a + 4 * words_before l a n k ≡ word_address (piece_at l a n k).first

abbrev pub WordsAddUp : Type 0
WordsAddUp =
    (l a n : ℕ) → 0 < l → l % 4 ≡ 0 → 0 < n → words_before l a n (piece_count l a n) ≡ word_count a n

-- with headers of at most 16 bytes, 4,608 bytes hold every piece of an accepted burst
abbrev pub RoomForAll : Type 0
RoomForAll =
    (b : Burst) → burst_number b ≡ 0
    → (l : ℕ) → Limit l
    → (k : ℕ) → k ≤ piece_count l b.start.0 (length_of b)
    → 16 * k + 4 * words_before l b.start.0 (length_of b) k ≤ 4608

-- the words of bytes in one page are in that page
abbrev pub WordsInPage : Type 0
WordsInPage = (a n : ℕ) → a + n ≤ page_end a → word_address a + 4 * word_count a n ≤ page_end a

-- the words hold every byte
abbrev pub WordsHold : Type 0
WordsHold =
    (a n x : ℕ) → wanted a n x ≡ true → (word_address a ≤ x) × (x < word_address a + 4 * word_count a n)

-- bit i of the first enables is 1 where byte i of the first word is wanted, else 0
abbrev pub FirstEnablesMark : Type 0
FirstEnablesMark = (a n i : ℕ) → i < 4 → first_enables a n / 2 ^ i % 2 ≡ cond (wanted a n (word_address a + i)) 1 0

-- the same of the last enables and the last word, where there are more words than one
abbrev pub LastEnablesMark : Type 0
LastEnablesMark =
    (a n i : ℕ) → i < 4 → 1 < word_count a n
    → last_enables a n / 2 ^ i % 2 ≡ cond (wanted a n (word_address a + 4 * (word_count a n - 1) + i)) 1 0

-- every byte of the words between is wanted
abbrev pub BetweenWanted : Type 0
BetweenWanted =
    (a n j i : ℕ) → 0 < j → j + 1 < word_count a n → i < 4 → wanted a n (word_address a + 4 * j + i) ≡ true

-- enables have 4 bits; the first are not 0, and the last are 0 for one word and not 0 for more
pub record Enabled (a n : ℕ) : Type 0 where
  pub first : first_enables a n < 16
  pub last : last_enables a n < 16
  pub some : 0 < first_enables a n
  pub one : word_count a n ≡ 1 → last_enables a n ≡ 0
  pub more : 1 < word_count a n → 0 < last_enables a n

abbrev pub EnablesRight : Type 0
EnablesRight = (a n : ℕ) → 0 < n → Enabled a n

-- all this asks of the address only its low 12 bits, which translation keeps
abbrev pub SameWords : Type 0
SameWords =
    (a b n : ℕ) → a % 4096 ≡ b % 4096
    → (word_count a n ≡ word_count b n)
    × (first_enables a n ≡ first_enables b n)
    × (last_enables a n ≡ last_enables b n)
    × (lower_address a ≡ lower_address b)

-- the words' bytes: as many as the words have, each wanted one in its place, the others zero
abbrev pub WordsLength : Type 0
WordsLength = (a : ℕ) (bytes : List ℕ) → length (words_of a bytes) ≡ 4 * word_count a (length bytes)

abbrev pub WordsBytes : Type 0
WordsBytes =
    (a : ℕ) (bytes : List ℕ) (x : ℕ) → word_address a ≤ x
    → get_or (words_of a bytes) (x - word_address a) 0 ≡ cond (wanted a (length bytes) x) (get_or bytes (x - a) 0) 0
