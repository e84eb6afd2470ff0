-- Numbers in header bytes, the most significant byte first, and the area that a writer fills.
use Rattle.std.specs.Prelude.{ℕ, zero, suc, ◌+◌, ◌*◌, ◌/◌, ◌%◌, ◌^◌, List, [], ◌∷◌, ◌++◌, Bool, true, false, cond, not, length, get_or, drop, ltb, eqb, Result, Ok, Err}
use Rattle.refusals.specs.declared.Refusal.{Refusal}
use Rattle.refusals.specs.declared.Refusal.TheVariants.{TooShort, Malformed}
use Rattle.refusals.specs.Table.{refused_by, header_order}

-- the n bytes of x
abbrev pub bytes : ℕ → ℕ → List ℕ
bytes zero x = []
bytes (suc n) x = x / 256 ^ n % 256 ∷ bytes n x

-- the byte at place i
abbrev pub byte : List ℕ → ℕ → ℕ
byte s i = get_or s i 0

-- the number that n bytes from a place on say
abbrev pub number : List ℕ → ℕ → ℕ → ℕ
number s at zero = 0
number s at (suc n) = byte s at * 256 ^ n + number s (suc at) n

-- a flag as a bit
abbrev pub flag : Bool → ℕ
flag false = 0
flag true = 1

-- a field in which the full value is written as 0
abbrev pub or_full : ℕ → ℕ → ℕ
or_full full field = cond (eqb field 0) full field

-- the Length field of a header with data: 1,024 words are written as 0
abbrev pub length_in : ℕ → ℕ
length_in field = or_full 1024 field

-- a header writer's refusals, in order: an area of less than 16 bytes; a value outside its ranges
abbrev pub write_refusal : ℕ → Bool → ℕ
write_refusal room valid = refused_by header_order (ltb room 16 ∷ not valid ∷ [])

-- what a writer answers, with the header's bytes at hand: how many they are, or the refusal that has that number (a law of
-- Laws.antt)
unfoldable pub write_header : ℕ → Bool → List ℕ → Result ℕ Refusal
write_header room valid header = cond (ltb room 16) (Err TooShort) (cond valid (Ok (length header)) (Err Malformed))

-- the area afterwards: the header fills a prefix and the rest stays; a refusal changes nothing
unfoldable pub area_after : List ℕ → Bool → List ℕ → List ℕ
area_after area valid header =
    cond (eqb (write_refusal (length area) valid) 0) (header ++ drop (length header) area) area
