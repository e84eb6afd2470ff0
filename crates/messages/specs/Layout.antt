-- An error message's bytes (02, A1): 'in hex 30, three zeros, requester ID, any tag, code 30, 31 or 33, eight zeros'.
use Rattle.std.specs.Prelude.{ℕ, ◌+◌, ◌*◌, ◌^◌, List, Bool, cond, ◌&&◌, ◌||◌, length, get_or, eqb}
use Rattle.common.specs.Decode.{correctable, non_fatal, fatal}

abbrev pub byte : List ℕ → ℕ → ℕ
byte s i = get_or s i 0

-- the first byte, a message without data that is routed to the root, and the length
abbrev pub message_first : ℕ
message_first = 0x30

abbrev pub message_length : ℕ
message_length = 16

-- ---- the codes

abbrev pub err_cor : ℕ
err_cor = 0x30

abbrev pub err_non_fatal : ℕ
err_non_fatal = 0x31

abbrev pub err_fatal : ℕ
err_fatal = 0x33

abbrev pub is_error_code : ℕ → Bool
is_error_code c = eqb c err_cor || eqb c err_non_fatal || eqb c err_fatal

-- the type that 154 shows: 00 correctable, 01 non-fatal, 10 fatal; only an error's code is asked
abbrev pub type_of : ℕ → ℕ
type_of c = cond (eqb c err_cor) 0 (cond (eqb c err_non_fatal) 1 2)

-- the decode bit of each
abbrev pub error_bit : ℕ → ℕ
error_bit c = cond (eqb c err_cor) correctable (cond (eqb c err_non_fatal) non_fatal fatal)

-- ---- the bytes

abbrev pub code_of : List ℕ → ℕ
code_of s = byte s 7

-- high byte first
abbrev pub requester_of : List ℕ → ℕ
requester_of s = byte s 4 * 2 ^ 8 + byte s 5

-- bytes 1 to 3
abbrev pub three_zeros : List ℕ → Bool
three_zeros s = eqb (byte s 1) 0 && eqb (byte s 2) 0 && eqb (byte s 3) 0

-- bytes 8 to 15
abbrev pub eight_zeros : List ℕ → Bool
eight_zeros s =
    eqb (byte s 8) 0
    && eqb (byte s 9) 0
    && eqb (byte s 10) 0
    && eqb (byte s 11) 0
    && eqb (byte s 12) 0
    && eqb (byte s 13) 0
    && eqb (byte s 14) 0
    && eqb (byte s 15) 0

-- exactly 16 bytes
unfoldable pub is_error_message : List ℕ → Bool
is_error_message s =
    eqb (length s) message_length && (eqb (byte s 0) message_first && three_zeros s && is_error_code (code_of s) && eight_zeros s)

-- ---- the entry that is queued, as 154 shows it: requester ID in 15:0, type in 17:16, valid in 18

unfoldable pub entry_of : List ℕ → ℕ
entry_of s = requester_of s + type_of (code_of s) * 2 ^ 16 + 2 ^ 18
