-- The local words, and the registers behind them.
use Rattle.std.specs.Prelude.{ℕ, ◌+◌, ◌*◌, ◌/◌, ◌%◌, ◌^◌, List, [], ◌∷◌, Bool, false, cond, not, ◌&&◌, ◌||◌, eqb}
use Rattle.common.specs.Tests.{first_of}
use Rattle.common.specs.Decode.{link_down_bit, cfg_timeout, correctable, non_fatal, fatal, slave_unsupported_request, slave_unexpected_completion, slave_completion_timeout, slave_error_poison, slave_completer_abort, slave_illegal_burst}
use Rattle.bits.specs.Bits.{is_set, from_bits, set_bit}
use Rattle.messages.specs.Queue.{is_empty, is_full, push, pop, oldest}
use Rattle.messages.specs.Layout.{code_of, error_bit, entry_of}
pub use Rattle.ecam.specs.Fields.{Registers, with_primary, with_secondary, with_subordinate, with_disable, with_decode, with_mask, with_link, with_errors, with_overflow}

-- some number of a list passes a test
unfoldable pub some : (ℕ → Bool) → List ℕ → Bool
some p [] = false
some p (n ∷ ns) = p n || some p ns

-- 'decode bits 0, 8, 20 to 25', and 9 to 11 of the error messages (02, A1)
unfoldable pub decode_bits : List ℕ
decode_bits =
    link_down_bit
    ∷ cfg_timeout
    ∷ correctable
    ∷ non_fatal
    ∷ fatal
    ∷ slave_unsupported_request
    ∷ slave_unexpected_completion
    ∷ slave_completion_timeout
    ∷ slave_error_poison
    ∷ slave_completer_abort
    ∷ slave_illegal_burst
    ∷ []

unfoldable pub is_decode_bit : ℕ → Bool
is_decode_bit i = some (eqb i) decode_bits

unfoldable pub error_bits : List ℕ
error_bits = correctable ∷ non_fatal ∷ fatal ∷ []

unfoldable pub is_error_bit : ℕ → Bool
is_error_bit i = some (eqb i) error_bits

-- the word with a one at each of decode's
unfoldable pub decode_word : ℕ
decode_word = from_bits 32 is_decode_bit

-- byte j of a word
unfoldable pub byte : ℕ → ℕ → ℕ
byte w j = w / 2 ^ (8 * j) % 2 ^ 8

-- 'Strobes choose bytes': strobe j, of the strobes mod 16, chooses byte j
unfoldable pub strobe : ℕ → ℕ → Bool
strobe s j = is_set (s % 16) j

-- the bit at i lies in a strobed byte
unfoldable pub strobed : ℕ → ℕ → Bool
strobed s i = strobe s (i / 8)

-- the bits of 138 and 13C that a write reaches
unfoldable pub reached : ℕ → ℕ → Bool
reached s i = strobed s i && is_decode_bit i

-- what 138 and 13C show: decode's bits, and nothing else
unfoldable pub shown : ℕ → ℕ
shown w = from_bits 32 (λ i. is_set w i && is_decode_bit i)

-- 'a written one clears bits 9 to 11 only while the queue is empty'
unfoldable pub clears : Bool → ℕ → ℕ → Bool
clears empty s i = reached s i && (empty || not (is_error_bit i))

-- 138 'cleared by writing one'
unfoldable pub cleared : Bool → ℕ → ℕ → ℕ → ℕ
cleared empty w s d = from_bits 32 (λ i. is_set w i && not (clears empty s i && is_set d i))

-- 13C 'the mask of those bits'
unfoldable pub masked : ℕ → ℕ → ℕ → ℕ
masked w s d = from_bits 32 (λ i. cond (reached s i) (is_set d i) (is_set w i))

-- a byte of 018, as the write leaves it
unfoldable pub numbered : ℕ → ℕ → ℕ → ℕ → ℕ
numbered x s d j = cond (strobe s j) (byte d j) x

-- ---- the words of the error messages, by their names in PG194 (02, A1)

-- Root Port Status/Control, and its bits: the queue is not empty; a message was dropped
abbrev pub status_control : ℕ
status_control = 0x148

abbrev pub error_fifo_not_empty : ℕ
error_fifo_not_empty = 16

abbrev pub error_fifo_overflow : ℕ
error_fifo_overflow = 17

-- Root Port Error FIFO Read
abbrev pub error_fifo_read : ℕ
error_fifo_read = 0x154

-- whether the queue is empty is no state of its own
unfoldable pub status : Registers → ℕ
status r = cond (is_empty r.errors) 0 (2 ^ error_fifo_not_empty) + cond r.overflow (2 ^ error_fifo_overflow) 0

-- ---- reads and writes

-- a local read: each word's value; 'Everything else reads 0'
unfoldable pub local_read : Registers → ℕ → ℕ
local_read r w =
    first_of
    ((eqb w 0x018, r.primary % 2 ^ 8 + r.secondary % 2 ^ 8 * 2 ^ 8 + r.subordinate % 2 ^ 8 * 2 ^ 16)
    ∷ (eqb w 0x130, 0x0000000B)
    ∷ (eqb w 0x134, cond r.disable (2 ^ 8) 0)
    ∷ (eqb w 0x138, shown r.decode)
    ∷ (eqb w 0x13C, shown r.mask)
    ∷ (eqb w 0x144, cond r.link (2 ^ 11) 0)
    ∷ (eqb w status_control, status r)
    ∷ (eqb w error_fifo_read, oldest r.errors)
    ∷ [])

-- the registers after a write of d to one of the words
unfoldable pub write_buses : Registers → ℕ → ℕ → Registers
write_buses r s d =
    with_subordinate
    (with_secondary (with_primary r (numbered r.primary s d 0)) (numbered r.secondary s d 1))
    (numbered r.subordinate s d 2)

unfoldable pub write_disable : Registers → ℕ → ℕ → Registers
write_disable r s d = with_disable r (cond (strobed s 8) (is_set d 8) r.disable)

-- the overflow flag is cleared by writing one
unfoldable pub write_status : Registers → ℕ → ℕ → Registers
write_status r s d = with_overflow r (r.overflow && not (strobed s error_fifo_overflow && is_set d error_fifo_overflow))

-- a local write; 'any write there removes the oldest entry', whatever its data and strobes; 'Everything else .. ignores writes'
unfoldable pub local_write : Registers → ℕ → ℕ → ℕ → Registers
local_write r w s d =
    cond (eqb w 0x018) (write_buses r s d)
    (cond (eqb w 0x134) (write_disable r s d)
    (cond (eqb w 0x138) (with_decode r (cleared (is_empty r.errors) r.decode s d))
    (cond (eqb w 0x13C) (with_mask r (masked r.mask s d))
    (cond (eqb w status_control) (write_status r s d)
    (cond (eqb w error_fifo_read) (with_errors r (pop r.errors)) r)))))

-- decode once a cause is seen: its bit is set; a number that is no decode bit sets none
unfoldable pub raised : ℕ → ℕ → ℕ
raised w i = cond (is_decode_bit i) (set_bit 32 w i) w

-- an error message came: it is queued, or dropped where the queue is full; 'Overflow drops the newest, but sets its flag and
-- the message's decode bit'
unfoldable pub messaged : Registers → List ℕ → Registers
messaged r m =
    with_errors
    (with_overflow (with_decode r (raised r.decode (error_bit (code_of m)))) (r.overflow || is_full r.errors))
    (push r.errors (entry_of m))

-- 'The line is high when decode and mask share a bit and bit 8 of 134 is 0'
unfoldable pub line : Registers → Bool
line r = not r.disable && some (λ i. is_set r.decode i && is_set r.mask i) decode_bits

-- a fresh bridge's registers: link down, all zero
unfoldable pub fresh : Registers
fresh =
    record {
      primary = 0;
      secondary = 0;
      subordinate = 0;
      disable = false;
      decode = 0;
      mask = 0;
      link = false;
      errors = [];
      overflow = false;
    }
