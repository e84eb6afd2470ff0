-- What is proved of requests and local words, for every route, all registers, every word, strobes and data. Offsets and routes
-- are in RouteLaws, messages in MessageLaws.
use Rattle.std.specs.Prelude.{◌≡◌, List, Bool, true, false, cond, not, ◌&&◌, ◌||◌, ℕ, ◌%◌, ◌^◌, ◌≤◌, ◌<◌, eqb, length}
use Rattle.bits.specs.Bits.{is_set}
use Rattle.messages.specs.Queue.{depth, is_empty}
use Rattle.tlp.specs.Request.{valid_request}
use Rattle.ecam.specs.Fields.{Registers}
use Rattle.ecam.specs.Route.{Route}
use Rattle.ecam.specs.Registers.{is_decode_bit, is_error_bit, decode_word, byte, strobe, strobed, reached, status_control, error_fifo_overflow, error_fifo_read, local_read, local_write, with_decode, raised, messaged, line, fresh}
use Rattle.ecam.specs.Request.{config_request, data_bytes, data_word}

-- ---- the request

-- the request is one that the header writer takes
abbrev pub ConfigRequestValid : Type 0
ConfigRequestValid =
    (x : Route) (o : ℕ) (write : Bool) (s requester tag : ℕ)
    → requester < 2 ^ 16
    → tag < 256
    → valid_request (config_request x o write s requester tag) ≡ true

-- a data word reads back from its bytes
abbrev pub DataReadsBack : Type 0
DataReadsBack = (d : ℕ) → d < 2 ^ 32 → data_word (data_bytes d) ≡ d

-- ---- a write

-- q differs from r only where the word and the strobes of a write say so
pub record OnlyNamed (r : Registers) (w s : ℕ) (q : Registers) : Type 0 where
  pub primary : (eqb w 0x018 && strobe s 0) ≡ false → q.primary ≡ r.primary
  pub secondary : (eqb w 0x018 && strobe s 1) ≡ false → q.secondary ≡ r.secondary
  pub subordinate : (eqb w 0x018 && strobe s 2) ≡ false → q.subordinate ≡ r.subordinate
  pub disable : (eqb w 0x134 && strobe s 1) ≡ false → q.disable ≡ r.disable
  pub decode : (i : ℕ) → i < 32 → (eqb w 0x138 && reached s i) ≡ false → is_set q.decode i ≡ is_set r.decode i
  pub mask : (i : ℕ) → i < 32 → (eqb w 0x13C && reached s i) ≡ false → is_set q.mask i ≡ is_set r.mask i
  pub link : q.link ≡ r.link
  pub errors : eqb w error_fifo_read ≡ false → q.errors ≡ r.errors
  pub overflow : (eqb w status_control && strobed s error_fifo_overflow) ≡ false → q.overflow ≡ r.overflow

abbrev pub WriteOnlyNamed : Type 0
WriteOnlyNamed = (r : Registers) (w s d : ℕ) → OnlyNamed r w s (local_write r w s d)

-- a write to any word but 018, 134, 138, 13C, 148 and 154 changes nothing
abbrev pub WriteIgnored : Type 0
WriteIgnored =
    (r : Registers) (w s d : ℕ)
    → (w ≡ 0x018 → ⊥)
    → (w ≡ 0x134 → ⊥)
    → (w ≡ 0x138 → ⊥)
    → (w ≡ 0x13C → ⊥)
    → (w ≡ status_control → ⊥)
    → (w ≡ error_fifo_read → ⊥)
    → local_write r w s d ≡ r

-- a write sets no decode bit
abbrev pub WriteSetsNone : Type 0
WriteSetsNone =
    (r : Registers) (w s d i : ℕ) → i < 32 → is_set (local_write r w s d).decode i ≡ true → is_set r.decode i ≡ true

-- and clears one only where a one is written to 138 in a strobed byte; 9 to 11 only while the queue is empty
pub record OneWritten (empty : Bool) (w s d i : ℕ) : Type 0 where
  pub there : w ≡ 0x138
  pub bit : is_decode_bit i ≡ true
  pub chosen : strobed s i ≡ true
  pub one : is_set d i ≡ true
  pub free : (empty || not (is_error_bit i)) ≡ true

abbrev pub WriteClearsOnes : Type 0
WriteClearsOnes =
    (r : Registers) (w s d i : ℕ)
    → i < 32
    → is_set r.decode i ≡ true
    → is_set (local_write r w s d).decode i ≡ false
    → OneWritten (is_empty r.errors) w s d i

-- with no strobe nothing changes (of 32-bit words), but by a write to 154
abbrev pub NoStrobes : Type 0
NoStrobes =
    (r : Registers) (w d : ℕ) → (w ≡ error_fifo_read → ⊥) → r.decode < 2 ^ 32 → r.mask < 2 ^ 32 → local_write r w 0 d ≡ r

-- of the strobes only the low four count
abbrev pub StrobesMod16 : Type 0
StrobesMod16 = (r : Registers) (w s d : ℕ) → local_write r w (s % 16) d ≡ local_write r w s d

-- ---- decode's bits

-- no bit outside decode's is set
abbrev pub OnlyDecodeBits : ℕ → Type 0
OnlyDecodeBits w = (i : ℕ) → is_decode_bit i ≡ false → is_set w i ≡ false

-- what a run's registers keep: bus numbers of a byte, decode and mask of decode's bits alone, and 32 messages at most
pub record Held (r : Registers) : Type 0 where
  pub primary : r.primary < 2 ^ 8
  pub secondary : r.secondary < 2 ^ 8
  pub subordinate : r.subordinate < 2 ^ 8
  pub decode : OnlyDecodeBits r.decode
  pub mask : OnlyDecodeBits r.mask
  pub errors : length r.errors ≤ depth

abbrev pub FreshHeld : Type 0
FreshHeld = Held fresh

abbrev pub WriteHeld : Type 0
WriteHeld = (r : Registers) (w s d : ℕ) → Held r → Held (local_write r w s d)

abbrev pub RaiseHeld : Type 0
RaiseHeld = (r : Registers) (i : ℕ) → Held r → Held (with_decode r (raised r.decode i))

abbrev pub MessageHeld : Type 0
MessageHeld = (r : Registers) (m : List ℕ) → Held r → Held (messaged r m)

-- the bits of the list are those of the number 03F00F01
abbrev pub DecodeWord : Type 0
DecodeWord = decode_word ≡ 0x03F00F01

-- a raised decode bit is set and no other changes; raising it again, or a number that is no decode bit, changes nothing
pub record Raised (w t r : ℕ) : Type 0 where
  pub here : is_set r t ≡ true
  pub others : (i : ℕ) → (i ≡ t → ⊥) → is_set r i ≡ is_set w i

abbrev pub RaiseSets : Type 0
RaiseSets = (w t : ℕ) → is_decode_bit t ≡ true → Raised w t (raised w t)

abbrev pub RaiseAgain : Type 0
RaiseAgain = (w t : ℕ) → is_set w t ≡ true → raised w t ≡ w

abbrev pub RaiseOther : Type 0
RaiseOther = (w t : ℕ) → is_decode_bit t ≡ false → raised w t ≡ w

-- ---- a read; it hands back a number alone, so it changes nothing

-- a word that was not written reads as before; but 148 shows whether a write to 154 left the queue empty
abbrev pub ReadElsewhere : Type 0
ReadElsewhere =
    (r : Registers) (w s d v : ℕ)
    → (v ≡ w → ⊥)
    → (w ≡ error_fifo_read → v ≡ status_control → ⊥)
    → local_read (local_write r w s d) v ≡ local_read r v

-- 018: the strobed bytes below byte 3 are the data's
abbrev pub ReadBuses : Type 0
ReadBuses =
    (r : Registers) (s d j : ℕ)
    → j < 3
    → byte (local_read (local_write r 0x018 s d) 0x018) j ≡ cond (strobe s j) (byte d j) (byte (local_read r 0x018) j)

-- and byte 3 is 0
abbrev pub ReadBusesTop : Type 0
ReadBusesTop = (r : Registers) → byte (local_read r 0x018) 3 ≡ 0

abbrev pub ReadInfo : Type 0
ReadInfo = (r : Registers) → local_read r 0x130 ≡ 0x0000000B

-- 134: bit 8 is the data's where byte 1 is strobed
abbrev pub ReadDisable : Type 0
ReadDisable =
    (r : Registers) (s d : ℕ)
    → local_read (local_write r 0x134 s d) 0x134 ≡ cond (strobe s 1) (cond (is_set d 8) (2 ^ 8) 0) (local_read r 0x134)

-- 138: a strobed one clears, in bits 9 to 11 only while the queue is empty
abbrev pub ReadDecode : Type 0
ReadDecode =
    (r : Registers) (s d i : ℕ)
    → i < 32
    → is_set (local_read (local_write r 0x138 s d) 0x138) i
    ≡ (is_set (local_read r 0x138) i && not (strobed s i && is_set d i && (is_empty r.errors || not (is_error_bit i))))

-- 13C: decode's bits in the strobed bytes are the data's
abbrev pub ReadMask : Type 0
ReadMask =
    (r : Registers) (s d i : ℕ)
    → i < 32
    → is_set (local_read (local_write r 0x13C s d) 0x13C) i
    ≡ (cond (strobed s i) (is_set d i) (is_set (local_read r 0x13C) i) && is_decode_bit i)

-- 144 shows the link, which no write changes (`WriteOnlyNamed`)
abbrev pub ReadLink : Type 0
ReadLink = (r : Registers) → local_read r 0x144 ≡ cond r.link (2 ^ 11) 0

-- any other word reads 0
abbrev pub ReadRest : Type 0
ReadRest =
    (r : Registers) (w : ℕ)
    → (w ≡ 0x018 → ⊥)
    → (w ≡ 0x130 → ⊥)
    → (w ≡ 0x134 → ⊥)
    → (w ≡ 0x138 → ⊥)
    → (w ≡ 0x13C → ⊥)
    → (w ≡ 0x144 → ⊥)
    → (w ≡ status_control → ⊥)
    → (w ≡ error_fifo_read → ⊥)
    → local_read r w ≡ 0

-- the words that show registers
pub record SameWords (r q : Registers) : Type 0 where
  pub buses : local_read r 0x018 ≡ local_read q 0x018
  pub disable : local_read r 0x134 ≡ local_read q 0x134
  pub decode : local_read r 0x138 ≡ local_read q 0x138
  pub mask : local_read r 0x13C ≡ local_read q 0x13C
  pub link : local_read r 0x144 ≡ local_read q 0x144
  pub status : local_read r status_control ≡ local_read q status_control
  pub fifo : local_read r error_fifo_read ≡ local_read q error_fifo_read

-- with the queued messages they are all that a run's registers keep: what reads alike, with equal queues, is alike
abbrev pub ShownIsAll : Type 0
ShownIsAll = (r q : Registers) → Held r → Held q → SameWords r q → r.errors ≡ q.errors → r ≡ q

-- ---- the line

-- bit 8 of 134 is 0, and 138 and 13C show a bit in common
pub record Share (r : Registers) : Type 0 where
  pub enabled : is_set (local_read r 0x134) 8 ≡ false
  pub at : ℕ
  pub decode : is_set (local_read r 0x138) at ≡ true
  pub mask : is_set (local_read r 0x13C) at ≡ true

-- the line is high exactly then
abbrev pub LineHigh : Type 0
LineHigh = (r : Registers) → line r ≡ true → Share r

abbrev pub LineOnly : Type 0
LineOnly = (r : Registers) → Share r → line r ≡ true
