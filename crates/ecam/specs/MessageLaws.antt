-- What is proved of error messages and their words (02, A1), for all registers, messages, strobes and data.
use Rattle.std.specs.Prelude.{◌≡◌, List, [], ◌∷◌, ◌++◌, true, not, ◌&&◌, ◌||◌, ℕ, ◌≤◌, ◌<◌, length, eqb}
use Rattle.bits.specs.Bits.{is_set}
use Rattle.messages.specs.Queue.{depth, is_empty, pop, oldest}
use Rattle.messages.specs.Layout.{code_of, error_bit, entry_of}
use Rattle.ecam.specs.Registers.{Registers, strobed, status_control, error_fifo_not_empty, error_fifo_overflow, error_fifo_read, local_read, local_write, with_decode, with_errors, with_overflow, messaged}

-- ---- a message

-- the bit of its code is set, and no other changes
pub record OwnBit (r : Registers) (m : List ℕ) : Type 0 where
  pub here : is_set (messaged r m).decode (error_bit (code_of m)) ≡ true
  pub others : (i : ℕ) → (i ≡ error_bit (code_of m) → ⊥) → is_set (messaged r m).decode i ≡ is_set r.decode i

abbrev pub MessageBit : Type 0
MessageBit = (r : Registers) (m : List ℕ) → OwnBit r m

-- while there is room it is queued behind the others, and the flag stays
pub record Queued (r : Registers) (m : List ℕ) : Type 0 where
  pub errors : (messaged r m).errors ≡ r.errors ++ entry_of m ∷ []
  pub overflow : (messaged r m).overflow ≡ r.overflow

abbrev pub MessageQueued : Type 0
MessageQueued = (r : Registers) (m : List ℕ) → length r.errors < depth → Queued r m

-- 'Overflow drops the newest, but sets its flag'
pub record Dropped (r : Registers) (m : List ℕ) : Type 0 where
  pub errors : (messaged r m).errors ≡ r.errors
  pub overflow : (messaged r m).overflow ≡ true

abbrev pub MessageDropped : Type 0
MessageDropped = (r : Registers) (m : List ℕ) → depth ≤ length r.errors → Dropped r m

-- nothing but decode, the queue and its flag changes
abbrev pub MessageOnly : Type 0
MessageOnly =
    (r : Registers) (m : List ℕ)
    → messaged r m
    ≡ with_errors (with_overflow (with_decode r (messaged r m).decode) (messaged r m).overflow) (messaged r m).errors

-- ---- 148 and 154

-- 148 shows bit 16 where the queue is not empty, bit 17 the flag, and 0 elsewhere
abbrev pub StatusBits : Type 0
StatusBits =
    (r : Registers) (i : ℕ)
    → i < 32
    → is_set (local_read r status_control) i
    ≡ (eqb i error_fifo_not_empty && not (is_empty r.errors) || eqb i error_fifo_overflow && r.overflow)

-- a one written to bit 17 in a chosen byte clears the flag, and nothing else; any other write leaves it
abbrev pub StatusWritten : Type 0
StatusWritten =
    (r : Registers) (s d : ℕ)
    → local_write r status_control s d
    ≡ with_overflow r (r.overflow && not (strobed s error_fifo_overflow && is_set d error_fifo_overflow))

-- 154 shows the oldest entry, and 0 where the queue is empty
abbrev pub FifoShows : Type 0
FifoShows = (r : Registers) → local_read r error_fifo_read ≡ oldest r.errors

-- 'any write there removes the oldest entry', and changes nothing else
abbrev pub FifoWritten : Type 0
FifoWritten = (r : Registers) (s d : ℕ) → local_write r error_fifo_read s d ≡ with_errors r (pop r.errors)

-- ---- equal words are not equal registers

-- two registers that every word shows alike, and that differ after one write to 154
pub record Hidden : Type 0 where
  pub one : Registers
  pub other : Registers
  pub same : (w : ℕ) → local_read one w ≡ local_read other w
  pub differ : local_read (local_write one error_fifo_read 0 0) error_fifo_read ≡ local_read (local_write other error_fifo_read 0 0) error_fifo_read → ⊥

abbrev pub WordsHideTheQueue : Type 0
WordsHideTheQueue = Hidden
