-- The laws on error messages and their words.
use mathlib.Core.Path.{◌≡◌, refl, sym}
use mathlib.Core.List.{[], ◌∷◌}
use mathlib.Core.Bool.{Bool, true, false, cond, not, ◌&&◌, ◌||◌}
use Prim.Native.Nat.{ℕ, ◌+◌, ◌^◌}
use native.Mathlib.Omega.{arith}
use lib.ListN.{length}
use lib.Dec.{eqb}
use borrow.Author.Tests.{le-leb, lt-leb}
use Rattle.bits.specs.Bits.{bit, is_set}
use Rattle.bits.proofs.Flags.{or_true}
use Rattle.messages.specs.Queue.{is_empty}
use Rattle.messages.specs.Layout.{err_cor, err_non_fatal, code_of, error_bit}
use Rattle.ecam.specs.Registers.{some, decode_bits, is_decode_bit, error_fifo_not_empty, error_fifo_overflow, status, local_read, local_write, write_status, with_errors, messaged, fresh}
use Rattle.ecam.specs.MessageLaws.{MessageBit, MessageQueued, MessageDropped, MessageOnly, StatusBits, StatusWritten, FifoShows, FifoWritten, WordsHideTheQueue}
use Rattle.ecam.proofs.Words.{all_below, all_below_lem}
use Rattle.ecam.proofs.Keeps.{raise_sets}

-- ---- a message

-- each code's bit is one of decode's
error_bit_is : (c : ℕ) → is_decode_bit (error_bit c) ≡ true
unfolding is_decode_bit some decode_bits
error_bit_is c = by (eqb c err_cor) (eqb c err_non_fatal)
  where
    by : (a b : Bool) → is_decode_bit (cond a 9 (cond b 10 11)) ≡ true
    by true b = refl
    by false true = refl
    by false false = refl

pub message_bit : MessageBit
unfolding messaged
message_bit r m =
    let s = raise_sets r.decode (error_bit (code_of m)) (error_bit_is (code_of m)) in record { here = s.here; others = s.others }

or_false : (a : Bool) → (a || false) ≡ a
or_false true = refl
or_false false = refl

pub message_queued : MessageQueued
unfolding messaged
message_queued r m h =
    let e = lt-leb 32 (length r.errors) h in record { errors = rw e; overflow = rw e (or_false r.overflow) }

pub message_dropped : MessageDropped
unfolding messaged
message_dropped r m h =
    let e = le-leb 32 (length r.errors) h in record { errors = rw e; overflow = rw e (or_true r.overflow) }

pub message_only : MessageOnly
unfolding messaged
message_only r m = refl

-- ---- 148 and 154

sameb : Bool → Bool → Bool
sameb true b = b
sameb false b = not b

sameb_is : (a b : Bool) → sameb a b ≡ true → a ≡ b
unfolding sameb
sameb_is true true e = refl
sameb_is true false e = sym e
sameb_is false true e = e
sameb_is false false e = refl

-- bit i of 148, by whether the queue is empty and the flag
bit_test : Bool → Bool → ℕ → Bool
bit_test a b i =
    sameb (is_set (cond a 0 (2 ^ error_fifo_not_empty) + cond b (2 ^ error_fifo_overflow) 0) i)
    (eqb i error_fifo_not_empty && not a || eqb i error_fifo_overflow && b)

bit_table : (a b : Bool) → all_below 32 (bit_test a b) ≡ true
unfolding all_below bit_test sameb is_set bit
bit_table true true = refl
bit_table true false = refl
bit_table false true = refl
bit_table false false = refl

pub status_bits : StatusBits
unfolding local_read status bit_test
status_bits r i l =
    sameb_is _ _ (all_below_lem 32 (bit_test (is_empty r.errors) r.overflow) (bit_table (is_empty r.errors) r.overflow) i l)

pub status_written : StatusWritten
unfolding local_write write_status
status_written r s d = refl

pub fifo_shows : FifoShows
unfolding local_read
fifo_shows r = refl

pub fifo_written : FifoWritten
unfolding local_write
fifo_written r s d = refl

-- ---- what the words do not show

-- two queued, of which the second is another
pub words_hide_the_queue : WordsHideTheQueue
unfolding local_read local_write status fresh
words_hide_the_queue =
    record {
      one = with_errors fresh (0x00040100 ∷ 0x00040200 ∷ []);
      other = with_errors fresh (0x00040100 ∷ 0x00040300 ∷ []);
      same = λ w. refl;
      differ = λ e. omega (arith, e);
    }
