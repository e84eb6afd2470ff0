-- The worked examples compute; W9 wants a step for each test.
use mathlib.Core.Path.{◌≡◌, refl}
use mathlib.Core.Bool.{false}
use Prim.Native.Nat.{ℕ, ◌^◌, ◌<◌}
use lib.Dec.{lit<}
use Rattle.tlp.specs.Request.{request_bytes, format_type, target_bytes}
use Rattle.ecam.specs.Offset.{bus}
use Rattle.ecam.specs.Request.{config_request, config_target, config_address}
use Rattle.ecam.specs.Registers.{some, decode_bits, is_decode_bit, error_bits, is_error_bit, strobe, strobed, reached, clears, shown, cleared, masked, status, local_read, local_write, raised, messaged, fresh}
use Rattle.bits.specs.Bits.{bit, is_set, from_bits, set_bit}
use Rattle.messages.specs.Layout.{entry_of}
use Rattle.ecam.specs.Route.{out_of_range, route}
use Rattle.ecam.specs.Examples.{W7, W8, W9, W12, DeviceFive, OneMessage, ThreeMessages, ManyMessages, AllMasked}
use native.Mathlib.Omega.{arith}
use borrow.Author.Tests.{lt-leb}

pub w7 : W7
unfolding route config_request config_target config_address request_bytes format_type target_bytes
w7 = record { goes = refl; header = refl }

pub w8 : W8
unfolding route
w8 = record { last = refl; eleven = refl; past = refl; nine = refl }

-- an offset on bus b < 256 is in range of 8 bus bits
in_range_lem : (b o : ℕ) → bus o ≡ b → b < 256 → out_of_range 8 o ≡ false
in_range_lem b o e h = lt-leb (2 ^ 28) o (omega arith)

pub w9 : W9
unfolding route fresh
w9 =
    record {
      local = λ o e. rw (in_range_lem 0 o e (lit< tt), e);
      next = λ o e. rw (in_range_lem 1 o e (lit< tt), e);
      crossed = λ o e. rw (in_range_lem 3 o e (lit< tt), e);
    }

pub w12 : W12
unfolding route config_request config_target config_address request_bytes format_type target_bytes
w12 = record { goes = refl; header = refl }

pub device_five : DeviceFive
unfolding route
device_five = record { secondary = refl; primary = refl; past = refl; both = refl; crossed = refl }

-- ---- error messages

pub one_message : OneMessage
unfolding local_read local_write messaged raised status shown cleared clears masked reached strobed strobe is_decode_bit decode_bits is_error_bit error_bits some fresh entry_of is_set bit from_bits set_bit
one_message = record { decode = refl; status = refl; fifo = refl; fatal = refl; from = refl }

pub three_messages : ThreeMessages
unfolding local_read local_write messaged raised status shown cleared clears masked reached strobed strobe is_decode_bit decode_bits is_error_bit error_bits some fresh entry_of is_set bit from_bits set_bit
three_messages =
    record { before = refl; kept = refl; second = refl; fifo = refl; status = refl; decode = refl; cleared = refl }

pub many_messages : ManyMessages
unfolding local_read local_write messaged raised status shown cleared clears masked reached strobed strobe is_decode_bit decode_bits is_error_bit error_bits some fresh entry_of is_set bit from_bits set_bit
many_messages = record { decode = refl; status = refl; fifo = refl; room = refl; last = refl }

pub all_masked : AllMasked
unfolding local_read local_write messaged raised status shown cleared clears masked reached strobed strobe is_decode_bit decode_bits is_error_bit error_bits some fresh entry_of is_set bit from_bits set_bit
all_masked = record { mask = refl }
