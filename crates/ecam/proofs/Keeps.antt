-- What a run's registers keep: decode's bits alone, bus numbers of a byte, no more messages than 32.
use mathlib.Core.Path.{◌≡◌, refl, sym, ap, ◌∙◌}
use mathlib.Core.Bool.{Bool, true, false, cond, not, ◌&&◌}
use Prim.Native.Nat.{ℕ, ◌+◌, ◌*◌, ◌/◌, ◌%◌, ◌^◌, ◌≤◌, ◌<◌, zero-le}
use native.Mathlib.Nat.{mod-lt, zero-lt-suc}
use native.Mathlib.Decide.{dec_lt}
use native.Mathlib.Omega.{arith}
use lib.Dec.{ltb, lit<}
use Rattle.messages.specs.Queue.{is_empty}
use Rattle.messages.specs.Layout.{code_of, error_bit, entry_of}
use Rattle.messages.proofs.Order.{never_more, pop_no_more}
use Rattle.bits.specs.Bits.{is_set, set_bit}
use Rattle.bits.proofs.Flags.{apart, and_false}
use Rattle.bits.proofs.Bits.{from_bits_has, from_bits_fits, none_above, set_sets}
use Rattle.ecam.specs.Fields.{Registers}
use Rattle.ecam.specs.Registers.{is_decode_bit, byte, strobe, strobed, reached, clears, cleared, masked, numbered, local_write, write_buses, write_disable, write_status, raised, messaged, fresh}
use Rattle.ecam.specs.Laws.{OnlyDecodeBits, Held, FreshHeld, WriteHeld, RaiseHeld, MessageHeld, RaiseSets, RaiseAgain, RaiseOther}
use Rattle.ecam.proofs.Words.{no_decode_bit}
use Rattle.ecam.proofs.Writes.{Wrote, buses, disable, decode, mask, status, fifo, none, wrote, cleared_was}

-- ---- decode's bits stay the only ones

cleared_only : (empty : Bool) (x s d : ℕ) → OnlyDecodeBits x → OnlyDecodeBits (cleared empty x s d)
cleared_only empty x s d h i f = elim (dec_lt i 32) [ yes l ↦ low l (is_set (cleared empty x s d) i) refl | no g ↦ high (omega arith) ]
  where
    low : i < 32 → (y : Bool) → is_set (cleared empty x s d) i ≡ y → is_set (cleared empty x s d) i ≡ false
    low l true e = absurd (apart (sym (h i f) ∙ cleared_was empty x s d i l e))
    low l false e = e

    high : 32 ≤ i → is_set (cleared empty x s d) i ≡ false
    high g =
        none_above 32 (cleared empty x s d) i
        (unfold cleared in from_bits_fits 32 (λ i. is_set x i && not (clears empty s i && is_set d i))) g

masked_only : (x s d : ℕ) → OnlyDecodeBits x → OnlyDecodeBits (masked x s d)
unfolding masked reached
masked_only x s d h i f = elim (dec_lt i 32) [ yes l ↦ low l | no g ↦ high (omega arith) ]
  where
    low : i < 32 → is_set (masked x s d) i ≡ false
    low l = from_bits_has 32 (λ i. cond (reached s i) (is_set d i) (is_set x i)) i l ∙ rw (f, and_false (strobed s i)) (h i f)

    high : 32 ≤ i → is_set (masked x s d) i ≡ false
    high g = none_above 32 (masked x s d) i (from_bits_fits 32 (λ i. cond (reached s i) (is_set d i) (is_set x i))) g

number_fits : (x s d j : ℕ) → x < 2 ^ 8 → numbered x s d j < 2 ^ 8
unfolding numbered byte
number_fits x s d j h = by (strobe s j)
  where
    by : (a : Bool) → cond a (d / 2 ^ (8 * j) % 2 ^ 8) x < 2 ^ 8
    by true = mod-lt (d / 2 ^ (8 * j)) (lit< tt)
    by false = h

pub fresh_held : FreshHeld
unfolding fresh
fresh_held =
    record {
      primary = lit< tt;
      secondary = lit< tt;
      subordinate = lit< tt;
      decode = λ i f. none_above 0 0 i (zero-lt-suc 0) zero-le;
      mask = λ i f. none_above 0 0 i (zero-lt-suc 0) zero-le;
      errors = zero-le;
    }

held : (r : Registers) (w s d : ℕ) (q : Registers) → Wrote r w s d q → Held r → Held q
unfolding write_buses write_disable write_status
held r w s d q (buses e) h =
    record {
      primary = number_fits r.primary s d 0 h.primary;
      secondary = number_fits r.secondary s d 1 h.secondary;
      subordinate = number_fits r.subordinate s d 2 h.subordinate;
      decode = h.decode;
      mask = h.mask;
      errors = h.errors;
    }
held r w s d q (disable e) h =
    record {
      primary = h.primary;
      secondary = h.secondary;
      subordinate = h.subordinate;
      decode = h.decode;
      mask = h.mask;
      errors = h.errors;
    }
held r w s d q (decode e) h =
    record {
      primary = h.primary;
      secondary = h.secondary;
      subordinate = h.subordinate;
      decode = cleared_only (is_empty r.errors) r.decode s d h.decode;
      mask = h.mask;
      errors = h.errors;
    }
held r w s d q (mask e) h =
    record {
      primary = h.primary;
      secondary = h.secondary;
      subordinate = h.subordinate;
      decode = h.decode;
      mask = masked_only r.mask s d h.mask;
      errors = h.errors;
    }
held r w s d q (status e) h =
    record {
      primary = h.primary;
      secondary = h.secondary;
      subordinate = h.subordinate;
      decode = h.decode;
      mask = h.mask;
      errors = h.errors;
    }
held r w s d q (fifo e) h =
    record {
      primary = h.primary;
      secondary = h.secondary;
      subordinate = h.subordinate;
      decode = h.decode;
      mask = h.mask;
      errors = pop_no_more r.errors h.errors;
    }
held r w s d q none h = h

pub write_held : WriteHeld
write_held r w s d h = held r w s d (local_write r w s d) (wrote r w s d) h

-- ---- a raised bit

pub decode_below : (t : ℕ) → is_decode_bit t ≡ true → t < 32
decode_below t e = elim (dec_lt t 32) [ yes l ↦ l | no g ↦ absurd (apart (sym (no_decode_bit t (omega arith)) ∙ e)) ]

pub raise_sets : RaiseSets
unfolding raised
raise_sets w t e = let s = set_sets 32 w t (decode_below t e) in rw e (record { here = s.here; others = s.others })

pub raise_again : RaiseAgain
unfolding raised set_bit
raise_again w t e = by (is_decode_bit t) (ltb t 32)
  where
    by : (a b : Bool) → cond a (cond (b && not (is_set w t)) (w + 2 ^ t) w) w ≡ w
    by true true = rw e
    by true false = refl
    by false b = refl

pub raise_other : RaiseOther
unfolding raised
raise_other w t e = rw e

raised_only : (w t : ℕ) → OnlyDecodeBits w → OnlyDecodeBits (raised w t)
raised_only w t h = by (is_decode_bit t) refl
  where
    by : (a : Bool) → is_decode_bit t ≡ a → OnlyDecodeBits (raised w t)
    by true e = λ i f. (raise_sets w t e).others i (λ (z : i ≡ t). apart (sym f ∙ (ap is_decode_bit z ∙ e))) ∙ h i f
    by false e = rw (raise_other w t e) h

pub raise_held : RaiseHeld
raise_held r i h =
    record {
      primary = h.primary;
      secondary = h.secondary;
      subordinate = h.subordinate;
      decode = raised_only r.decode i h.decode;
      mask = h.mask;
      errors = h.errors;
    }

pub message_held : MessageHeld
unfolding messaged
message_held r m h =
    record {
      primary = h.primary;
      secondary = h.secondary;
      subordinate = h.subordinate;
      decode = raised_only r.decode (error_bit (code_of m)) h.decode;
      mask = h.mask;
      errors = never_more r.errors (entry_of m) h.errors;
    }
