-- What a local read shows after a write, and when the line is high.
use mathlib.Core.Path.{◌≡◌, refl, sym, ap, ◌∙◌}
use mathlib.Core.List.{List}
use mathlib.Core.Bool.{Bool, true, false, cond, not, ◌&&◌, ◌||◌}
use Prim.Native.Nat.{ℕ, zero, suc, ◌+◌, ◌*◌, ◌/◌, ◌%◌, ◌^◌, ◌≤◌, ◌<◌}
use native.Mathlib.Nat.{mod-mod, mod-eq_of_lt, zero-lt-suc, pow-suc, lt_of_lt_of_le}
use native.Mathlib.Decide.{dec_lt}
use native.Mathlib.Omega.{arith}
use lib.Pow.{pow_mono}
use borrow.Author.Tests.{ne_eqb}
use Rattle.bits.specs.Bits.{bit, is_set}
use Rattle.bits.proofs.Flags.{apart, and_left, and_right, and_true}
use Rattle.bits.proofs.Bits.{from_bits_has, from_bits_fits, same_bits, none_above}
use Rattle.ecam.specs.Fields.{Registers}
use Rattle.ecam.specs.Registers.{some, decode_bits, is_decode_bit, is_error_bit, byte, strobe, strobed, reached, clears, shown, cleared, masked, numbered, status_control, error_fifo_read, status, local_read, local_write, write_buses, write_disable, write_status, line}
use Rattle.ecam.specs.Laws.{ReadElsewhere, ReadBuses, ReadBusesTop, ReadInfo, ReadDisable, ReadDecode, ReadMask, ReadLink, ReadRest, OnlyDecodeBits, ShownIsAll, Share, LineHigh, LineOnly}
use Rattle.ecam.proofs.Words.{some_at, Found, some_found}
use Rattle.ecam.proofs.Writes as writes
use Rattle.ecam.proofs.Writes.{Wrote, buses, disable, decode, mask, fifo, none, wrote}
use Rattle.ecam.proofs.Keeps.{decode_below}
use Rattle.messages.specs.Queue.{is_empty}

-- ---- elsewhere

elsewhere : (r : Registers) (w s d v : ℕ) (q : Registers) → Wrote r w s d q → (v ≡ w → ⊥) → (w ≡ error_fifo_read → v ≡ status_control → ⊥)
    → local_read q v ≡ local_read r v
unfolding local_read write_buses write_disable write_status status
elsewhere r w s d v q (buses e) n k = rw (ne_eqb v 0x018 (λ z. n (z ∙ sym e)))
elsewhere r w s d v q (disable e) n k = rw (ne_eqb v 0x134 (λ z. n (z ∙ sym e)))
elsewhere r w s d v q (decode e) n k = rw (ne_eqb v 0x138 (λ z. n (z ∙ sym e)))
elsewhere r w s d v q (mask e) n k = rw (ne_eqb v 0x13C (λ z. n (z ∙ sym e)))
elsewhere r w s d v q (writes.status e) n k = rw (ne_eqb v status_control (λ z. n (z ∙ sym e)))
elsewhere r w s d v q (fifo e) n k = rw (ne_eqb v status_control (k e), ne_eqb v error_fifo_read (λ z. n (z ∙ sym e)))
elsewhere r w s d v q none n k = refl

pub read_elsewhere : ReadElsewhere
read_elsewhere r w s d v n k = elsewhere r w s d v (local_write r w s d) (wrote r w s d) n k

pub read_info : ReadInfo
unfolding local_read
read_info r = refl

pub read_link : ReadLink
unfolding local_read
read_link r = refl

pub read_rest : ReadRest
unfolding local_read
read_rest r w a b c d e f g h =
    rw (ne_eqb w 0x018 a, ne_eqb w 0x130 b, ne_eqb w 0x134 c, ne_eqb w 0x138 d, ne_eqb w 0x13C e, ne_eqb w 0x144 f, ne_eqb w status_control g, ne_eqb w error_fifo_read h)

-- ---- 018

byte_0 : (p q t : ℕ) → byte (p % 2 ^ 8 + q % 2 ^ 8 * 2 ^ 8 + t % 2 ^ 8 * 2 ^ 16) 0 ≡ p % 2 ^ 8
unfolding byte
byte_0 p q t = omega arith

byte_1 : (p q t : ℕ) → byte (p % 2 ^ 8 + q % 2 ^ 8 * 2 ^ 8 + t % 2 ^ 8 * 2 ^ 16) 1 ≡ q % 2 ^ 8
unfolding byte
byte_1 p q t = omega arith

byte_2 : (p q t : ℕ) → byte (p % 2 ^ 8 + q % 2 ^ 8 * 2 ^ 8 + t % 2 ^ 8 * 2 ^ 16) 2 ≡ t % 2 ^ 8
unfolding byte
byte_2 p q t = omega arith

byte_3 : (p q t : ℕ) → byte (p % 2 ^ 8 + q % 2 ^ 8 * 2 ^ 8 + t % 2 ^ 8 * 2 ^ 16) 3 ≡ 0
unfolding byte
byte_3 p q t = omega arith

-- a byte of 018 as it is shown
number_shown : (x s d j : ℕ) → numbered x s d j % 2 ^ 8 ≡ cond (strobe s j) (byte d j) (x % 2 ^ 8)
unfolding numbered byte
number_shown x s d j = by (strobe s j)
  where
    by : (a : Bool) → cond a (d / 2 ^ (8 * j) % 2 ^ 8) x % 2 ^ 8 ≡ cond a (d / 2 ^ (8 * j) % 2 ^ 8) (x % 2 ^ 8)
    by true = mod-mod (d / 2 ^ (8 * j)) (2 ^ 8)
    by false = refl

pub read_buses : ReadBuses
unfolding local_read local_write write_buses
read_buses r s d zero h =
    byte_0 (numbered r.primary s d 0) (numbered r.secondary s d 1) (numbered r.subordinate s d 2)
    ∙ rw (byte_0 r.primary r.secondary r.subordinate) (number_shown r.primary s d 0)
read_buses r s d (suc zero) h =
    byte_1 (numbered r.primary s d 0) (numbered r.secondary s d 1) (numbered r.subordinate s d 2)
    ∙ rw (byte_1 r.primary r.secondary r.subordinate) (number_shown r.secondary s d 1)
read_buses r s d (suc (suc zero)) h =
    byte_2 (numbered r.primary s d 0) (numbered r.secondary s d 1) (numbered r.subordinate s d 2)
    ∙ rw (byte_2 r.primary r.secondary r.subordinate) (number_shown r.subordinate s d 2)
read_buses r s d (suc (suc (suc j))) h = absurd (omega arith)

pub read_buses_top : ReadBusesTop
unfolding local_read
read_buses_top r = byte_3 r.primary r.secondary r.subordinate

-- ---- 134

pub read_disable : ReadDisable
unfolding local_read local_write write_disable strobed
read_disable r s d = by (strobe s 1)
  where
    by : (a : Bool) → cond (cond a (is_set d 8) r.disable) (2 ^ 8) 0 ≡ cond a (cond (is_set d 8) (2 ^ 8) 0) (cond r.disable (2 ^ 8) 0)
    by true = refl
    by false = refl

-- ---- 138 and 13C

shown_bit : (x i : ℕ) → i < 32 → is_set (shown x) i ≡ (is_set x i && is_decode_bit i)
unfolding shown
shown_bit x i l = from_bits_has 32 (λ i. is_set x i && is_decode_bit i) i l

pub read_decode : ReadDecode
unfolding local_read local_write cleared clears reached
read_decode r s d i l =
    shown_bit (cleared (is_empty r.errors) r.decode s d) i l
    ∙ rw (from_bits_has 32 (λ i. is_set r.decode i && not (clears (is_empty r.errors) s i && is_set d i)) i l, shown_bit r.decode i l)
    (by (is_set r.decode i) (strobed s i) (is_decode_bit i) (is_empty r.errors || not (is_error_bit i)) (is_set d i))
  where
    by : (a b c f e : Bool) → ((a && not (((b && c) && f) && e)) && c) ≡ ((a && c) && not (b && e && f))
    by false b c f e = refl
    by true true true true true = refl
    by true true true true false = refl
    by true true true false true = refl
    by true true true false false = refl
    by true true false f e = refl
    by true false true f e = refl
    by true false false f e = refl

pub read_mask : ReadMask
unfolding local_read local_write masked reached
read_mask r s d i l =
    shown_bit (masked r.mask s d) i l
    ∙ rw (from_bits_has 32 (λ i. cond (reached s i) (is_set d i) (is_set r.mask i)) i l, shown_bit r.mask i l)
    (by (is_set r.mask i) (strobed s i) (is_decode_bit i) (is_set d i))
  where
    by : (a b c e : Bool) → (cond (b && c) e a && c) ≡ (cond b e (a && c) && c)
    by a true true e = refl
    by true true false true = refl
    by true true false false = refl
    by false true false true = refl
    by false true false false = refl
    by true false true e = refl
    by true false false e = refl
    by false false true e = refl
    by false false false e = refl

-- ---- all that there is

small_same : (x y : ℕ) → x < 2 ^ 8 → y < 2 ^ 8 → x % 2 ^ 8 ≡ y % 2 ^ 8 → x ≡ y
small_same x y h k e = sym (mod-eq_of_lt h) ∙ (e ∙ mod-eq_of_lt k)

flag_same : (n : ℕ) (a b : Bool) → cond a (suc n) 0 ≡ cond b (suc n) 0 → a ≡ b
flag_same n true true e = refl
flag_same n true false e = absurd (omega arith)
flag_same n false true e = absurd (omega arith)
flag_same n false false e = refl

self_fits : (a : ℕ) → a < 2 ^ a
self_fits zero = zero-lt-suc 0
self_fits (suc a) = omega (arith, self_fits a, pow-suc 2 a)

word_same : (a b : ℕ) → OnlyDecodeBits a → OnlyDecodeBits b → shown a ≡ shown b → a ≡ b
word_same a b ha hb e =
    same_bits (a + b) a b (lt_of_lt_of_le (self_fits a) (pow_mono (omega arith))) (lt_of_lt_of_le (self_fits b) (pow_mono (omega arith)))
    (λ i l. by i (is_decode_bit i) refl)
  where
    by : (i : ℕ) (y : Bool) → is_decode_bit i ≡ y → is_set a i ≡ is_set b i
    by i true f =
        let l : i < 32 = decode_below i f in
        let ea : is_set (shown a) i ≡ is_set a i = shown_bit a i l ∙ rw f (and_true (is_set a i)) in
        let eb : is_set (shown b) i ≡ is_set b i = shown_bit b i l ∙ rw f (and_true (is_set b i)) in
        sym ea ∙ (ap (λ (w : ℕ). is_set w i) e ∙ eb)
    by i false f = ha i f ∙ sym (hb i f)

record_same : (r q : Registers) → r.primary ≡ q.primary → r.secondary ≡ q.secondary → r.subordinate ≡ q.subordinate
    → r.disable ≡ q.disable → r.decode ≡ q.decode → r.mask ≡ q.mask → r.link ≡ q.link → r.errors ≡ q.errors
    → r.overflow ≡ q.overflow → r ≡ q
record_same r q a b c d e f g k o i =
    record {
      primary = a i;
      secondary = b i;
      subordinate = c i;
      disable = d i;
      decode = e i;
      mask = f i;
      link = g i;
      errors = k i;
      overflow = o i;
    }

-- the flag, where the queue is as empty
overflow_same : (x a b : Bool) → cond x 0 (2 ^ 16) + cond a (2 ^ 17) 0 ≡ cond x 0 (2 ^ 16) + cond b (2 ^ 17) 0 → a ≡ b
overflow_same x true true e = refl
overflow_same true true false e = absurd (omega (arith, e))
overflow_same false true false e = absurd (omega (arith, e))
overflow_same true false true e = absurd (omega (arith, e))
overflow_same false false true e = absurd (omega (arith, e))
overflow_same x false false e = refl

pub shown_is_all : ShownIsAll
unfolding local_read status
shown_is_all r q hr hq e k =
    record_same r q
    (small_same r.primary q.primary hr.primary hq.primary
    (sym (byte_0 r.primary r.secondary r.subordinate) ∙ (ap (λ (w : ℕ). byte w 0) e.buses ∙ byte_0 q.primary q.secondary q.subordinate)))
    (small_same r.secondary q.secondary hr.secondary hq.secondary
    (sym (byte_1 r.primary r.secondary r.subordinate) ∙ (ap (λ (w : ℕ). byte w 1) e.buses ∙ byte_1 q.primary q.secondary q.subordinate)))
    (small_same r.subordinate q.subordinate hr.subordinate hq.subordinate
    (sym (byte_2 r.primary r.secondary r.subordinate) ∙ (ap (λ (w : ℕ). byte w 2) e.buses ∙ byte_2 q.primary q.secondary q.subordinate)))
    (flag_same 255 r.disable q.disable e.disable)
    (word_same r.decode q.decode hr.decode hq.decode e.decode)
    (word_same r.mask q.mask hr.mask hq.mask e.mask)
    (flag_same 2047 r.link q.link e.link)
    k
    (overflow_same (is_empty r.errors) r.overflow q.overflow
    (e.status ∙ ap (λ (l : List ℕ). cond (is_empty l) 0 (2 ^ 16) + cond q.overflow (2 ^ 17) 0) (sym k)))

-- ---- the line

pub line_high : LineHigh
unfolding line local_read is_set bit is_decode_bit
line_high r h = by r.disable refl h
  where
    sharing : r.disable ≡ false → Found (λ i. is_set r.decode i && is_set r.mask i) decode_bits → Share r
    sharing e f =
        let t = f.at in
        let m : is_decode_bit t ≡ true = f.member in
        let l : t < 32 = decode_below t m in
        record {
          enabled = rw e;
          at = t;
          decode = shown_bit r.decode t l ∙ rw (and_left (is_set r.decode t) (is_set r.mask t) f.holds, m);
          mask = shown_bit r.mask t l ∙ rw (and_right (is_set r.decode t) (is_set r.mask t) f.holds, m);
        }

    by : (a : Bool) → r.disable ≡ a → (not a && some (λ i. is_set r.decode i && is_set r.mask i) decode_bits) ≡ true → Share r
    by true e q = absurd (apart q)
    by false e q = sharing e (some_found (λ i. is_set r.decode i && is_set r.mask i) decode_bits q)

-- a bit that is shown is one of decode's, and set
shown_set : (x i : ℕ) → is_set (shown x) i ≡ true → (is_set x i && is_decode_bit i) ≡ true
shown_set x i e = elim (dec_lt i 32) [ yes l ↦ sym (shown_bit x i l) ∙ e | no g ↦ high (omega arith) ]
  where
    high : 32 ≤ i → (is_set x i && is_decode_bit i) ≡ true
    high g =
        absurd
        (apart
        (sym (none_above 32 (shown x) i (unfold shown in from_bits_fits 32 (λ i. is_set x i && is_decode_bit i)) g) ∙ e))

pub line_only : LineOnly
unfolding line local_read is_decode_bit
line_only r h = by r.disable h.enabled
  where
    t : ℕ
    t = h.at

    d : (is_set r.decode t && is_decode_bit t) ≡ true
    d = shown_set r.decode t h.decode

    m : (is_set r.mask t && is_decode_bit t) ≡ true
    m = shown_set r.mask t h.mask

    both : (is_set r.decode t && is_set r.mask t) ≡ true
    both = rw (and_left (is_set r.decode t) (is_decode_bit t) d) (and_left (is_set r.mask t) (is_decode_bit t) m)

    by : (a : Bool) → is_set (cond a (2 ^ 8) 0) 8 ≡ false → (not a && some (λ i. is_set r.decode i && is_set r.mask i) decode_bits) ≡ true
    by true e = absurd (apart (sym e ∙ (unfold is_set bit in refl)))
    by false e =
        some_at (λ i. is_set r.decode i && is_set r.mask i) decode_bits t (and_right (is_set r.decode t) (is_decode_bit t) d) both
