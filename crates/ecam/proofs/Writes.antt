-- What a local write and a raised bit change.
use mathlib.Core.Path.{◌≡◌, refl, sym, ◌∙◌}
use mathlib.Core.Bool.{Bool, true, false, cond, not, ◌&&◌, ◌||◌}
use Prim.Native.Nat.{ℕ, ◌/◌, ◌^◌, ◌<◌, zero-le}
use native.Mathlib.Nat.{zero-lt-suc, mod-mod}
use lib.Dec.{eqb}
use Rattle.messages.specs.Queue.{is_empty, pop}
use borrow.Author.Tests.{eq-eqb, ne_eqb, eqb-true}
use Rattle.bits.specs.Bits.{is_set}
use Rattle.bits.proofs.Flags.{apart, and_left, and_true}
use Rattle.bits.proofs.Bits.{from_bits_has, from_bits_fits, same_bits, none_above}
use Rattle.ecam.specs.Fields.{Registers}
use Rattle.ecam.specs.Registers.{is_decode_bit, is_error_bit, strobe, strobed, reached, clears, cleared, masked, numbered, status_control, error_fifo_overflow, error_fifo_read, local_write, write_buses, write_disable, write_status, with_decode, with_mask, with_errors}
use Rattle.ecam.specs.Laws.{OnlyNamed, WriteOnlyNamed, WriteIgnored, WriteSetsNone, OneWritten, WriteClearsOnes, NoStrobes, StrobesMod16}

-- which word was written, and what became of the registers
pub data Wrote (r : Registers) (w s d : ℕ) : Registers → Type 0 where
  buses : w ≡ 0x018 → Wrote r w s d (write_buses r s d)
  disable : w ≡ 0x134 → Wrote r w s d (write_disable r s d)
  decode : w ≡ 0x138 → Wrote r w s d (with_decode r (cleared (is_empty r.errors) r.decode s d))
  mask : w ≡ 0x13C → Wrote r w s d (with_mask r (masked r.mask s d))
  status : w ≡ status_control → Wrote r w s d (write_status r s d)
  fifo : w ≡ error_fifo_read → Wrote r w s d (with_errors r (pop r.errors))
  none : Wrote r w s d r

pub wrote : (r : Registers) (w s d : ℕ) → Wrote r w s d (local_write r w s d)
unfolding local_write
wrote r w s d = by (eqb w 0x018) (eqb w 0x134) (eqb w 0x138) (eqb w 0x13C) (eqb w status_control) (eqb w error_fifo_read) refl refl refl refl refl refl
  where
    by : (a b c e f g : Bool)
        → eqb w 0x018 ≡ a → eqb w 0x134 ≡ b → eqb w 0x138 ≡ c → eqb w 0x13C ≡ e → eqb w status_control ≡ f → eqb w error_fifo_read ≡ g
        → Wrote r w s d
        (cond a (write_buses r s d)
        (cond b (write_disable r s d)
        (cond c (with_decode r (cleared (is_empty r.errors) r.decode s d))
        (cond e (with_mask r (masked r.mask s d))
        (cond f (write_status r s d)
        (cond g (with_errors r (pop r.errors)) r))))))
    by true b c e f g p q x y z u = buses (eqb-true w 0x018 p)
    by false true c e f g p q x y z u = disable (eqb-true w 0x134 q)
    by false false true e f g p q x y z u = decode (eqb-true w 0x138 x)
    by false false false true f g p q x y z u = mask (eqb-true w 0x13C y)
    by false false false false true g p q x y z u = status (eqb-true w status_control z)
    by false false false false false true p q x y z u = fifo (eqb-true w error_fifo_read u)
    by false false false false false false p q x y z u = none

-- ---- only what is named

number_kept : (x s d j w k : ℕ) → w ≡ k → (eqb w k && strobe s j) ≡ false → numbered x s d j ≡ x
unfolding numbered
number_kept x s d j w k e h = let f : strobe s j ≡ false = rw (eq-eqb w k e) at h in rw f

cleared_kept : (empty : Bool) (x s d i : ℕ) → i < 32 → reached s i ≡ false → is_set (cleared empty x s d) i ≡ is_set x i
unfolding cleared clears
cleared_kept empty x s d i l f = from_bits_has 32 (λ i. is_set x i && not (clears empty s i && is_set d i)) i l ∙ rw f (and_true (is_set x i))

masked_kept : (x s d i : ℕ) → i < 32 → reached s i ≡ false → is_set (masked x s d) i ≡ is_set x i
unfolding masked
masked_kept x s d i l f = from_bits_has 32 (λ i. cond (reached s i) (is_set d i) (is_set x i)) i l ∙ rw f

only_named : (r : Registers) (w s d : ℕ) (q : Registers) → Wrote r w s d q → OnlyNamed r w s q
unfolding write_buses write_disable write_status strobed
only_named r w s d q (buses e) =
    record {
      primary = λ h. number_kept r.primary s d 0 w 0x018 e h;
      secondary = λ h. number_kept r.secondary s d 1 w 0x018 e h;
      subordinate = λ h. number_kept r.subordinate s d 2 w 0x018 e h;
      disable = λ h. refl;
      decode = λ i l h. refl;
      mask = λ i l h. refl;
      link = refl;
      errors = λ h. refl;
      overflow = λ h. refl;
    }
only_named r w s d q (disable e) =
    record {
      primary = λ h. refl;
      secondary = λ h. refl;
      subordinate = λ h. refl;
      disable = λ h. let f : strobe s 1 ≡ false = rw (eq-eqb w 0x134 e) at h in rw f;
      decode = λ i l h. refl;
      mask = λ i l h. refl;
      link = refl;
      errors = λ h. refl;
      overflow = λ h. refl;
    }
only_named r w s d q (decode e) =
    record {
      primary = λ h. refl;
      secondary = λ h. refl;
      subordinate = λ h. refl;
      disable = λ h. refl;
      decode = λ i l h. let f : reached s i ≡ false = rw (eq-eqb w 0x138 e) at h in cleared_kept (is_empty r.errors) r.decode s d i l f;
      mask = λ i l h. refl;
      link = refl;
      errors = λ h. refl;
      overflow = λ h. refl;
    }
only_named r w s d q (mask e) =
    record {
      primary = λ h. refl;
      secondary = λ h. refl;
      subordinate = λ h. refl;
      disable = λ h. refl;
      decode = λ i l h. refl;
      mask = λ i l h. let f : reached s i ≡ false = rw (eq-eqb w 0x13C e) at h in masked_kept r.mask s d i l f;
      link = refl;
      errors = λ h. refl;
      overflow = λ h. refl;
    }
only_named r w s d q (status e) =
    record {
      primary = λ h. refl;
      secondary = λ h. refl;
      subordinate = λ h. refl;
      disable = λ h. refl;
      decode = λ i l h. refl;
      mask = λ i l h. refl;
      link = refl;
      errors = λ h. refl;
      overflow = λ h. let f : strobed s error_fifo_overflow ≡ false = rw (eq-eqb w status_control e) at h in rw f (and_true r.overflow);
    }
only_named r w s d q (fifo e) =
    record {
      primary = λ h. refl;
      secondary = λ h. refl;
      subordinate = λ h. refl;
      disable = λ h. refl;
      decode = λ i l h. refl;
      mask = λ i l h. refl;
      link = refl;
      errors = λ h. absurd (apart (sym h ∙ eq-eqb w error_fifo_read e));
      overflow = λ h. refl;
    }
only_named r w s d q none =
    record {
      primary = λ h. refl;
      secondary = λ h. refl;
      subordinate = λ h. refl;
      disable = λ h. refl;
      decode = λ i l h. refl;
      mask = λ i l h. refl;
      link = refl;
      errors = λ h. refl;
      overflow = λ h. refl;
    }

pub write_only_named : WriteOnlyNamed
write_only_named r w s d = only_named r w s d (local_write r w s d) (wrote r w s d)

pub write_ignored : WriteIgnored
unfolding local_write
write_ignored r w s d a b c e f g =
    rw (ne_eqb w 0x018 a, ne_eqb w 0x134 b, ne_eqb w 0x138 c, ne_eqb w 0x13C e, ne_eqb w status_control f, ne_eqb w error_fifo_read g)

-- ---- decode bits are only cleared

pub cleared_was : (empty : Bool) (x s d i : ℕ) → i < 32 → is_set (cleared empty x s d) i ≡ true → is_set x i ≡ true
unfolding cleared
cleared_was empty x s d i l h =
    and_left (is_set x i) (not (clears empty s i && is_set d i))
    (sym (from_bits_has 32 (λ i. is_set x i && not (clears empty s i && is_set d i)) i l) ∙ h)

sets_none : (r : Registers) (w s d i : ℕ) (q : Registers) → Wrote r w s d q → i < 32 → is_set q.decode i ≡ true → is_set r.decode i ≡ true
unfolding write_buses write_disable write_status
sets_none r w s d i q (buses e) l h = h
sets_none r w s d i q (disable e) l h = h
sets_none r w s d i q (decode e) l h = cleared_was (is_empty r.errors) r.decode s d i l h
sets_none r w s d i q (mask e) l h = h
sets_none r w s d i q (status e) l h = h
sets_none r w s d i q (fifo e) l h = h
sets_none r w s d i q none l h = h

pub write_sets_none : WriteSetsNone
write_sets_none r w s d i l h = sets_none r w s d i (local_write r w s d) (wrote r w s d) l h

cleared_one : (empty : Bool) (x s d i : ℕ) → i < 32 → is_set x i ≡ true → is_set (cleared empty x s d) i ≡ false → OneWritten empty 0x138 s d i
unfolding cleared clears reached
cleared_one empty x s d i l o h =
    by (strobed s i) (is_decode_bit i) (empty || not (is_error_bit i)) (is_set d i) refl refl refl refl
    (sym (from_bits_has 32 (λ i. is_set x i && not (clears empty s i && is_set d i)) i l) ∙ h)
  where
    by : (a b e c : Bool) → strobed s i ≡ a → is_decode_bit i ≡ b → (empty || not (is_error_bit i)) ≡ e → is_set d i ≡ c
        → (is_set x i && not (((a && b) && e) && c)) ≡ false → OneWritten empty 0x138 s d i
    by true true true true p q f t z = record { there = refl; bit = q; chosen = p; one = t; free = f }
    by true true true false p q f t z = absurd (apart (sym (rw o at z)))
    by true true false c p q f t z = absurd (apart (sym (rw o at z)))
    by true false e c p q f t z = absurd (apart (sym (rw o at z)))
    by false b e c p q f t z = absurd (apart (sym (rw o at z)))

clears_ones : (r : Registers) (w s d i : ℕ) (q : Registers) → Wrote r w s d q → i < 32 → is_set r.decode i ≡ true → is_set q.decode i ≡ false → OneWritten (is_empty r.errors) w s d i
unfolding write_buses write_disable write_status
clears_ones r w s d i q (buses e) l o h = absurd (apart (sym h ∙ o))
clears_ones r w s d i q (disable e) l o h = absurd (apart (sym h ∙ o))
clears_ones r w s d i q (decode e) l o h = rw e (cleared_one (is_empty r.errors) r.decode s d i l o h)
clears_ones r w s d i q (mask e) l o h = absurd (apart (sym h ∙ o))
clears_ones r w s d i q (status e) l o h = absurd (apart (sym h ∙ o))
clears_ones r w s d i q (fifo e) l o h = absurd (apart (sym h ∙ o))
clears_ones r w s d i q none l o h = absurd (apart (sym h ∙ o))

pub write_clears_ones : WriteClearsOnes
write_clears_ones r w s d i l o h = clears_ones r w s d i (local_write r w s d) (wrote r w s d) l o h

-- ---- strobes

pub strobes_mod_16 : StrobesMod16
unfolding local_write write_buses write_disable write_status numbered cleared clears masked reached strobed strobe
strobes_mod_16 r w s d = simp (mod-mod s 16)

no_strobe : (j : ℕ) → strobe 0 j ≡ false
unfolding strobe
no_strobe j = none_above 0 0 j (zero-lt-suc 0) zero-le

not_reached : (i : ℕ) → reached 0 i ≡ false
unfolding reached strobed
not_reached i = rw (no_strobe (i / 8))

number_stays : (x d j : ℕ) → numbered x 0 d j ≡ x
unfolding numbered
number_stays x d j = rw (no_strobe j)

cleared_stays : (empty : Bool) (x d : ℕ) → x < 2 ^ 32 → cleared empty x 0 d ≡ x
cleared_stays empty x d h =
    same_bits 32 (cleared empty x 0 d) x (unfold cleared in from_bits_fits 32 (λ i. is_set x i && not (clears empty 0 i && is_set d i))) h
    (λ i l. cleared_kept empty x 0 d i l (not_reached i))

masked_stays : (x d : ℕ) → x < 2 ^ 32 → masked x 0 d ≡ x
masked_stays x d h =
    same_bits 32 (masked x 0 d) x (unfold masked in from_bits_fits 32 (λ i. cond (reached 0 i) (is_set d i) (is_set x i))) h
    (λ i l. masked_kept x 0 d i l (not_reached i))

stays : (r : Registers) (w d : ℕ) (q : Registers) → Wrote r w 0 d q → (w ≡ error_fifo_read → ⊥) → r.decode < 2 ^ 32 → r.mask < 2 ^ 32 → q ≡ r
unfolding write_buses write_disable write_status strobed
stays r w d q (buses e) n hd hm = rw (number_stays r.primary d 0, number_stays r.secondary d 1, number_stays r.subordinate d 2)
stays r w d q (disable e) n hd hm = rw (no_strobe 1)
stays r w d q (decode e) n hd hm = rw (cleared_stays (is_empty r.errors) r.decode d hd)
stays r w d q (mask e) n hd hm = rw (masked_stays r.mask d hm)
stays r w d q (status e) n hd hm = rw (no_strobe 2, and_true r.overflow)
stays r w d q (fifo e) n hd hm = absurd (n e)
stays r w d q none n hd hm = refl

pub no_strobes : NoStrobes
no_strobes r w d n hd hm = stays r w d (local_write r w 0 d) (wrote r w 0 d) n hd hm
