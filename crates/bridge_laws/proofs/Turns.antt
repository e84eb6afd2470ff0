-- What takes a turn for each piece, tag or slot, by induction: a fact that each turn keeps holds after the last.
use Prim.Native.Nat.{ℕ, zero, suc, ◌+◌, ◌≤◌, ◌<◌}
use mathlib.Core.Path.{◌≡◌, refl}
use mathlib.Core.Bool.{Bool, true, false, cond}
use native.Mathlib.Omega.{arith}
use Rattle.tags.specs.Tags.{available}
use Rattle.burst.specs.declared.Burst.{Burst}
use Rattle.machine.specs.State.{Bridge, tag_count, slot_count, opened}
use Rattle.machine.specs.Memory.{piece_of, piece_pending, read_to}
use Rattle.machine.specs.Completions.{Held}
use Rattle.machine.specs.Ticks.{is_old, timed_out, expire, expire_to, drop_slot, drop_slots}
use Rattle.machine.proofs.Reading.{one_less}

-- ---- a tick: the tags in turn, each of which is old or not

module _ (P : ℕ → Held → Type 0) (h : Held) (start : P 0 h)
    (young : (n : ℕ) (x : Held) → n < tag_count → is_old x.bridge n ≡ false → P n x → P (suc n) x)
    (old : (n : ℕ) (x : Held) → n < tag_count → is_old x.bridge n ≡ true → P n x → P (suc n) (timed_out n x)) where
  expire_by : (n : ℕ) (x : Held) → n < tag_count → (z : Bool) → is_old x.bridge n ≡ z → P n x → P (suc n) (cond z (timed_out n x) x)
  expire_by n x l true e p = old n x l e p
  expire_by n x l false e p = young n x l e p

  expired_to : (n : ℕ) → n ≤ tag_count → P n (expire_to h n)
  unfolding expire_to expire
  expired_to zero l = start
  expired_to (suc n) l = expire_by n (expire_to h n) l (is_old (expire_to h n).bridge n) refl (expired_to n (omega arith))

  pub each_tag : P tag_count (expire_to h tag_count)
  each_tag = expired_to tag_count (omega arith)

-- ---- the link goes down: the slots in turn

module _ (P : ℕ → Held → Type 0) (h : Held) (start : P 0 h)
    (turn : (n : ℕ) (x : Held) → n < slot_count → P n x → P (suc n) (drop_slot x n)) where
  dropped_to_lem : (n : ℕ) → n ≤ slot_count → P n (drop_slots h n)
  unfolding drop_slots
  dropped_to_lem zero l = start
  dropped_to_lem (suc n) l = turn n (drop_slots h n) l (dropped_to_lem n (omega arith))

  pub each_slot : P slot_count (drop_slots h slot_count)
  each_slot = dropped_to_lem slot_count (omega arith)

-- ---- an accepted read: its pieces in turn, while tags are free

module _ (slot : ℕ) (q : Burst) (b : Bridge) (P : ℕ → Bridge → Type 0) (start : P 0 b)
    (turn : (i : ℕ) (x : Bridge) → 0 < available tag_count x.core.free → x.settings ≡ b.settings → P i x
    → P (suc i) (opened (piece_pending slot b.settings q (piece_of b.settings.reads q i)) x)) where
  record Turns (i : ℕ) (x : Bridge) : Type 0 where
    left : available tag_count x.core.free + i ≡ available tag_count b.core.free
    settings : x.settings ≡ b.settings
    holds : P i x

  turns : (i : ℕ) → i ≤ available tag_count b.core.free → Turns i (read_to slot q b i)
  unfolding read_to opened
  turns zero l = record { left = omega arith; settings = refl; holds = start }
  turns (suc i) l =
      let p = turns i (omega arith) in
      let x = read_to slot q b i in
      let e = p.left in
      let m : 0 < available tag_count x.core.free = omega arith in
      record { left = omega (arith, one_less x.core.free m); settings = p.settings; holds = turn i x m p.settings p.holds }

  pub each_piece : (i : ℕ) → i ≤ available tag_count b.core.free → P i (read_to slot q b i)
  each_piece i l = (turns i l).holds
