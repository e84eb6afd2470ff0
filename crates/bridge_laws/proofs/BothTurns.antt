-- Two bridges under the same turns.
use Prim.Native.Nat.{ℕ, zero, suc, ◌+◌, ◌≤◌, ◌<◌}
use mathlib.Core.Path.{◌≡◌, refl}
use mathlib.Core.Bool.{Bool, true, false, cond}
use native.Mathlib.Omega.{arith}
use Rattle.tags.specs.Tags.{available}
use Rattle.burst.specs.declared.Burst.{Burst}
use Rattle.machine.specs.State.{Bridge, tag_count, opened}
use Rattle.machine.specs.Memory.{piece_of, piece_pending, read_to}
use Rattle.machine.specs.Completions.{Held}
use Rattle.machine.specs.Ticks.{is_old, timed_out, expire, expire_to}
use Rattle.machine.proofs.Reading.{one_less}

-- a tick: each tag is old in both or in neither
module _ (P : ℕ → Held → Held → Type 0) (h g : Held) (start : P 0 h g)
    (agree : (n : ℕ) (x y : Held) → P n x y → is_old x.bridge n ≡ is_old y.bridge n)
    (young : (n : ℕ) (x y : Held) → P n x y → P (suc n) x y)
    (old : (n : ℕ) (x y : Held) → n < tag_count → is_old x.bridge n ≡ true → P n x y → P (suc n) (timed_out n x) (timed_out n y)) where
  old_both : (n : ℕ) (x y : Held) → n < tag_count → (z : Bool) → is_old x.bridge n ≡ z → P n x y → P (suc n) (cond z (timed_out n x) x) (cond z (timed_out n y) y)
  old_both n x y l true e p = old n x y l e p
  old_both n x y l false e p = young n x y p

  both_to : (n : ℕ) → n ≤ tag_count → P n (expire_to h n) (expire_to g n)
  unfolding expire_to expire
  both_to zero l = start
  both_to (suc n) l =
      let p = both_to n (omega arith) in
      rw (← (agree n (expire_to h n) (expire_to g n) p))
      (old_both n (expire_to h n) (expire_to g n) l (is_old (expire_to h n).bridge n) refl p)

  pub each_tag_both : P tag_count (expire_to h tag_count) (expire_to g tag_count)
  each_tag_both = both_to tag_count (omega arith)

-- an accepted read: as many tags are free in both
module _ (slot : ℕ) (q : Burst) (b c : Bridge) (free : b.core.free ≡ c.core.free) (P : Bridge → Bridge → Type 0) (start : P b c)
    (turn : (i : ℕ) (x y : Bridge) → 0 < available tag_count x.core.free → 0 < available tag_count y.core.free → P x y
    → P (opened (piece_pending slot b.settings q (piece_of b.settings.reads q i)) x)
    (opened (piece_pending slot c.settings q (piece_of c.settings.reads q i)) y)) where
  left_to : (a : Bridge) (i : ℕ) → i ≤ available tag_count a.core.free → available tag_count (read_to slot q a i).core.free + i ≡ available tag_count a.core.free
  unfolding read_to opened
  left_to a zero l = omega arith
  left_to a (suc i) l =
      let e = left_to a i (omega arith) in
      omega (arith, one_less (read_to slot q a i).core.free (omega arith))

  pub each_piece_both : (i : ℕ) → i ≤ available tag_count b.core.free → P (read_to slot q b i) (read_to slot q c i)
  unfolding read_to
  each_piece_both zero l = start
  each_piece_both (suc i) l =
      let m : suc i ≤ available tag_count c.core.free = rw free at l in
      turn i (read_to slot q b i) (read_to slot q c i) (omega (arith, left_to b i (omega arith))) (omega (arith, left_to c i (omega arith)))
      (each_piece_both i (omega arith))
