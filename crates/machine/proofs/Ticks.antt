-- A tick with nothing open closes nothing, and many are one step of the counter.
use mathlib.Core.Path.{◌≡◌, refl, ap, ◌∙◌}
use Prim.Native.Nat.{ℕ, zero, suc, ◌+◌, ◌<◌}
use native.Mathlib.Omega.{arith}
use native.Mathlib.Decide.{ℕ_discrete}
use Prim.Native.Nat.{◌%◌, ◌^◌, ◌≤◌}
use native.Mathlib.Numerals.{unary_clauses}
use lib.ListN.{length}
use borrow.Author.Tests.{lt-ltb, le-ltb}
use Rattle.machine.specs.State.{tag_count, missing_of, core_in, with_ticks}
use Rattle.machine.specs.Completions.{store_size, Held, held}
use Rattle.machine.specs.Ticks.{next_tick, expire, expire_to, ticked, ticked_to}

pub none_old : (h : Held) (n : ℕ) → ((t : ℕ) → t < n → missing_of h.bridge t ≡ 0) → expire_to h n ≡ h
unfolding expire_to expire
none_old h zero f = refl
none_old h (suc n) f =
    ap (λ (x : Held). expire x n) (none_old h n (λ t l. f t (omega arith))) ∙ rw (f n (omega arith))

-- what holds below n and at n holds below n + 1
pub one_more_lem : (P : ℕ → Type 0) (n : ℕ) → ((u : ℕ) → u < n → P u) → P n → (u : ℕ) → u < n + 1 → P u
one_more_lem P n f p u l = by (ℕ_discrete u n)
  where
    by : Dec (u ≡ n) → P u
    by (yes e) = rw e p
    by (no d) = f u (omega arith)

-- ---- ticks in a row

pub then : (h : Held) (a n : ℕ) → ticked_to h (a + n) ≡ ticked_to (ticked_to h a) n
unfolding ticked_to
then h a zero = simp unary_clauses refl
then h a (suc n) = simp unary_clauses (ap ticked (then h a n))

-- a store that is too short refuses each
pub short_ticks : (h : Held) (n : ℕ) → length h.store < store_size → ticked_to h n ≡ h
unfolding ticked_to ticked
short_ticks h zero l = refl
short_ticks h (suc n) l = ap ticked (short_ticks h n l) ∙ rw (lt-ltb _ _ l)

module _ (h : Held) (long : store_size ≤ length h.store) (none : (t : ℕ) → t < tag_count → missing_of h.bridge t ≡ 0) where
  -- the bridge with another counter, and the store
  abbrev at : ℕ → Held
  at x = held (core_in (with_ticks x h.bridge.core) h.bridge) h.store

  pub quiet_tick : (x : ℕ) → ticked (at x) ≡ at (next_tick x)
  unfolding ticked
  quiet_tick x = rw (le-ltb _ _ long) (none_old (at (next_tick x)) tag_count none)

  pub quiet_ticks : (n : ℕ) → h.bridge.core.ticks < 2 ^ 32 → ticked_to h n ≡ at ((h.bridge.core.ticks + n) % 2 ^ 32)
  unfolding ticked_to
  quiet_ticks zero b =
      let e : h.bridge.core.ticks ≡ (h.bridge.core.ticks + 0) % 2 ^ 32 = omega arith in
      ap at e
  quiet_ticks (suc n) b =
      let x = (h.bridge.core.ticks + n) % 2 ^ 32 in
      let e : next_tick x ≡ (h.bridge.core.ticks + suc n) % 2 ^ 32 = omega arith in
      ap ticked (quiet_ticks n b) ∙ quiet_tick x ∙ ap at e
