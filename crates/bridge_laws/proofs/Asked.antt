-- A header asks for the bytes wanted, and for no others.
use mathlib.Core.Path.{◌≡◌, refl, sym, ap, ◌∙◌}
use mathlib.Core.Bool.{Bool, true, false, cond}
use Prim.Native.Nat.{ℕ, zero, suc, ◌+◌, ◌-◌, ◌*◌, ◌/◌, ◌%◌, ◌^◌, ◌≤◌, ◌<◌}
use native.Mathlib.Omega.{arith}
use native.Mathlib.Decide.{dec_lt}
use borrow.Author.Tests.{le-leb, lt-leb, lt-ltb, le-ltb, eq-eqb}
use lib.Dec.{eqb}
use Rattle.burst.specs.Words.{word_address, word_count, wanted, first_enables, last_enables}
use Rattle.burst.proofs.Words.{first_enables_mark, last_enables_mark, between_wanted}
use Rattle.machine.specs.Memory.{memory_request}
use Rattle.bridge_laws.specs.MemoryLaws.{asks_from, AsksWanted}

flag : (w : Bool) (m : ℕ) → m ≡ cond w 1 0 → eqb m 1 ≡ w
flag true m e = eq-eqb m 1 e
flag false m e = ap (λ (x : ℕ). eqb x 1) e

all_four : (i : ℕ) → i < 4 → 15 / 2 ^ i % 2 ≡ 1
all_four zero h = refl
all_four (suc zero) h = refl
all_four (suc (suc zero)) h = refl
all_four (suc (suc (suc zero))) h = refl
all_four (suc (suc (suc (suc i)))) h = let z : ⊥ = omega arith in absurd z

word_start : (a : ℕ) → (word_address a ≤ a) × (a < word_address a + 4)
unfolding word_address
word_start a = (omega arith, omega arith)

word_end : (a n : ℕ) → a + n ≤ word_address a + 4 * word_count a n
unfolding word_address word_count
word_end a n = omega arith

module _ (a n x : ℕ) (some : 0 < n) where
  abbrev w : ℕ
  w = word_address a

  abbrev m : ℕ
  m = word_count a n

  abbrev i : ℕ
  i = (x - w) % 4

  abbrev A : Bool
  A = asks_from w m (last_enables a n) (first_enables a n) x

  -- before the words, behind them, in the first, in the last, between
  by : Dec (x < w) → Dec (x < w + 4 * m) → Dec (x < w + 4) → Dec (x < w + 4 * (m - 1)) → A ≡ wanted a n x
  by (yes p) q r s = let e = word_start a in let g : x < a = omega arith in rw (lt-leb _ _ p, lt-leb _ _ g)
  by (no p) (no q) r s =
      let b = word_start a in
      let e = word_end a n in
      let h : w + 4 * m ≤ x = omega (arith, q) in
      let g : a + n ≤ x = omega arith in
      let f : w ≤ x = omega arith in
      let k : a ≤ x = omega arith in
      rw (le-leb _ _ f, le-ltb _ _ h, le-leb _ _ k, le-ltb _ _ g)
  by (no p) (yes q) (yes r) s =
      let f : w ≤ x = omega (arith, p) in
      let e : w + i ≡ x = omega arith in
      let g = first_enables_mark a n i (omega arith) ∙ ap (λ (y : ℕ). cond (wanted a n y) 1 0) e in
      rw (le-leb _ _ f, lt-ltb _ _ q, lt-ltb _ _ r) (flag (wanted a n x) (first_enables a n / 2 ^ i % 2) g)
  by (no p) (yes q) (no r) (no s) =
      let f : w ≤ x = omega (arith, p) in
      let h : w + 4 ≤ x = omega (arith, r) in
      let k : w + 4 * (m - 1) ≤ x = omega (arith, s) in
      let e : w + 4 * (m - 1) + i ≡ x = omega arith in
      let g = last_enables_mark a n i (omega arith) (omega arith) ∙ ap (λ (y : ℕ). cond (wanted a n y) 1 0) e in
      rw (le-leb _ _ f, lt-ltb _ _ q, le-ltb _ _ h, le-leb _ _ k) (flag (wanted a n x) (last_enables a n / 2 ^ i % 2) g)
  by (no p) (yes q) (no r) (yes s) =
      let f : w ≤ x = omega (arith, p) in
      let h : w + 4 ≤ x = omega (arith, r) in
      let j = (x - w) / 4 in
      let e : w + 4 * j + i ≡ x = omega arith in
      let g : wanted a n x ≡ true = ap (wanted a n) (sym e) ∙ between_wanted a n j i (omega arith) (omega arith) (omega arith) in
      rw (le-leb _ _ f, lt-ltb _ _ q, le-ltb _ _ h, lt-leb _ _ s, all_four i (omega arith), g)

pub asks_wanted : AsksWanted
unfolding memory_request
asks_wanted write requester tag a n h x =
    by a n x h (dec_lt x (word_address a)) (dec_lt x (word_address a + 4 * word_count a n)) (dec_lt x (word_address a + 4)) (dec_lt x (word_address a + 4 * (word_count a n - 1)))
