-- One turn of a sum, and what is reached for one address.
use Rattle.std.proofs.Common.{◌≡◌, ℕ, ◌+◌, ◌%◌, ◌^◌, Bool, true, false, cond, not, eqb, List, get_or, sym, refl, ◌∙◌, add-one}
use mathlib.Core.Bool.{false≢true}
use Rattle.address.specs.declared.Windows.{Windows}
use Rattle.address.specs.Windows.{axi, window_of, found_number, translated}
use Rattle.packets.specs.Packets.{index_of}
use Rattle.window_bench.specs.Sums.{sum_to, reached_at}

pub sum_none : (f : ℕ → ℕ) (xs : List ℕ) → 0 ≡ sum_to f xs 0
unfolding sum_to
sum_none f xs = refl

pub sum_on : (f : ℕ → ℕ) (xs : List ℕ) (k s r : ℕ) → s ≡ sum_to f xs k → r ≡ f (get_or xs k 0) → (s + r) % 2 ^ 64 ≡ sum_to f xs (k + 1)
unfolding sum_to
sum_on f xs k s r e g = rw (e, g, add-one k)

module _ (w : Windows) (a : ℕ) where
  abbrev none : Bool
  none = not (eqb (found_number (window_of w.count w.base w.size (axi a))) 0)

  abbrev place : ℕ
  place = index_of (window_of w.count w.base w.size (axi a))

  when_none : (t : Bool) (x : ℕ) → not t ≡ true → 0 ≡ cond t x 0
  when_none true x e = absurd (false≢true e)
  when_none false x e = refl

  when_held : (t : Bool) (x : ℕ) → not t ≡ false → x ≡ cond t x 0
  when_held true x e = refl
  when_held false x e = absurd (false≢true (sym e))

  pub reach_none : none ≡ true → 0 ≡ reached_at w a
  unfolding reached_at
  reach_none e = when_none (eqb (found_number (window_of w.count w.base w.size (axi a))) 0) _ e

  pub reach_some : none ≡ false → (b t r : ℕ) → b ≡ get_or w.base place 0 → t ≡ get_or w.target place 0 → r ≡ (translated b t (axi a)).0 → r ≡ reached_at w a
  unfolding reached_at
  reach_some e b t r f g h =
      rw (f, g) at h ∙ when_held (eqb (found_number (window_of w.count w.base w.size (axi a))) 0) _ e
