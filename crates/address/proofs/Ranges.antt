-- What `all` and `any` over a range come to.
use Rattle.std.proofs.Common.{◌≡◌, ℕ, zero, suc, ◌+◌, ◌-◌, ◌*◌, ◌%◌, ◌^◌, ◌<◌, ◌≤◌, Bool, true, false, length, sym, refl, ap, ◌∙◌, arith}
use Rattle.std.specs.Bool.{MatchBool}
use Rattle.std.specs.List.{range_with_len, AllWithin, HoldsAt}
use Rattle.std.proofs.lemmas.List.FromFn.{length-range_with_len, get_or-range_with_len}
use mathlib.Core.Bool.{false≢true}
use Rattle.address.specs.Settings.{each_from, power_among}
use Rattle.address.proofs.Steps.{each_at, power_found, power_in, one_shl}

each_true : (t : ℕ → Bool) (i n : ℕ) → ((k : ℕ) → i ≤ k → k < i + n → t k ≡ true) → each_from t i n ≡ true
unfolding each_from
each_true t i zero f = refl
each_true t i (suc n) f = rw (f i (omega arith) (omega arith)) (each_true t (suc i) n (λ k g h. f k (omega arith) (omega arith)))

module _ (t : ℕ → Bool) (n : ℕ) where
  pub all_ran : (r : Bool) → MatchBool r (AllWithin (λ k. t k ≡ true) (range_with_len 0 n) 0 (length (range_with_len 0 n))) ((k : ℕ) × (k < length (range_with_len 0 n)) × HoldsAt (λ k. t k ≡ false) (range_with_len 0 n) k) → r ≡ each_from t 0 n
  all_ran true f =
      let l = length-range_with_len 0 n in
      sym (each_true t 0 n (λ k g h. let z : 0 + k ≡ k = omega arith in sym (ap t z) ∙ (rw (get_or-range_with_len 0 n k 0 (omega arith)) at (f k 0 g (omega (arith, l))))))
  all_ran false f = by (each_from t 0 n) refl
    where
      by : (b : Bool) → each_from t 0 n ≡ b → false ≡ b
      by false e = refl
      by true e =
          let l = length-range_with_len 0 n in
          let h : f.0 < n = omega (arith, l, f.1) in
          let z : 0 + f.0 ≡ f.0 = omega arith in
          let g : t f.0 ≡ false = sym (ap t z) ∙ (rw (get_or-range_with_len 0 n f.0 0 h) at (f.2 0)) in
          absurd (false≢true (sym g ∙ each_at t 0 n e f.0 (omega arith) (omega arith)))

module _ (low n x : ℕ) (h : low + n ≤ 64) where
  pub any_ran : (r : Bool) → MatchBool r ((k : ℕ) × (k < length (range_with_len low n)) × HoldsAt (λ k. x ≡ 1 * 2 ^ k % 2 ^ 64) (range_with_len low n) k) (AllWithin (λ k. x ≡ 1 * 2 ^ k % 2 ^ 64 → ⊥) (range_with_len low n) 0 (length (range_with_len low n))) → r ≡ power_among low n x
  any_ran true f =
      let l = length-range_with_len low n in
      let g : f.0 < n = omega (arith, l, f.1) in
      let e : x ≡ 1 * 2 ^ (low + f.0) % 2 ^ 64 = rw (get_or-range_with_len low n f.0 0 g) at (f.2 0) in
      sym (power_in low n x (low + f.0) (omega arith) (omega arith) (e ∙ one_shl (low + f.0) 64 (omega arith)))
  any_ran false f = by (power_among low n x) refl
    where
      by : (b : Bool) → power_among low n x ≡ b → false ≡ b
      by false e = refl
      by true e =
          let p = power_found low n x e in
          let l = length-range_with_len low n in
          let k = p.exponent - low in
          let g : k < n = omega (arith, p.least, p.most) in
          let q : low + k ≡ p.exponent = omega (arith, p.least) in
          let d : (x ≡ 1 * 2 ^ (low + k) % 2 ^ 64) → ⊥ = rw (get_or-range_with_len low n k 0 g) at (f k 0 (omega arith) (omega (arith, l))) in
          absurd (d (p.is ∙ ap (λ (j : ℕ). 2 ^ j) (sym q) ∙ sym (one_shl (low + k) 64 (omega (arith, p.most)))))
