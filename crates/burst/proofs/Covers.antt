-- What an accepted burst covers, and the same within its page.
use mathlib.Core.Path.{◌≡◌, refl, sym, ap, ◌∙◌}
use mathlib.Core.Bool.{Bool, true, false, cond}
use Prim.Native.Nat.{ℕ, ◌+◌, ◌-◌, ◌*◌, ◌/◌, ◌%◌, ◌^◌, ◌≤◌, ◌<◌}
use native.Mathlib.Omega.{arith}
use native.Mathlib.Nat.{div-add-mod', mul-add-div_right, mul-le-mul, mod-lt, le_refl}
use lib.Pow.{pow-add, pow_pos}
use lib.Dec.{leb, eqb}
use borrow.Author.Tests.{eqb-true, leb-true}
use Rattle.address.specs.Settings.{between}
use Rattle.address.proofs.Steps.{and_left, and_right}
use Rattle.burst.specs.declared.Burst.{Burst}
use Rattle.burst.specs.Bursts.{end_from, end_of, page_end, burst_right, burst_number}

-- rounding down to p, from the last multiple of m * p on
round_in : (p m x : ℕ) → 0 < p → x / p * p ≡ x / (m * p) * (m * p) + x % (m * p) / p * p
round_in p m x h =
    let q = x / (m * p) in
    let r = x % (m * p) in
    let e : x ≡ q * m * p + r = omega (arith, div-add-mod' x (m * p)) in
    let f : x / p ≡ q * m + r / p = ap (λ (y : ℕ). y / p) e ∙ mul-add-div_right h (q * m) r in
    ap (λ (y : ℕ). y * p) f ∙ omega arith

-- an end, from the start of its page on
pub end_in_page : (x z n : ℕ) → z ≤ 12 → end_from x z n ≡ x / 4096 * 4096 + end_from (x % 4096) z n
unfolding end_from
end_in_page x z n h =
    let e : 12 - z + z ≡ 12 = omega arith in
    let f : 2 ^ (12 - z) * 2 ^ z ≡ 4096 = sym (pow-add 2 (12 - z) z) ∙ ap (◌^◌ 2) e in
    let g : x / 2 ^ z * 2 ^ z ≡ x / 4096 * 4096 + x % 4096 / 2 ^ z * 2 ^ z = rw f at (round_in (2 ^ z) (2 ^ (12 - z)) x (pow_pos z)) in
    omega arith

-- a burst ends behind its start, if it has a beat
pub end_after : (x z n : ℕ) → 1 ≤ n → x < end_from x z n
unfolding end_from
end_after x z n h =
    omega (arith, div-add-mod' x (2 ^ z), mod-lt x (pow_pos z), mul-le-mul h (le_refl (2 ^ z)))

-- the rules that an accepted burst keeps
pub record Accepted (b : Burst) : Type 0 where
  pub incr : b.kind ≡ 1
  pub sized : b.size ≤ 5
  pub some : 1 ≤ b.beats
  pub most : b.beats ≤ 256
  pub page : end_of b ≤ page_end b.start.0
  pub after : b.start.0 < end_of b

pub burst_accepted : (b : Burst) → burst_right b ≡ true → Accepted b
unfolding burst_right
burst_accepted b e =
    let e₁ = and_right (eqb b.kind 1) _ e in
    let e₂ = and_right (leb b.size 5) _ e₁ in
    let e₃ = and_right (between 1 256 b.beats) _ e₂ in
    let n = and_left (between 1 256 b.beats) _ e₂ in
    let s : 1 ≤ b.beats = leb-true 1 b.beats (and_left (leb 1 b.beats) _ n) in
    record {
      incr = eqb-true b.kind 1 (and_left (eqb b.kind 1) _ e);
      sized = leb-true b.size 5 (and_left (leb b.size 5) _ e₁);
      some = s;
      most = leb-true b.beats 256 (and_right (leb 1 b.beats) _ n);
      page = leb-true (end_of b) (page_end b.start.0) (and_left _ _ e₃);
      after = end_after b.start.0 b.size b.beats s;
    }

right_so : (t : Bool) → ◌≡◌ {A = ℕ} (cond t 0 3) 0 → t ≡ true
right_so true e = refl
right_so false e = absurd (omega arith)

pub number_right : (b : Burst) → burst_number b ≡ 0 → burst_right b ≡ true
unfolding burst_number
number_right b e = right_so (burst_right b) e
