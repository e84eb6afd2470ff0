-- Fields side by side in a number, there and back, for any list of widths.
use mathlib.Core.Path.{◌≡◌, refl, sym, ap, ◌∙◌}
use mathlib.Core.Bool.{true, ◌&&◌}
use mathlib.Core.List.{List, [], ◌∷◌}
use Prim.Native.Nat.{ℕ, ◌+◌, ◌*◌, ◌/◌, ◌%◌, ◌^◌, ◌<◌}
use native.Mathlib.Nat.{mod-one, mod-lt, mod-eq_of_lt, mul_assoc, mul-add-div_right, mul-add-mod_self_right}
use lib.Dec.{ltb, lit<}
use lib.Arith.{digits_lt}
use lib.Pow.{pow_pos, pow-add, high, mod-pow-add}
use borrow.Author.Tests.{lt-ltb, ltb-true}
use Rattle.common.proofs.Tests.{and_left, and_right}
use Rattle.tlp.proofs.Codec.{no_path, cell}
use Rattle.records.specs.Layout.{bits_of, packed, unpacked, fit}

pub packed_unpacked : (ws : List ℕ) (x : ℕ) → packed ws (unpacked ws x) ≡ x % 2 ^ bits_of ws
packed_unpacked [] x = sym (mod-one x)
packed_unpacked (w ∷ ws) x =
    ap (λ (y : ℕ). x / 2 ^ bits_of ws % 2 ^ w * 2 ^ bits_of ws + y) (packed_unpacked ws x) ∙ sym (mod-pow-add x w (bits_of ws))

pub fit_unpacked : (ws : List ℕ) (x : ℕ) → fit ws (unpacked ws x) ≡ true
fit_unpacked [] x = refl
fit_unpacked (w ∷ ws) x = rw (lt-ltb _ _ (mod-lt (x / 2 ^ bits_of ws) (pow_pos w))) (fit_unpacked ws x)

-- what a row of values that fit tells of the first and of the others
module _ (w v : ℕ) (ws vs : List ℕ) (f : ltb v (2 ^ w) && fit ws vs ≡ true) where
  pub first_fits : v < 2 ^ w
  first_fits = ltb-true v (2 ^ w) (and_left (ltb v (2 ^ w)) (fit ws vs) f)

  pub others_fit : fit ws vs ≡ true
  others_fit = and_right (ltb v (2 ^ w)) (fit ws vs) f

pub packed_lt : (ws vs : List ℕ) → fit ws vs ≡ true → packed ws vs < 2 ^ bits_of ws
packed_lt [] [] f = lit< tt
packed_lt [] (v ∷ vs) f = no_path (cc)
packed_lt (w ∷ ws) [] f = no_path (cc)
packed_lt (w ∷ ws) (v ∷ vs) f =
    rw (pow-add 2 w (bits_of ws)) (digits_lt (first_fits w v ws vs f) (packed_lt ws vs (others_fit w v ws vs f)))

-- what stands above the fields is not seen
unpacked_carry : (ws : List ℕ) (q x : ℕ) → unpacked ws (q * 2 ^ bits_of ws + x) ≡ unpacked ws x
unpacked_carry [] q x = refl
unpacked_carry (w ∷ ws) q x =
    let b = bits_of ws in
    let e : q * 2 ^ (w + b) ≡ q * 2 ^ w * 2 ^ b = ap (λ (y : ℕ). q * y) (pow-add 2 w b) ∙ sym (mul_assoc q (2 ^ w) (2 ^ b)) in
    let h = ap (λ (y : ℕ). y % 2 ^ w) (mul-add-div_right (pow_pos b) (q * 2 ^ w) x) ∙ mul-add-mod_self_right q (2 ^ w) (x / 2 ^ b) in
    ap (λ (y : ℕ). unpacked (w ∷ ws) (y + x)) e ∙ cell h (unpacked_carry ws (q * 2 ^ w) x)

pub unpacked_packed : (ws vs : List ℕ) → fit ws vs ≡ true → unpacked ws (packed ws vs) ≡ vs
unpacked_packed [] [] f = refl
unpacked_packed [] (v ∷ vs) f = no_path (cc)
unpacked_packed (w ∷ ws) [] f = no_path (cc)
unpacked_packed (w ∷ ws) (v ∷ vs) f =
    let g = others_fit w v ws vs f in
    cell (ap (λ (y : ℕ). y % 2 ^ w) (high v (bits_of ws) (packed_lt ws vs g)) ∙ mod-eq_of_lt (first_fits w v ws vs f))
    (unpacked_carry ws v (packed ws vs) ∙ unpacked_packed ws vs g)
