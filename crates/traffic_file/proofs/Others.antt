-- What is said of a number that no kind has.
use mathlib.Core.Path.{◌≡◌, refl, sym, ap, ◌∙◌}
use mathlib.Core.Bool.{Bool, true, false, ◌&&◌}
use mathlib.Core.List.{List}
use Prim.Native.Nat.{ℕ, suc, ◌+◌, ◌<◌}
use native.Mathlib.Omega.{arith}
use native.Mathlib.Decide.{dec_lt}
use lib.Dec.{leb}
use borrow.Author.Tests.{ne_eqb, lt-leb}
use Rattle.traffic_file.specs.Records.{fixed_size, variable_size, ticks_of, lends_area, lends_store, is_header, lent_wrong, rest_wrong, is_wrong}
use Rattle.traffic_file.specs.Kinds.{IsNoKind}

and_false : (x : Bool) → x && false ≡ false
and_false true = refl
and_false false = refl

-- past an interval, or before it
outside : (low high n : ℕ) → (low < n + 1 → n < high + 1 → ⊥) → leb low n && leb n high ≡ false
outside low high n f = by (dec_lt n low)
  where
    by : Dec (n < low) → leb low n && leb n high ≡ false
    by (yes p) = rw (lt-leb low n p)
    by (no p) = rw (lt-leb n high (omega (arith, p, f))) (and_false (leb low n))

module _ (n : ℕ) (a1 : n ≡ 1 → ⊥) (a2 : n ≡ 2 → ⊥) (a3 : n ≡ 3 → ⊥) (a4 : n ≡ 4 → ⊥) (a5 : n ≡ 5 → ⊥) (a6 : n ≡ 6 → ⊥) (a7 : n ≡ 7 → ⊥) (a8 : n ≡ 8 → ⊥) (a9 : n ≡ 9 → ⊥) (a10 : n ≡ 10 → ⊥) (a11 : n ≡ 11 → ⊥) (a12 : n ≡ 12 → ⊥) (a13 : n ≡ 13 → ⊥) (a255 : n ≡ 255 → ⊥) where
  no_store : lends_store n ≡ false
  no_store = outside 4 8 n (λ p q. omega (arith, p, q, a4, a5, a6, a7, a8))

  no_header : is_header n ≡ false
  no_header = outside 9 12 n (λ p q. omega (arith, p, q, a9, a10, a11, a12))

  no_area : lends_area n ≡ false
  unfolding lends_area
  no_area = rw (ne_eqb n 1 a1, ne_eqb n 2 a2, ne_eqb n 3 a3, ne_eqb n 9 a9, ne_eqb n 11 a11)

  no_bytes : (f : List ℕ) → variable_size n f ≡ 0
  unfolding variable_size
  no_bytes f = rw (ne_eqb n 2 a2, ne_eqb n 4 a4, ne_eqb n 10 a10, ne_eqb n 12 a12, ne_eqb n 13 a13)

  not_wrong : (f : List ℕ) (most : ℕ) → is_wrong n f most ≡ false
  unfolding is_wrong lent_wrong rest_wrong
  not_wrong f most =
      rw (no_bytes f, no_area, no_store, ne_eqb n 3 a3, ne_eqb n 5 a5, ne_eqb n 6 a6, ne_eqb n 9 a9, ne_eqb n 11 a11)

  no_kind_of : IsNoKind n
  unfolding fixed_size
  no_kind_of =
      record {
        fixed = rw (ne_eqb n 1 a1, ne_eqb n 2 a2, ne_eqb n 3 a3, ne_eqb n 4 a4, ne_eqb n 5 a5, ne_eqb n 6 a6, ne_eqb n 7 a7, ne_eqb n 8 a8, ne_eqb n 9 a9, ne_eqb n 10 a10, ne_eqb n 11 a11, ne_eqb n 12 a12, ne_eqb n 13 a13, ne_eqb n 255 a255);
        variable = no_bytes;
        ticks = λ f. rw (ne_eqb n 5 a5);
        area = no_area;
        header = no_header;
        right = not_wrong;
      }

-- every kind has fixed fields
another : (n k m : ℕ) → fixed_size k ≡ suc m → fixed_size n ≡ 0 → n ≡ k → ⊥
another n k m f z e = let y : suc m ≡ 0 = sym f ∙ (ap fixed_size (sym e) ∙ z) in omega (arith, y)

pub no_kind : (n : ℕ) → fixed_size n ≡ 0 → IsNoKind n
unfolding fixed_size
no_kind n z =
    no_kind_of n
    (another n 1 23 refl z)
    (another n 2 27 refl z)
    (another n 3 20 refl z)
    (another n 4 7 refl z)
    (another n 5 7 refl z)
    (another n 6 4 refl z)
    (another n 7 7 refl z)
    (another n 8 7 refl z)
    (another n 9 53 refl z)
    (another n 10 3 refl z)
    (another n 11 33 refl z)
    (another n 12 3 refl z)
    (another n 13 3 refl z)
    (another n 255 3 refl z)
