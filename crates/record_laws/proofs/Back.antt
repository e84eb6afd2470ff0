-- The bytes of a right record are those of its kind, its values and its plain bytes.
use mathlib.Core.Path.{◌≡◌, sym, ap, subst, ◌∙◌}
use mathlib.Core.Bool.{true}
use mathlib.Core.List.{List, ◌∷◌, ◌++◌}
use Prim.Native.Nat.{ℕ, ◌+◌, ◌-◌, ◌*◌, ◌/◌, ◌^◌, ◌≤◌, ◌<◌}
use native.Mathlib.Nat.{mod-eq_of_lt, add-zero}
use native.Mathlib.Omega.{arith}
use lib.ListN.{length, take, take-append-drop}
use lib.Seq.{take-add, take-take, length-slice}
use lib.Pow.{split, shr_lt}
use Rattle.tlp.specs.Bytes.{bytes, byte, number}
use Rattle.tlp.specs.Laws.{Bytes}
use Rattle.tlp.proofs.Codec.{cell}
use Rattle.tlp.proofs.Digits.{number_lt, bytes_number}
use Rattle.records.specs.Layout.{bits_of, packed, field_bytes, spare_bits, record_bytes}
use Rattle.records.specs.Writing.{fits_kind}
use Rattle.records.specs.Reading.{kind_in, body_in, size_in, layout_in, fields_in, values_in, plain_in}
use Rattle.record_laws.proofs.Packing.{packed_unpacked, fit_unpacked}
use Rattle.record_laws.proofs.Numbers.{cells_part}
use Rattle.record_laws.proofs.Table.{padded_unit, body_holds}
use Rattle.record_laws.proofs.Records.{fields_number, body_size}
use Rattle.record_laws.proofs.Judged.{Whole}

module _ (s : List ℕ) (w : Whole s) where
  body_back : body_size (kind_in s) (plain_in s) ≡ body_in s
  body_back =
      let n = field_bytes (layout_in s) in
      let h : n ≤ body_in s = body_holds (kind_in s) (body_in s) w.body in
      let e : length (plain_in s) ≡ 3 + body_in s - (3 + n) = length-slice (3 + n) (size_in s) s w.there in
      omega arith

  pub fits_back : fits_kind (kind_in s) (values_in s) (plain_in s) ≡ true
  fits_back = rw (fit_unpacked, body_back) w.body

module _ (s : List ℕ) (b : Bytes s) (w : Whole s) where
  fields_back : fields_number (kind_in s) (values_in s) ≡ fields_in s
  fields_back =
      let l = layout_in s in
      let x = fields_in s in
      let k = spare_bits l in
      let h : x < 2 ^ (bits_of l.fields + k) = subst (λ (y : ℕ). x < y) (padded_unit l) (number_lt s 3 (field_bytes l) b) in
      let e : packed l.fields (values_in s) ≡ x / 2 ^ k =
      packed_unpacked l.fields (x / 2 ^ k) ∙ mod-eq_of_lt (shr_lt (bits_of l.fields) k h) in
      ap (λ (y : ℕ). y * 2 ^ k) e
      ∙ (sym (add-zero (x / 2 ^ k * 2 ^ k)) ∙ (ap (λ (y : ℕ). x / 2 ^ k * 2 ^ k + y) (sym w.padding) ∙ split x k))

  -- the head and the fields
  front_back : (n : ℕ) → 3 + n ≤ size_in s
      → (kind_in s * 16) ∷ bytes 2 (body_in s) ++ bytes n (number s 3 n) ≡ take (3 + n) (take (size_in s) s)
  front_back n h =
      let first : kind_in s * 16 ≡ byte s 0 = omega (arith, w.zeros) in
      let there = w.there in
      let head = cell first (bytes_number s 1 2 b) ∙ cells_part s 0 3 (omega arith) in
      let fields = bytes_number s 3 n b ∙ cells_part s 3 n (omega arith) in
      ap (λ (t : List ℕ). t ++ bytes n (number s 3 n)) head
      ∙ (ap (λ (t : List ℕ). take 3 s ++ t) fields ∙ (sym (take-add 3 n s) ∙ sym (take-take (3 + n) (size_in s) s h)))

  pub bytes_back : record_bytes (kind_in s) (values_in s) (plain_in s) ≡ take (size_in s) s
  unfolding record_bytes
  bytes_back =
      let n = field_bytes (layout_in s) in
      let h : n ≤ body_in s = body_holds (kind_in s) (body_in s) w.body in
      ap (λ (x : ℕ). (kind_in s * 16) ∷ bytes 2 x ++ bytes n (fields_number (kind_in s) (values_in s)) ++ plain_in s) (body_back s w)
      ∙ (ap (λ (x : ℕ). (kind_in s * 16) ∷ bytes 2 (body_in s) ++ bytes n x ++ plain_in s) fields_back
      ∙ (ap (λ (t : List ℕ). t ++ plain_in s) (front_back n (omega arith))
      ∙ take-append-drop (3 + n) (take (size_in s) s)))
