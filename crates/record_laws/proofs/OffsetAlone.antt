-- A configuration read, read from its record with any strobes and data, is written with its offset alone.
use mathlib.Core.Path.{◌≡◌, refl, sym, ap, ◌∙◌}
use mathlib.Core.Bool.{true}
use mathlib.Core.List.{List, [], ◌∷◌, ◌++◌, append-nil}
use Prim.Native.Nat.{ℕ, ◌+◌, ◌*◌, ◌/◌, ◌%◌, ◌^◌, ◌<◌}
use native.Mathlib.Omega.{arith}
use lib.ListN.{take}
use borrow.Author.Tests.{lt-ltb}
use Rattle.tlp.specs.Bytes.{bytes, number}
use Rattle.records.specs.Layout.{record_bytes}
use Rattle.records.specs.Events.{Captured, config_read}
use Rattle.records.specs.Writing.{fits_kind, holds, record_of}
use Rattle.record_laws.specs.Codec.{canonical, offset_alone}
use Rattle.record_laws.proofs.Packing.{first_fits, others_fit}
use Rattle.record_laws.proofs.Records.{fields_number, values_fit, fields_there}

-- an event that can be held, and the bytes that it is written as
abbrev pub Rewritten : Captured → List ℕ → Type 0
Rewritten e s = (holds e ≡ true) × (record_of e ≡ canonical e s)

-- the fields' number without strobes and data
abbrev blanked : ℕ → ℕ
blanked x = x / 2 ^ 43 * 2 ^ 43 + x % 2 ^ 7

module _ (offset strobes word : ℕ) where
  -- what was read, and what is written of it
  abbrev vs : List ℕ
  vs = offset ∷ 0 ∷ strobes ∷ word ∷ []

  abbrev zeros : List ℕ
  zeros = offset ∷ 0 ∷ 0 ∷ 0 ∷ []

  config_head : take 3 (record_bytes 3 vs []) ≡ 0x30 ∷ 0x00 ∷ 0x09 ∷ []
  unfolding record_bytes
  config_head = refl

  zeros_record : record_bytes 3 zeros [] ≡ (0x30 ∷ 0x00 ∷ 0x09 ∷ []) ++ bytes 9 (fields_number 3 zeros)
  unfolding record_bytes
  zeros_record = refl

  module _ (f : fits_kind 3 vs [] ≡ true) where
    record Small : Type 0 where
      o : offset < 2 ^ 28
      s : strobes < 2 ^ 4
      w : word < 2 ^ 32

    small : Small
    small =
        let a = values_fit 3 vs [] f in
        let b = others_fit 28 offset (1 ∷ 4 ∷ 32 ∷ []) (0 ∷ strobes ∷ word ∷ []) a in
        let c = others_fit 1 0 (4 ∷ 32 ∷ []) (strobes ∷ word ∷ []) b in
        let d = others_fit 4 strobes (32 ∷ []) (word ∷ []) c in
        record {
          o = first_fits 28 offset (1 ∷ 4 ∷ 32 ∷ []) (0 ∷ strobes ∷ word ∷ []) a;
          s = first_fits 4 strobes (32 ∷ []) (word ∷ []) c;
          w = first_fits 32 word [] [] d;
        }

    config_number_lem : number (record_bytes 3 vs []) 3 9 ≡ fields_number 3 vs
    config_number_lem = ap (λ (s : List ℕ). number s 3 9) (sym (append-nil (record_bytes 3 vs []))) ∙ fields_there 3 vs [] [] f

    offset_number : fields_number 3 zeros ≡ blanked (number (record_bytes 3 vs []) 3 9)
    offset_number =
        let h = small in
        let e : fields_number 3 zeros ≡ blanked (fields_number 3 vs) = omega arith in
        e ∙ ap blanked (sym config_number_lem)

    offset_record : record_bytes 3 zeros [] ≡ offset_alone (record_bytes 3 vs [])
    offset_record =
        zeros_record
        ∙ (ap (λ (x : ℕ). (0x30 ∷ 0x00 ∷ 0x09 ∷ []) ++ bytes 9 x) offset_number
        ∙ ap (λ (h : List ℕ). h ++ bytes 9 (blanked (number (record_bytes 3 vs []) 3 9))) (sym config_head))

    pub config_rewritten : Rewritten (config_read offset) (record_bytes 3 vs [])
    unfolding holds record_of
    config_rewritten = (rw (lt-ltb offset (2 ^ 28) small.o), offset_record)
