-- C6: what bytes are read as can be held, and is written as those bytes.
use mathlib.Core.Path.{◌≡◌, sym, subst₂, ◌∙◌}
use mathlib.Core.Bool.{true}
use mathlib.Core.List.{List, [], ◌∷◌}
use Prim.Native.Nat.{ℕ, ◌/◌, ◌^◌, ◌<◌}
use lib.ListN.{take}
use Rattle.tlp.specs.Laws.{Bytes}
use Rattle.records.specs.Layout.{spare_bits, record_bytes}
use Rattle.records.specs.Events.{Captured, event_of}
use Rattle.records.specs.Writing.{fits_kind, holds, record_of}
use Rattle.records.specs.Reading.{layout_in, fields_in, kind_in, size_in, values_in, plain_in}
use Rattle.record_laws.specs.Codec.{WritesBack}
use Rattle.record_laws.proofs.Records.{length_fits_lem}
use Rattle.record_laws.proofs.Judged.{Whole, event_in}
use Rattle.record_laws.proofs.Back.{fits_back, bytes_back}
use Rattle.record_laws.proofs.OffsetAlone.{Rewritten, config_rewritten}
use Rattle.record_laws.proofs.Recaptured.{Recaptured, same, offset_only, recaptured}

module _ (s : List ℕ) (b : Bytes s) (w : Whole s) where
  rewritten : (e : Captured) → Recaptured (kind_in s) (values_in s) (plain_in s) e → Rewritten e (take (size_in s) s)
  unfolding holds record_of
  rewritten e (same beats k v p c) =
      (rw (beats, k, v, p) (fits_back s w), rw (k, v, p) (bytes_back s b w) ∙ sym (c (take (size_in s) s)))
  rewritten e (offset_only offset strobes word q k v p) =
      let f : fits_kind 3 (offset ∷ 0 ∷ strobes ∷ word ∷ []) [] ≡ true = rw (v, p, k) at (fits_back s w) in
      let r : record_bytes 3 (offset ∷ 0 ∷ strobes ∷ word ∷ []) [] ≡ take (size_in s) s = rw (v, p, k) at (bytes_back s b w) in
      rw (q, ← r) (config_rewritten offset strobes word f)

  -- the event that these bytes hold
  whole_rewritten : 0 < kind_in s → Rewritten (event_of (kind_in s) (values_in s) (plain_in s)) (take (size_in s) s)
  whole_rewritten h =
      let x = fields_in s / 2 ^ spare_bits (layout_in s) in
      let f = length_fits_lem (kind_in s) (values_in s) (plain_in s) (fits_back s w) in
      rewritten (event_of (kind_in s) (values_in s) (plain_in s)) (recaptured x (plain_in s) (kind_in s) h w.kind f)

pub writes_back : WritesBack
writes_back n s e size b h =
    let i = event_in n s e size h in
    let r = whole_rewritten s b i.whole i.some in
    subst₂ (λ (c : Captured) (k : ℕ). Rewritten c (take k s)) i.is i.long r
