-- C7: a writer refuses with 12 exactly what no bytes are read as.
use mathlib.Core.Path.{◌≡◌, refl, sym, ap, subst, ◌∙◌}
use mathlib.Core.Bool.{Bool, true, false, cond}
use mathlib.Core.List.{List, [], ◌∷◌, ◌++◌, append-nil}
use Prim.Native.Nat.{ℕ, ◌*◌, ◌/◌, ◌^◌, ◌<◌}
use native.Mathlib.Nat.{mod-lt}
use native.Mathlib.Omega.{arith}
use lib.Dec.{ltb, lit<}
use lib.ListN.{length, get_or}
use Rattle.refusals.specs.Table.{too_short, malformed}
use Rattle.tlp.specs.Bytes.{bytes}
use Rattle.tlp.specs.Laws.{Bytes}
use Rattle.tlp.proofs.Codec.{no_path}
use Rattle.records.specs.Layout.{layout_of, field_bytes, spare_bits, unpacked, record_bytes}
use Rattle.records.specs.Events.{Captured, kind_of, values_of, plain_of}
use Rattle.records.specs.Writing as writing
use Rattle.records.specs.Writing.{Item, record_of, end_record, can_hold, item_bytes, write_refusal}
use Rattle.records.specs.Reading.{end, next, kind_in, layout_in, fields_in}
use Rattle.record_laws.specs.Codec.{ReadsAs, Lent, TwelveExactly}
use Rattle.record_laws.proofs.Numbers.{bytes_cons, bytes_append, bytes_of}
use Rattle.record_laws.proofs.Records.{fields_number, body_size, values_fit}
use Rattle.record_laws.proofs.Packing.{first_fits}
use Rattle.record_laws.proofs.Judged.{end_in}
use Rattle.record_laws.proofs.Written.{kind_some, reads_back, end_fits, ends_read_back}
use Rattle.record_laws.proofs.Reread.{writes_back}

-- ---- a record is a list of bytes

record_bytes_lem : (kind : ℕ) (values plain : List ℕ) → kind < 8 → Bytes plain → Bytes (record_bytes kind values plain)
unfolding record_bytes
record_bytes_lem kind values plain h b =
    let n = field_bytes (layout_of kind) in
    let x = fields_number kind values in
    let l = bytes 2 (body_size kind plain) in
    let head = bytes_cons (kind * 16) l (omega arith) (bytes_of 2 (body_size kind plain)) in
    bytes_append (kind * 16 ∷ l ++ bytes n x) plain (bytes_append (kind * 16 ∷ l) (bytes n x) head (bytes_of n x)) b

event_bytes : (e : Captured) → Bytes (plain_of e) → Bytes (record_of e)
unfolding record_of
event_bytes e b = record_bytes_lem (kind_of e) (values_of e) (plain_of e) (kind_some e).1 b

end_bytes : (n : ℕ) → Bytes (end_record n)
unfolding end_record
end_bytes n = record_bytes_lem 0 (n ∷ []) [] (lit< tt) (λ i. lit< tt)

-- ---- 12 says that an item cannot be held

refused_cannot : (i : Item) (room : ℕ) → write_refusal i room ≡ 12 → can_hold i ≡ false
refused_cannot i room e = go (can_hold i) (ltb room (length (item_bytes i))) refl e
  where
    go : (h l : Bool) → can_hold i ≡ h → cond h (cond l too_short 0) malformed ≡ 12 → can_hold i ≡ false
    go true true p q = absurd (omega arith)
    go true false p q = absurd (omega arith)
    go false l p q = p

cannot_refused : (i : Item) (room : ℕ) → (can_hold i ≡ true → ⊥) → write_refusal i room ≡ 12
cannot_refused i room d = go (can_hold i) refl
  where
    go : (h : Bool) → can_hold i ≡ h → cond h (cond (ltb room (length (item_bytes i))) too_short 0) malformed ≡ 12
    go true p = absurd (d p)
    go false p = refl

-- ---- what is read can be held, and what can be held has bytes that are read as it

first_small : (kind x : ℕ) → kind ≡ 0 → get_or (unpacked (layout_of kind).fields x) 0 0 < 2 ^ 32
first_small kind x e = rw e (mod-lt (x / 1) (lit< tt))

end_small : (n : ℕ) (s : List ℕ) → next n s ≡ end → n < 2 ^ 32
end_small n s h =
    let i = end_in n s h in
    subst (λ (m : ℕ). m < 2 ^ 32) i.count (first_small (kind_in s) (fields_in s / 2 ^ spare_bits (layout_in s)) i.none)

read_can : (i : Item) (s : List ℕ) → Bytes s → ReadsAs i s → can_hold i ≡ true
read_can (writing.event e) s b r = (writes_back r.0 s e r.1 b r.2).0
read_can (writing.end n) s b r = end_fits n (end_small n s r)
read_can (writing.message m) s b r = absurd r

can_read : (i : Item) → Lent i → can_hold i ≡ true → (s : List ℕ) × (Bytes s × ReadsAs i s)
can_read (writing.event e) l h =
    (record_of e, (event_bytes e l, (0, length (record_of e), ap (next 0) (sym (append-nil (record_of e))) ∙ reads_back e h 0 [])))
can_read (writing.end n) u h =
    let l = first_fits 32 n [] [] (values_fit 0 (n ∷ []) [] h) in
    (end_record n, (end_bytes n, ap (next n) (sym (append-nil (end_record n))) ∙ (ends_read_back n l).right []))
can_read (writing.message m) l h = no_path (cc)

pub twelve_exactly : TwelveExactly
twelve_exactly i room l =
    record {
      refused = λ e s b r. let z : ◌≡◌ {A = Bool} true false = sym (read_can i s b r) ∙ refused_cannot i room e in no_path (cc);
      only = λ d. cannot_refused i room (λ h. let c = can_read i l h in d c.0 c.1.0 c.1.1);
    }
