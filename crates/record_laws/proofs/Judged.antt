-- What bytes have whose record is judged and right.
use mathlib.Core.Path.{◌≡◌, refl, sym, subst, ◌∙◌}
use mathlib.Core.Bool.{Bool, true, false, cond, not}
use mathlib.Core.List.{List}
use Prim.Native.Nat.{ℕ, ◌%◌, ◌^◌, ◌≤◌, ◌<◌}
use native.Mathlib.Omega.{arith}
use lib.Dec.{ltb, leb, eqb}
use lib.ListN.{length, get_or}
use borrow.Author.Tests.{ltb-false, leb-false, eqb-true, eqb-false, not-false}
use Rattle.common.proofs.Tests.{and_left, and_right}
use Rattle.tlp.specs.Bytes.{byte}
use Rattle.tlp.proofs.Codec.{no_path}
use Rattle.records.specs.declared.Fault.TheVariants.{Kind, Length, Padding, Count}
use Rattle.records.specs.Layout.{kinds, head_size, spare_bits, length_fits}
use Rattle.records.specs.Events.{Captured, event_of}
use Rattle.records.specs.Reading.{Next, more, bad, end, event, kind_in, body_in, size_in, layout_in, fields_in, values_in, plain_in, is_padded, end_of, whole, next}

abbrev Right : Next → Type 0
Right more = ⊥
Right (bad f) = ⊥
Right end = Unit
Right (event e size) = Unit

-- a test whose yes is not right was not met, and one whose no is not right was met
past : (b : Bool) (x y : Next) → (Right x → ⊥) → Right (cond b x y) → (b ≡ false) × Right y × (cond b x y ≡ y)
past true x y d r = absurd (d r)
past false x y d r = (refl, r, refl)

met : (b : Bool) (x y : Next) → (Right y → ⊥) → Right (cond b x y) → (b ≡ true) × (cond b x y ≡ x)
met true x y d r = (refl, refl)
met false x y d r = absurd (d r)

-- a record that is all there, of a kind, with a length that the kind has, and padded with zeros
pub record Whole (s : List ℕ) : Type 0 where
  pub kind : kind_in s < 8
  pub body : length_fits (layout_in s) (body_in s) ≡ true
  pub there : size_in s ≤ length s
  pub zeros : byte s 0 % 16 ≡ 0
  pub padding : fields_in s % 2 ^ spare_bits (layout_in s) ≡ 0

-- what such a record is read as
abbrev pub read_as : ℕ → List ℕ → Next
read_as n s = cond (eqb (kind_in s) 0) (end_of n s) (event (event_of (kind_in s) (values_in s) (plain_in s)) (size_in s))

right_whole : (n : ℕ) (s : List ℕ) → Right (next n s) → Whole s × (next n s ≡ read_as n s)
unfolding next whole
right_whole n s r =
    let padded = cond (is_padded s) (read_as n s) (bad Padding) in
    let there = cond (ltb (length s) (size_in s)) more padded in
    let long = cond (not (length_fits (layout_in s) (body_in s))) (bad Length) there in
    let head = cond (ltb (length s) head_size) more long in
    let a = past (ltb (length s) 1) more (cond (leb kinds (kind_in s)) (bad Kind) head) (λ x. x) r in
    let b = past (leb kinds (kind_in s)) (bad Kind) head (λ x. x) a.1 in
    let c = past (ltb (length s) head_size) more long (λ x. x) b.1 in
    let d = past (not (length_fits (layout_in s) (body_in s))) (bad Length) there (λ x. x) c.1 in
    let e = past (ltb (length s) (size_in s)) more padded (λ x. x) d.1 in
    let f = met (is_padded s) (read_as n s) (bad Padding) (λ x. x) e.1 in
    let zeros = eqb (byte s 0 % 16) 0 in
    let padding = eqb (fields_in s % 2 ^ spare_bits (layout_in s)) 0 in (
      record {
        kind = leb-false kinds (kind_in s) b.0;
        body = not-false (length_fits (layout_in s) (body_in s)) d.0;
        there = ltb-false (length s) (size_in s) e.0;
        zeros = eqb-true _ _ (and_left zeros padding f.0);
        padding = eqb-true _ _ (and_right zeros padding f.0);
      },
      a.2 ∙ b.2 ∙ c.2 ∙ d.2 ∙ e.2 ∙ f.1,
    )

-- ---- bytes that read as an event

pub record EventIn (s : List ℕ) (e : Captured) (size : ℕ) : Type 0 where
  pub whole : Whole s
  pub some : 0 < kind_in s
  pub is : event_of (kind_in s) (values_in s) (plain_in s) ≡ e
  pub long : size_in s ≡ size

end_no_event : (b : Bool) (e : Captured) (size : ℕ) → cond b end (bad Count) ≡ event e size → ⊥
end_no_event true e size c = no_path (cc)
end_no_event false e size c = no_path (cc)

pub event_in : (n : ℕ) (s : List ℕ) (e : Captured) (size : ℕ) → next n s ≡ event e size → EventIn s e size
event_in n s e size h =
    let w = right_whole n s (subst Right (sym h) tt) in
    go w.0 (eqb (kind_in s) 0) refl (sym w.1 ∙ h)
  where
    go : Whole s → (b : Bool) → eqb (kind_in s) 0 ≡ b
        → cond b (end_of n s) (event (event_of (kind_in s) (values_in s) (plain_in s)) (size_in s)) ≡ event e size
        → EventIn s e size
    go w true q c = absurd (end_no_event (eqb (get_or (values_in s) 0 0) n) e size c)
    go w false q c = record { whole = w; some = omega (arith, eqb-false (kind_in s) 0 q); is = cc; long = cc }

-- ---- bytes that read as an end

pub record EndIn (n : ℕ) (s : List ℕ) : Type 0 where
  pub none : kind_in s ≡ 0
  pub count : get_or (values_in s) 0 0 ≡ n

pub end_in : (n : ℕ) (s : List ℕ) → next n s ≡ end → EndIn n s
end_in n s h =
    let w = right_whole n s (subst Right (sym h) tt) in
    go (eqb (kind_in s) 0) (eqb (get_or (values_in s) 0 0) n) refl refl (sym w.1 ∙ h)
  where
    go : (b d : Bool) → eqb (kind_in s) 0 ≡ b → eqb (get_or (values_in s) 0 0) n ≡ d
        → cond b (cond d end (bad Count)) (event (event_of (kind_in s) (values_in s) (plain_in s)) (size_in s)) ≡ end
        → EndIn n s
    go true true p q c = record { none = eqb-true _ _ p; count = eqb-true _ _ q }
    go true false p q c = no_path (cc)
    go false true p q c = no_path (cc)
    go false false p q c = no_path (cc)
