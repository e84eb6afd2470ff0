-- What an effect and a completion leave of the failure that a slot keeps.
use Prim.Native.Nat.{ℕ, ◌+◌, ◌<◌}
use mathlib.Core.Path.{◌≡◌, refl, sym, ◌∙◌}
use mathlib.Core.Option.{Option}
use mathlib.Core.List.{List, []}
use mathlib.Core.Bool.{Bool, true, false, cond, not}
use native.Mathlib.Omega.{arith}
use lib.Dec.{leb, eqb}
use borrow.Author.Tests.{eqb-true, eqb-false, leb-true}
use Rattle.common.proofs.Tests.{and_right}
use Rattle.parts.specs.Cores.{Core}
use Rattle.verdict.specs.declared.Cause.{Cause}
use Rattle.verdict.specs.declared.Cause.TheVariants.{Poison}
use Rattle.verdict.specs.declared.Verdict.{Verdict}
use Rattle.machine.specs.State.{Bridge, Tag, Slot, tag_at, slot_at, missing_of, owner_of, place_of, is_open, slot_size}
use Rattle.machine.specs.Verdict.{cause_response}
use Rattle.machine.specs.Completions.{Held}
use Rattle.bridge_laws.specs.Rows.{faulted_slot, closed_slot}
use Rattle.bridge_laws.specs.Effects.{Acts, same, Serves, good_part, good_last, poison_part, poison_last, fails}
use Rattle.bridge_laws.proofs.EachRow.{each_tag_row, each_slot_row}
use Rattle.trace.specs.FirstFailure.{Failure, first_failed, failing, verdict_fails}
use Rattle.trace.proofs.Soundness.Ticking.{test_open}
use Rattle.trace.proofs.FirstFailure.Tracks.{For, Onward, stays, counts, Left, left_same, left_closed, Tracks, tracks_failed, tracks_on}

abbrev pub Keeps : ℕ → ℕ → ℕ → Option Failure → Bridge → Type 0
Keeps l a k o b = Tracks l a k o (slot_at b k) (tag_at b)

-- ---- an effect

-- every tag goes on, if the one that it concerns does
tags_on : {t j : ℕ} {f : Tag → Tag} {g : Slot → Slot} {c : Core → Core} {b x : Bridge} → Acts t j f g c b x
    → (k : ℕ) → Onward k (tag_at b t) (f (tag_at b t)) → (u : ℕ) → Onward k (tag_at b u) (tag_at x u)
tags_on {b = b} e k on = each_tag_row e (λ u. Onward k (tag_at b u)) on (λ u d. stays k (tag_at b u))

-- it is no failure of the slot
pub kept : {t j : ℕ} {f : Tag → Tag} {g : Slot → Slot} {c : Core → Core} {b x : Bridge} → Acts t j f g c b x
    → {l a k : ℕ} {o : Option Failure} → (j ≡ k → (s : Slot) → Left s (g s)) → Onward k (tag_at b t) (f (tag_at b t))
    → Keeps l a k o b → Keeps l a k o x
kept {j = j} {b = b} e {k = k} left on w =
    tracks_on w
    (each_slot_row e (λ i s. i ≡ k → Left (slot_at b i) s) (λ z. left z (slot_at b j)) (λ i d z. left_same (slot_at b i)) k refl)
    (tags_on e k on)

-- the place of an open tag is in the slot
test_low : (m p : ℕ) → is_open m p ≡ true → p < slot_size
test_low m p e =
    let n = test_open m p e in
    omega (arith, leb-true (p + m) slot_size (and_right (not (eqb m 0)) (leb (p + m) slot_size) e))

-- it is a failure of a piece in slot j, at the place of its tag
module _ {t j : ℕ} {f : Tag → Tag} {c : Core → Core} {b x : Bridge} (d : Slot → Slot) (why : Cause)
    (e : Acts t j f (λ s. d (faulted_slot (place_of b t) (cause_response why) s)) c b x) (ends : (s : Slot) → Left s (d s))
    (m : owner_of b t ≡ j) (i : is_open (missing_of b t) (place_of b t) ≡ true) where
  pub failed_keeps : {l a k : ℕ} {o : Option Failure} → Onward k (tag_at b t) (f (tag_at b t)) → Keeps l a k o b
      → Keeps l a k (first_failed o (cond (eqb j k) (failing l a k (place_of b t) why) [])) x
  failed_keeps {l} {a} {k} {o} on w = go (eqb j k) refl
    where
      go : (z : Bool) → eqb j k ≡ z → Keeps l a k (first_failed o (cond z (failing l a k (place_of b t) why) [])) x
      go true z =
          let n = eqb-true j k z in
          let q : For k (tag_at b t) = record { some_left = test_open (missing_of b t) (place_of b t) i; owner = m ∙ n } in
          let p : Slot → Slot = faulted_slot (place_of b t) (cause_response why) in
          tracks_on (tracks_failed w t why q (test_low (missing_of b t) (place_of b t) i))
          (each_slot_row e (λ i s. i ≡ k → Left (p (slot_at b i)) s) (λ y. ends (p (slot_at b j))) (λ i d y. absurd (d (y ∙ sym n))) k refl)
          (tags_on e k on)
      go false z = kept e (λ y. absurd (eqb-false j k z y)) on w

-- ---- a completion for a memory read

pub nothing : (o : Option Failure) (z : Bool) → first_failed o (cond z [] []) ≡ o
nothing o true = refl
nothing o false = refl

pub served_keeps : {l a k t j skip : ℕ} {o : Option Failure} {payload : List ℕ} {h x : Held} {v : Verdict} → Serves t j skip payload h x v
    → owner_of h.bridge t ≡ j → is_open (missing_of h.bridge t) (place_of h.bridge t) ≡ true → Keeps l a k o h.bridge
    → Keeps l a k (first_failed o (cond (eqb j k) (verdict_fails l a k (place_of h.bridge t) v) [])) x.bridge
served_keeps {k = k} {j = j} {o = o} (good_part n g e s) m i w = rw (nothing o (eqb j k)) (kept e (λ z. left_same) (counts k n _ g) w)
served_keeps {k = k} {j = j} {o = o} (good_last n g e s) m i w = rw (nothing o (eqb j k)) (kept e (λ z. left_closed) (λ x. absurd (x.some_left refl)) w)
served_keeps {k = k} (poison_part n g e s) m i w = failed_keeps same Poison e left_same m i (counts k n _ g) w
served_keeps (poison_last n g e s) m i w = failed_keeps closed_slot Poison e left_closed m i (λ x. absurd (x.some_left refl)) w
served_keeps (fails why e s) m i w = failed_keeps closed_slot why e left_closed m i (λ x. absurd (x.some_left refl)) w
