-- An accepted completion: it answers its tag's present request, and when the tag is free again nothing more comes for that.
use Prim.Native.Nat.{ℕ, ◌+◌, ◌-◌, ◌%◌, ◌≤◌, ◌<◌}
use mathlib.Core.Path.{◌≡◌, refl, sym, ap, subst, ◌∙◌}
use mathlib.Core.Logic.{◌≢◌, ◌⊎◌, inl, inr}
use mathlib.Core.List.{List, [], ◌∷◌}
use mathlib.Core.Bool.{Bool, true, false, cond, not}
use native.Mathlib.Omega.{arith}
use lib.ListN.{length, drop}
use lib.Dec.{eqb, leb}
use borrow.Author.Tests.{eqb-true, eq-eqb}
use Rattle.bits.specs.Bits.{set_bit}
use Rattle.common.proofs.Tests.{row, and_left}
use Rattle.std.specs.Prelude.{Ok}
use Rattle.tlp.specs.declared.completion.Completion.{Completion}
use Rattle.parts.specs.Cores.{Core}
use Rattle.verdict.specs.declared.Cause.{Cause}
use Rattle.verdict.specs.declared.Verdict.{Verdict}
use Rattle.verdict.specs.declared.Verdict.TheVariants.{Unexpected, Good, Poisoned, Failed}
use Rattle.machine.specs.State.{Slot, tag_at, tag_count, slot_count, slot_size, missing_of, owner_of, next_address, is_open, Open}
use Rattle.machine.specs.Verdict.{cause_of, useful, in_order, memory_verdict}
use Rattle.machine.specs.Completions.{Held, held, completion_of, memory_completed, config_completed, is_unexpected}
use Rattle.bridge_laws.specs.Rows.{counted_tag}
use Rattle.bridge_laws.specs.Effects.{Acts, Serves, good_part, good_last, poison_part, poison_last, fails as piece-fails}
use Rattle.machine.proofs.Judging.{order_tests}
use Rattle.bridge_laws.proofs.Cores.{raised_core_lem}
use Rattle.bridge_laws.proofs.Effects.{memory_serves, config_serves}
use Rattle.trace.specs.Events.{Event, completion}
use Rattle.trace.specs.FarSide.{carries, fails, Wire, Paired, paired}
use Rattle.trace.specs.Sound.{Sound}
use Rattle.trace.proofs.Soundness.Fine.{tag_below}
use Rattle.trace.proofs.Tags.Turn.{no_way, some_none, last_comes, sends_none}
use Rattle.trace.proofs.Tags.Wire.{own_of, Flows, Stream, OpenFine, Wired, present_comes, paired_own, flow_next, wired_later}
use Rattle.trace.proofs.Tags.Tagged.{kept_wired, freed_wired}

-- ---- verdicts

-- data that is received, good or poisoned
pub record Data (c : Completion) (missing next n : ℕ) : Type 0 where
  pub carry : carries c ≡ true
  pub count : c.count ≡ missing
  pub amount : n ≡ useful c missing

module _ (c : Completion) (missing next : ℕ) where
  -- what a verdict tells
  abbrev pub Says : Verdict → Type 0
  Says Unexpected = Unit
  Says (Good n) = Data c missing next n
  Says (Poisoned n) = Data c missing next n
  Says (Failed why) = fails c ≡ true

  in_order_lem : eqb c.status 0 ≡ true → in_order c missing next ≡ true → Data c missing next (useful c missing)
  in_order_lem s o =
      let x = row c.payload (order_tests c missing next) o in
      record { carry = rw (s, x.0); count = eqb-true c.count missing x.1.0; amount = refl }

  says_by : (s o p r : Bool) → eqb c.status 0 ≡ s → in_order c missing next ≡ o → eqb c.status 2 ≡ r
      → Says (cond s (cond o (cond p (Poisoned (useful c missing)) (Good (useful c missing))) Unexpected) (cond r Unexpected (Failed (cause_of c.status))))
  says_by true true true r s o z = in_order_lem s o
  says_by true true false r s o z = in_order_lem s o
  says_by true false p r s o z = tt
  says_by false o p true s i z = tt
  says_by false o p false s i z = rw (s, z)

  pub says : (v : Verdict) → memory_verdict c missing next ≡ v → Says v
  unfolding memory_verdict
  says v e = subst Says e (says_by (eqb c.status 0) (in_order c missing next) c.poisoned (eqb c.status 2) refl refl refl)

  pub verdict_data : (n : ℕ) (v : Verdict) → memory_verdict c missing next ≡ v → (v ≡ Good n) ⊎ (v ≡ Poisoned n) → Data c missing next n
  verdict_data n v e (inl g) = says (Good n) (e ∙ g)
  verdict_data n v e (inr g) = says (Poisoned n) (e ∙ g)

  pub verdict_fails_lem : (why : Cause) (v : Verdict) → memory_verdict c missing next ≡ v → v ≡ Failed why → fails c ≡ true
  verdict_fails_lem why v e g = says (Failed why) (e ∙ g)

-- an open tag has bytes missing
pub open_missing : (missing place : ℕ) → is_open missing place ≡ true → missing ≢ 0
open_missing m p e z = no_way (sym (and_left (not (eqb m 0)) (leb (p + m) slot_size) e) ∙ rw (eq-eqb m 0 z))

-- ---- a completion for an open tag

module _ (sent : ℕ → List (List ℕ)) (h : Held) (w : Wire) (es : List Event) (i : ℕ) (s : List ℕ) (c : Completion) (e : completion_of s ≡ Ok c)
    (g : Sound h) (m : Open h.bridge c.tag) (q : Paired w (completion i s)) (v : Wired sent h w (completion i s ∷ es)) where
  abbrev own : ℕ
  own = own_of w.live c.tag

  abbrev left : ℕ
  left = missing_of h.bridge c.tag

  now : Wired sent h w es
  now = wired_later sent h w (completion i s) es v

  -- its label is the tag's present request
  was : OpenFine sent (tag_at h.bridge c.tag) w (completion own s ∷ es) c.tag
  was = subst (λ j. OpenFine sent (tag_at h.bridge c.tag) w (completion j s ∷ es) c.tag) (present_comes sent h w i s c es v q e) ((v.tags c.tag).opens m)

  low : c.tag < tag_count
  low = tag_below h.bridge c.tag g.sizes m

  module _ (o : owner_of h.bridge c.tag < slot_count) where
    line : Stream sent h.bridge (completion own s ∷ es) own c.tag
    line = was.stream o

    flows : {next n : ℕ} → Data c left next n → Flows sent es own line.whole line.next left c s line.flow
    flows d = flow_next sent es own line.whole line.next left c s line.flow e d.carry d.count

    -- the last byte has come
    last_none : {next n : ℕ} → Data c left next n → left ≤ n → paired own es ≡ []
    last_none d l =
        let f = (flows d).after in
        let z : left - useful c left ≡ 0 = omega (arith, d.amount) in
        let r : f.rest ≡ [] = sends_none (line.next + useful c left) f.rest (rw z at f.sends) in
        some_none (rw r at f.comes)

    -- the request has failed
    failed_none : fails c ≡ true → paired own es ≡ []
    failed_none f = last_comes line.next left c e f line.flow.sends (rw (paired_own own s c es e) at line.flow.comes)

    -- bytes are counted, and the tag stays open
    counts : {x : Held} {k next n : ℕ} {f : Slot → Slot} {d : Core → Core} → Data c left next n → Acts c.tag k (counted_tag n) f d h.bridge x.bridge
        → (d h.bridge.core).free ≡ h.bridge.core.free → Wired sent x w es
    counts t a f =
        kept_wired sent low a f
        (λ y. record {
          here = was.here;
          stream = λ k. rw t.amount (record {
            whole = line.whole;
            next = line.next + useful c left;
            flow = (flows t).after;
            low = omega (arith, line.low);
          });
          word = λ k. absurd (omega (arith, o));
        }) now

    served : {x : Held} {k skip : ℕ} {payload : List ℕ} {z : Verdict} → Serves c.tag k skip payload h x z → Says c left (next_address h.bridge c.tag) z → Wired sent x w es
    served (good_part n l a p) d = counts d a refl
    served (good_last n l a p) d = freed_wired sent low a refl refl (last_none d l) now
    served (poison_part n l a p) d = counts d a (raised_core_lem _ _).free
    served (poison_last n l a p) d = freed_wired sent low a (ap (λ f. set_bit tag_count f c.tag) (raised_core_lem _ _).free) refl (last_none d l) now
    served (piece-fails why a p) f = freed_wired sent low a (ap (λ f. set_bit tag_count f c.tag) (raised_core_lem _ _).free) refl (failed_none f) now

  -- one completion was to come, and it did
  word_none : slot_count ≤ owner_of h.bridge c.tag → paired own es ≡ []
  word_none o = only (paired own es) (rw (paired_own own s c es e) at (was.word o))
    where
      only : (l : List (List ℕ)) → length (s ∷ l) ≤ 1 → l ≡ []
      only [] y = refl
      only (a ∷ l) y = absurd (omega arith)

  pub memory_wired : (z : Verdict) → owner_of h.bridge c.tag < slot_count → memory_verdict c left (next_address h.bridge c.tag) ≡ z
      → is_unexpected z ≡ false → Wired sent (memory_completed h c.tag (owner_of h.bridge c.tag) (c.lower % 4) (drop 12 s) z) w es
  memory_wired z o f u =
      served o (memory_serves h c.tag (owner_of h.bridge c.tag) (c.lower % 4) (drop 12 s) z (omega (arith, g.sizes)) low o u)
      (says c left (next_address h.bridge c.tag) z f)

  pub config_wired : (z : Verdict) → slot_count ≤ owner_of h.bridge c.tag → Wired sent (held (config_completed h.bridge c.tag (drop 12 s) z) h.store) w es
  config_wired z o = freed_wired sent low (config_serves h.bridge c.tag 0 (drop 12 s) z (omega (arith, g.sizes)) low) refl refl (word_none o) now
