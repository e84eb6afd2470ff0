-- What a tick leaves of the failure that a slot keeps.
use Prim.Native.Nat.{ℕ, suc, ◌≤◌}
use mathlib.Core.Path.{◌≡◌, refl, sym, ap, ◌∙◌, subst}
use mathlib.Core.Logic.{◌≢◌}
use mathlib.Core.Option.{Option}
use mathlib.Core.List.{List, [], ◌∷◌, ◌++◌}
use mathlib.Core.Bool.{true, false, cond, ◌&&◌}
use native.Mathlib.Omega.{arith}
use lib.Dec.{eqb}
use borrow.Author.Tests.{ne_eqb}
use Rattle.common.proofs.Tests.{and_left}
use Rattle.parts.specs.Cores.{Core}
use Rattle.verdict.specs.declared.Cause.TheVariants.{Timeout}
use Rattle.machine.specs.State.{Bridge, Tag, Slot, tag_at, missing_of, owner_of, place_of, is_open, tag_count}
use Rattle.machine.specs.Completions.{Held}
use Rattle.machine.specs.Ticks.{is_old, timed_out, expire_to}
use Rattle.bridge_laws.specs.MemoryLaws.{Tables}
use Rattle.bridge_laws.specs.Rows.{closed_slot}
use Rattle.bridge_laws.specs.Effects.{Acts, same, Expires, memory, config}
use Rattle.bridge_laws.proofs.Parts.{same_missing, same_sent, same_owner, same_place}
use Rattle.bridge_laws.proofs.Cores.{raised_core_lem}
use Rattle.bridge_laws.proofs.Effects.{core_acts, timed_out_expires}
use Rattle.bridge_laws.proofs.Turns.{each_tag}
use Rattle.trace.specs.FirstFailure.{Failure, better, first_failed, failing, tick_fails}
use Rattle.trace.proofs.FirstFailure.Tracks.{left_same, left_closed}
use Rattle.trace.proofs.FirstFailure.Effects.{Keeps, kept, failed_keeps}

pub first_append : (o : Option Failure) (x y : List Failure) → first_failed o (x ++ y) ≡ first_failed (first_failed o x) y
first_append o [] y = refl
first_append o (f ∷ x) y = first_append (better o f) x y

-- ---- its turns: the tags that it has not come to are as they were

module _ (l a k : ℕ) (o : Option Failure) (b : Bridge) where
  record Turned (n : ℕ) (x : Held) : Type 0 where
    keeps : Keeps l a k (first_failed o (tick_fails l a k b n)) x.bridge
    tables : Tables x.bridge
    settings : x.bridge.settings ≡ b.settings
    clock : x.bridge.core.ticks ≡ b.core.ticks
    ahead : (u : ℕ) → n ≤ u → tag_at x.bridge u ≡ tag_at b u

  module _ (n : ℕ) (x : Held) (w : Turned n x) where
    abbrev here : List Failure
    here = cond (is_old x.bridge n && eqb (owner_of x.bridge n) k) (failing l a k (place_of x.bridge n) Timeout) []

    -- what this turn adds
    adds : first_failed o (tick_fails l a k b (suc n)) ≡ first_failed (first_failed o (tick_fails l a k b n)) here
    unfolding tick_fails
    adds =
        let r = w.ahead n (omega arith) in
        rw (same_missing r, same_place r, same_sent r, same_owner r, w.clock, w.settings) (first_append o (tick_fails l a k b n) _)

    turned : {j : ℕ} {f : Tag → Tag} {g : Slot → Slot} {c : Core → Core} (y : Held) → Acts n j f g c x.bridge y.bridge
        → (c x.bridge.core).ticks ≡ x.bridge.core.ticks
        → Keeps l a k (first_failed (first_failed o (tick_fails l a k b n)) here) y.bridge → Turned (suc n) y
    turned y p c v = record {
      keeps = subst (λ r. Keeps l a k r y.bridge) (sym adds) v;
      tables = p.tables;
      settings = p.settings ∙ w.settings;
      clock = ap (λ (z : Core). z.ticks) p.core ∙ c ∙ w.clock;
      ahead = λ u h. p.tags u (λ d. omega arith) ∙ w.ahead u (omega arith);
    }

    young : is_old x.bridge n ≡ false → Turned (suc n) x
    young e = turned x (core_acts n k same x.bridge w.tables) refl (rw e w.keeps)

    old : (y : Held) → is_old x.bridge n ≡ true → Expires n x y → Turned (suc n) y
    old y e (memory i p s) =
        let z = and_left (is_open (missing_of x.bridge n) (place_of x.bridge n)) _ e in
        turned y p (raised_core_lem _ _).ticks (rw e (failed_keeps closed_slot Timeout p left_closed refl z (λ q. absurd (q.some_left refl)) w.keeps))
    old y e (config i p s) =
        let d : owner_of x.bridge n ≢ k = λ z. omega (arith, w.keeps.slot) in
        turned y (p k) (raised_core_lem _ _).ticks (rw (e, ne_eqb _ _ d) (kept (p k) (λ z. left_same) (λ q. absurd (q.some_left refl)) w.keeps))

pub tick_keeps : (l a k : ℕ) (o : Option Failure) (h : Held) → Tables h.bridge → Keeps l a k o h.bridge
    → Keeps l a k (first_failed o (tick_fails l a k h.bridge tag_count)) (expire_to h tag_count).bridge
unfolding tick_fails
tick_keeps l a k o h v w =
    (each_tag (Turned l a k o h.bridge) h (record { keeps = w; tables = v; settings = refl; clock = refl; ahead = λ u m. refl })
    (λ n x m e t. young l a k o h.bridge n x t e)
    (λ n x m e t. old l a k o h.bridge n x t (timed_out n x) e (timed_out_expires x n t.tables m))
    ).keeps
