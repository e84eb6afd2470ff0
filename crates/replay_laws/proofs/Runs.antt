-- The events of a capture are events of `trace`.
use Prim.Native.Nat.{ℕ, ◌+◌}
use mathlib.Core.Path.{◌≡◌, refl, sym, ap, ap₂, ◌∙◌}
use mathlib.Core.List.{List, [], ◌∷◌, ◌++◌, append-nil, append_assoc}
use mathlib.Core.Bool.{Bool, true, false}
use native.Mathlib.Omega.{arith}
use borrow.Author.Tests.{eqb-true}
use lib.Dec.{ltb, eqb}
use lib.ListN.{length}
use Rattle.parts.specs.Answers.{refusal, taken}
use Rattle.machine.specs.State.{refused, slot_count}
use Rattle.machine.specs.Memory.{filled}
use Rattle.machine.specs.Config.{access_of}
use Rattle.machine.specs.Completions.{Held}
use Rattle.machine.specs.Take.{take_refusal, release_step}
use Rattle.trace.specs.Events as trace
use Rattle.trace.specs.Events.{Event, call, run, step}
use Rattle.trace.proofs.Methods.{methods}
use Rattle.records.specs.Events as records
use Rattle.records.specs.Events.{Captured, read, write, config_read, config_write, completion, link, tick}
use Rattle.replay.specs.Events.{Told, Stage, played}
use Rattle.replay_laws.specs.Runs.{traced, traced_all, outs, sent_by, told_by, told_all, PlayedIsStep, LookThenRelease, PlayedAllIsRun}
use Rattle.replay_laws.proofs.Areas.{read_keeps, write_keeps, config_keeps}

-- ---- one event

-- what one call sends is all that its event sends
alone : (g : Stage) (c : trace.Call) (after : List ℕ) → after ≡ filled (step g.held (call c)).out.sent g.area
    → after ≡ filled (sent_by (outs g.held (call c ∷ []))) g.area
alone g c after e = e ∙ ap (λ (s : List ℕ). filled s g.area) (sym (append-nil (step g.held (call c)).out.sent))

pub played_is_step : PlayedIsStep
unfolding played
played_is_step g i (read q) =
    let b = g.held.bridge in
    record {
      held = refl;
      told = refl;
      area = alone g (trace.read q (length g.area)) _ (methods.read b g.held.store q g.area).area_after;
      room = read_keeps b q g.area;
    }
played_is_step g i (write q d) =
    let b = g.held.bridge in
    record {
      held = refl;
      told = refl;
      area = alone g (trace.write q d (length g.area)) _ (methods.write b g.held.store q d g.area).area_after;
      room = write_keeps b q d g.area;
    }
played_is_step g i (config_read offset) =
    let b = g.held.bridge in
    let a = access_of offset false 0 0 in
    record {
      held = refl;
      told = refl;
      area = alone g (trace.config a (length g.area)) _ (methods.config b g.held.store offset false 0 0 g.area).area_after;
      room = config_keeps b a g.area;
    }
played_is_step g i (config_write offset strobes word) =
    let b = g.held.bridge in
    let a = access_of offset true strobes word in
    record {
      held = refl;
      told = refl;
      area = alone g (trace.config a (length g.area)) _ (methods.config b g.held.store offset true strobes word g.area).area_after;
      room = config_keeps b a g.area;
    }
played_is_step g i (completion s) = record { held = refl; told = refl; area = refl; room = refl }
played_is_step g i (link up) = record { held = refl; told = refl; area = refl; room = refl }
played_is_step g i tick = record { held = refl; told = refl; area = refl; room = refl }
played_is_step g i (records.take slot) = record { held = refl; told = refl; area = refl; room = refl }

-- ---- a take

release_by : (h : Held) (slot : ℕ) (t u : Bool) → eqb (take_refusal h.bridge (length h.store) slot) 0 ≡ t → ltb slot slot_count ≡ u
    → (release_step h.bridge (length h.store) slot).answer.number ≡ take_refusal h.bridge (length h.store) slot
unfolding release_step taken refused refusal
release_by h slot true true e l = rw (e, l) (sym (eqb-true _ 0 e))
release_by h slot true false e l = rw (e, l) (sym (eqb-true _ 0 e))
release_by h slot false u e l = rw e

pub look_then_release : LookThenRelease
look_then_release h slot = record {
  after = refl;
  number = (methods.look h.bridge h.store slot).2 ∙ sym (release_by h slot _ _ refl refl);
  part = refl;
}

-- ---- a list

ap₃ : {A B C D : Type 0} (f : A → B → C → D) {a x : A} {b y : B} {c z : C} → a ≡ x → b ≡ y → c ≡ z → f a b c ≡ f x y z
ap₃ f {a} {x} {b} {y} {c} {z} p q r = ap (λ u. f u b c) p ∙ ap (λ u. f x u c) q ∙ ap (f x y) r

pub run_append : (h : Held) (es fs : List Event) → run h (es ++ fs) ≡ run (run h es) fs
run_append h [] fs = refl
run_append h (e ∷ es) fs = run_append (step h e).after es fs

pub traced_append : (room : ℕ) (labels : ℕ → ℕ) (i : ℕ) (es fs : List Captured)
    → traced_all room labels i (es ++ fs) ≡ traced_all room labels i es ++ traced_all room labels (i + length es) fs
traced_append room labels i [] fs = ap (λ (n : ℕ). traced_all room labels n fs) (omega arith)
traced_append room labels i (e ∷ es) fs =
    ap (◌++◌ (traced room (labels i) e)) (traced_append room labels (i + 1) es fs)
    ∙ sym (append_assoc (traced room (labels i) e) (traced_all room labels (i + 1) es) (traced_all room labels (i + 1 + length es) fs))
    ∙ ap (λ (n : ℕ). traced room (labels i) e ++ traced_all room labels (i + 1) es ++ traced_all room labels n fs) (omega arith)

pub played_all_is_run : PlayedAllIsRun
played_all_is_run g labels i [] = record { held = refl; told = sym (append-nil g.told); room = refl }
played_all_is_run g labels i (e ∷ es) =
    let one = played_is_step g (labels i) e in
    let rest = played_all_is_run (played g e) labels (i + 1) es in
    let l = length g.area in
    record {
      held =
          rest.held
          ∙ ap₂ (λ (h : Held) (room : ℕ). run h (traced_all room labels (i + 1) es)) one.held one.room
          ∙ sym (run_append g.held (traced l (labels i) e) (traced_all l labels (i + 1) es));
      told =
          rest.told
          ∙ ap₃ (λ (ts : List Told) (h : Held) (room : ℕ). ts ++ told_all room labels (i + 1) h es) one.told one.held one.room
          ∙ append_assoc g.told (told_by e (outs g.held (traced l (labels i) e))) _;
      room = rest.room ∙ one.room;
    }
