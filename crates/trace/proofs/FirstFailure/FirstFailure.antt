-- A read's response is that of its first failed piece in address order, until it is taken.
use Prim.Native.Nat.{ℕ, ◌%◌, ◌<◌}
use mathlib.Core.Path.{◌≡◌, refl, sym, ap, ◌∙◌, subst}
use mathlib.Core.Logic.{◌≢◌}
use mathlib.Core.Option.{Option, none, some}
use mathlib.Core.List.{List, [], ◌∷◌}
use mathlib.Core.Bool.{true, false}
use native.Mathlib.Omega.{arith}
use native.Mathlib.Decide.{dec_lt}
use lib.ListN.{length, get_or, drop}
use lib.Dec.{eqb}
use borrow.Author.Tests.{eq-eqb, ne_eqb, lt-ltb}
use Rattle.std.specs.Prelude.{Result, Ok, Err}
use Rattle.refusals.specs.declared.Refusal.{Refusal}
use Rattle.tlp.specs.declared.completion.Completion.{Completion}
use Rattle.burst.specs.declared.Burst.{Burst}
use Rattle.verdict.specs.declared.Verdict.TheVariants.{Unexpected}
use Rattle.machine.specs.State.{Bridge, Slot, slot_at, tag_count, slot_count, missing_of, owner_of, place_of, is_open, with_ticks, core_in, free_slot, response_of}
use Rattle.machine.specs.Memory.{read_bridge, read_refusal, read_step}
use Rattle.machine.specs.Config.{route_of}
use Rattle.machine.specs.Verdict.{memory_verdict}
use Rattle.machine.specs.Completions.{Held, held, next_address, verdict_of, completion_of}
use Rattle.machine.specs.Ticks.{next_tick}
use Rattle.machine.specs.Take.{take_refusal, slot_freed}
use Rattle.bridge_laws.proofs.TakeLaws.{release_responds}
use Rattle.machine.proofs.Judging.{never}
use Rattle.machine.proofs.Refusals.{read_ok}
use Rattle.machine.proofs.Configs.{passed}
use Rattle.bridge_laws.specs.MemoryLaws.{Tables}
use Rattle.bridge_laws.proofs.Effects.{memory_serves, config_serves, routed_acts, released_acts}
use Rattle.trace.specs.Events as event
use Rattle.trace.specs.Events.{Event, step, run, start}
use Rattle.trace.specs.Claims.{takes, Untaken, is_down, Steady}
use Rattle.trace.specs.Sound.{Sound}
use Rattle.trace.specs.FirstFailure.{Failure, first_failed, response_by, completion_fails, fails_by, failures, FirstFailure, FirstFailureGives}
use Rattle.trace.proofs.Soundness.View.{Move, idle, missed, reads, locals, routes, memories, configs, ticks, drops, links, releases, moves}
use Rattle.trace.proofs.Soundness.Fine.{tag_below}
use Rattle.trace.proofs.Soundness.Opening.{free_slot_free}
use Rattle.trace.proofs.Soundness.Ticking.{test_open}
use Rattle.trace.proofs.Soundness.Sound.{fine_of, sound_step, run_sound}
use Rattle.trace.proofs.FirstFailure.Tracks.{stays, left_same, Agrees}
use Rattle.trace.proofs.FirstFailure.Effects.{Keeps, kept, nothing, served_keeps}
use Rattle.trace.proofs.FirstFailure.Tick.{first_append, tick_keeps}
use Rattle.trace.proofs.FirstFailure.Reads.{other_read, read_keeps}

-- the verdict on a completion for an open tag of a memory read
memory_verdict_lem : (b : Bridge) (c : Completion) → c.requester ≡ b.settings.requester → is_open (missing_of b c.tag) (place_of b c.tag) ≡ true → owner_of b c.tag < slot_count
    → verdict_of b c ≡ memory_verdict c (missing_of b c.tag) (next_address b c.tag)
unfolding verdict_of
memory_verdict_lem b c r o l = rw (eq-eqb _ _ r, o, lt-ltb _ _ l)

module _ (l a k : ℕ) where
  -- a completion that is refused fails nothing
  missed_none : (o : Option Failure) (b : Bridge) (r : Result Completion Refusal) → ((c : Completion) → r ≡ Ok c → verdict_of b c ≡ Unexpected) → first_failed o (completion_fails l a k b r) ≡ o
  missed_none o b (Ok c) f = rw (f c refl) (nothing o (eqb (owner_of b c.tag) k))
  missed_none o b (Err r) f = refl

  not_this : (h : Held) (j : ℕ) → take_refusal h.bridge (length h.store) j ≡ 0 → takes k h (event.call (event.release j)) ≡ false → j ≢ k
  not_this h j e f z = never (sym (rw (eq-eqb j k z, eq-eqb _ _ e)) ∙ f)

  tag_low : (h : Held) (t : ℕ) → Sound h → is_open (missing_of h.bridge t) (place_of h.bridge t) ≡ true → t < tag_count
  tag_low h t v p = tag_below h.bridge t v.sizes (test_open (missing_of h.bridge t) (place_of h.bridge t) p)

  -- another slot is released
  released_keeps : (j : ℕ) (b : Bridge) (o : Option Failure) → Tables b → j ≢ k → Keeps l a k o b → Keeps l a k o (slot_freed j b)
  released_keeps j b o v d w = go (dec_lt j slot_count)
    where
      go : Dec (j < slot_count) → Keeps l a k o (slot_freed j b)
      go (yes h) = kept ((released_acts 0 j b v).0 h) (λ z. absurd (d z)) (stays k _) w
      go (no h) = kept ((released_acts 0 j b v).1 (omega arith)) (λ z. left_same) (stays k _) w

  step_keeps : {h x : Held} {e : Event} → Move h e x → Sound h → takes k h e ≡ false → is_down e ≡ false
      → (o : Option Failure) → Keeps l a k o h.bridge → Keeps l a k (first_failed o (fails_by l a k h e)) x.bridge
  step_keeps (idle r n i) v t d o w = w
  step_keeps {h} (missed {s = s} r f i) v t d o w = subst (λ z. Keeps l a k z h.bridge) (sym (missed_none o h.bridge (completion_of s) f)) w
  step_keeps {h} (reads {q = q} {room = room} e) v t d o w =
      let n : free_slot h.bridge ≢ k =
      λ z. w.busy (ap (λ i. get_or h.bridge.state i 0) (sym z) ∙ free_slot_free h.bridge v.sizes.state (read_ok h.bridge q room e).slot) in
      other_read h.bridge q room (omega arith) e n w
  step_keeps (locals n e r) v t d o w = w
  step_keeps {h} (routes {a = x} {room = room} e u) v t d o w =
      let p = routed_acts h.bridge x k (omega arith) ((passed h.bridge.core (route_of h.bridge x) room e).tag u) in
      kept p (λ z. left_same) (λ q. absurd (omega (arith, q.owner, w.slot))) w
  step_keeps {h} (memories {s = s} c x e r p u f g) v t d o w =
      let y = memory_serves h c.tag (owner_of h.bridge c.tag) (c.lower % 4) (drop 12 s) x (omega arith) (tag_low h c.tag v p) u g in
      rw (e, memory_verdict_lem h.bridge c r p u ∙ f) (served_keeps y refl p w)
  step_keeps {h} (configs {s = s} c x e r p u f g) v t d o w =
      let n : owner_of h.bridge c.tag ≢ k = λ z. omega (arith, w.slot) in
      rw (e, ne_eqb _ _ n) (kept (config_serves h.bridge c.tag k (drop 12 s) x (omega arith) (tag_low h c.tag v p)) (λ z. left_same) (λ q. absurd (q.some_left refl)) w)
  step_keeps {h} ticks v t d o w =
      tick_keeps l a k o (held (core_in (with_ticks (next_tick h.bridge.core.ticks) h.bridge.core) h.bridge) h.store) (omega arith) w
  step_keeps (drops e) v t d o w = never d
  step_keeps (links up c) v t d o w = w
  step_keeps {h} (releases {k = j} e) v t d o w = released_keeps j h.bridge o (omega arith) (not_this h j e t) w

  run_keeps : (h : Held) (es : List Event) → Sound h → Untaken k h es → Steady es → (o : Option Failure) → Keeps l a k o h.bridge
      → Keeps l a k (first_failed o (failures l a k h es)) (run h es).bridge
  run_keeps h [] v t d o w = w
  run_keeps h (e ∷ es) v t d o w =
      let x = step_keeps (moves h e v.room) v t.0 d.0 o w in
      let y = run_keeps (step h e).after es (sound_step h e v) t.1 d.1 (first_failed o (fails_by l a k h e)) x in
      subst (λ z. Keeps l a k z (run h (e ∷ es)).bridge) (sym (first_append o (fails_by l a k h e) (failures l a k (step h e).after es))) y

  responded : (o : Option Failure) (s : Slot) → Agrees l a o s → s.cause ≡ response_by o
  responded none s g = g.1
  responded (some f) s g = g.0

read_after : (b : Bridge) (q : Burst) (room : ℕ) → read_refusal b q room ≡ 0 → (read_step b q room).bridge ≡ read_bridge b q
unfolding read_step
read_after b q room e = rw (eq-eqb _ _ e)

pub first_failure : FirstFailure
first_failure s store long before q room later e untaken steady =
    let h = run (start s store) before in
    let v = run_sound s store long before in
    let y = (step h (event.call (event.read q room))).after in
    let l = h.bridge.settings.reads in
    let k = free_slot h.bridge in
    let w = subst (λ b. Keeps l q.start.0 k none b) (sym (read_after h.bridge q room e)) (read_keeps h.bridge q room (fine_of h v) e) in
    let r = run_keeps l q.start.0 k y later (sound_step h (event.call (event.read q room)) v) untaken steady none w in
    responded l q.start.0 k (first_failed none (failures l q.start.0 k y later)) (slot_at (run y later).bridge k) r.agrees

pub first_failure_gives : FirstFailureGives
first_failure_gives s store long before q room later e untaken steady answered =
    let h = run (start s store) before in
    let x = run (step h (event.call (event.read q room))).after later in
    (release_responds x.bridge (length x.store) (free_slot h.bridge) answered).0 (read_ok h.bridge q room e).slot
    ∙ ap response_of (first_failure s store long before q room later e untaken steady)
