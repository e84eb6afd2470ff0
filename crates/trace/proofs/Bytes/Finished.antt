-- A finished answer along a list of events.
use Prim.Native.Nat.{ℕ, ◌≤◌, ◌<◌}
use mathlib.Core.Path.{◌≡◌, refl, sym, ap, ◌∙◌}
use mathlib.Core.Logic.{◌≢◌, by_cases}
use mathlib.Core.List.{List, [], ◌∷◌}
use mathlib.Core.Bool.{Bool, true, false}
use native.Mathlib.Omega.{arith}
use native.Mathlib.Decide.{dec_lt}
use lib.ListN.{length, get_or}
use lib.Seq.{ext_get_or}
use lib.Dec.{ltb}
use borrow.Author.Tests.{eq-eqb, lt-ltb, le-ltb, ltb-true, ltb-false}
use Rattle.parts.specs.Cores.{Core}
use Rattle.parts.specs.declared.ConfigSlot.{ConfigSlot}
use Rattle.machine.specs.State.{Bridge, Slot, slot_at, missing_of, owner_of, place_of, size_of, response_of, taken}
use Rattle.machine.specs.Config.{route_of}
use Rattle.machine.specs.Completions.{Held, held}
use Rattle.machine.specs.Take.{state_in, state_of, take_refusal, looked, slot_freed, release_step}
use Rattle.machine.proofs.Configs.{passed}
use Rattle.bridge_laws.specs.CompletionLaws.{slot_of, Unawaited, AnswerSame}
use Rattle.bridge_laws.proofs.Parts.{same_state, same_size}
use Rattle.bridge_laws.proofs.Effects.{released_acts, routed_acts}
use Rattle.bridge_laws.proofs.Kept.{accepted_read_keeps}
use Rattle.bridge_laws.proofs.Finished.{slot_same, answer_same, answer_then, finished_stays}
use Rattle.bridge_laws.proofs.TickLaws.{tick_stays, link_stays}
use Rattle.bridge_laws.proofs.TakeLaws as take
use Rattle.trace.specs.Events.{Call, Event, call, completion, tick, link, step, run, start}
use Rattle.trace.specs.Claims.{Answered, takes, Untaken}
use Rattle.trace.specs.Sound.{Sound}
use Rattle.trace.specs.Finished.{FinishedStay}
use Rattle.trace.proofs.Soundness.View.{Move, idle, reads, locals, routes, releases, moves}
use Rattle.trace.proofs.Soundness.Fine.{state_below, owner_open, owner_most}
use Rattle.trace.proofs.Soundness.Sound.{sound_step, run_sound, fine_of}
use Rattle.trace.proofs.Tags.Comes.{open_missing}
use Rattle.trace.proofs.Tags.Opened.{free_slot_free}
use Rattle.trace.proofs.Bytes.Reading.{release_other}

-- ---- states

state_config : (b : Bridge) (k : ℕ) → k ≡ 8 → state_of b k ≡ b.core.config.state
unfolding state_in
state_config b k e = rw (eq-eqb k 8 e)

-- a finished slot is one of the nine
in_range_lem : (b : Bridge) (k : ℕ) → state_of b k ≡ 2 → k ≤ 8
in_range_lem b k e = take.in_range_lem b.core.config.state b.state k e

finished_of : (k : ℕ) (h : Held) → Answered k h → state_of h.bridge k ≡ 2
finished_of k h a = (take.passed (length h.store) (state_of h.bridge k) a).finished

-- no open tag's answer goes to a slot in which no access is open
unawaited : (h : Held) (k : ℕ) → Sound h → state_of h.bridge k ≢ 1 → Unawaited k h.bridge
unawaited h k s n t o e =
    let j = owner_of h.bridge t in
    let m = open_missing (missing_of h.bridge t) (place_of h.bridge t) o in
    let same : slot_of h.bridge t ≡ j = by_cases (dec_lt j 8) (λ l. rw (lt-ltb j 8 l)) (λ l. rw (le-ltb j 8 (omega arith)) (omega (arith, owner_most h.bridge t (fine_of h s) m))) in
    n (ap (state_of h.bridge) (sym e ∙ same) ∙ owner_open h.bridge t (fine_of h s) m)

-- ---- one event

-- a call that leaves the slot as it is
row_answer : (k : ℕ) (h : Held) (x : Bridge) → (k < 8 → slot_at x k ≡ slot_at h.bridge k) → (k ≡ 8 → x.core.config ≡ h.bridge.core.config) → AnswerSame k h (held x h.store)
row_answer k h x e f =
    record {
      slot = λ l. slot_same k h (held x h.store) (e l) (λ i g. refl);
      config = f;
      room = refl;
      beyond = λ i l. refl;
    }

module _ (k : ℕ) (h : Held) (g : Sound h) (done : state_of h.bridge k ≡ 2) where
  -- the configuration slot is not free
  busy : {A : Type 0} → k ≡ 8 → h.bridge.core.config.state ≡ 0 → A
  busy e f = absurd (omega (arith, state_config h.bridge k e))

  release_answer : (j : ℕ) → k ≢ j → take_refusal h.bridge (length h.store) j ≡ 0 → AnswerSame k h (held (slot_freed j h.bridge) h.store)
  release_answer j n r =
      let x = slot_freed j h.bridge in
      let a = released_acts 0 j h.bridge g.sizes in
      by_cases (dec_lt j 8) (λ l. row_answer k h x (λ m. (a.0 l).slots k n) (λ e. ap (λ (c : Core). c.config) (a.0 l).core))
      (λ l. row_answer k h x (λ m. (a.1 (omega arith)).slots k n) (λ e. absurd (n (omega (arith, in_range_lem h.bridge j (finished_of j h r))))))

  call_answer : (c : Call) (x : Held) → Move h (call c) x → takes k h (call c) ≡ false → AnswerSame k h x
  call_answer c x (idle r a l) u = row_answer k h x.bridge (λ l. refl) (λ e. refl)
  call_answer c x (reads {q = q} {room = room} f) u =
      row_answer k h x.bridge (λ l. (accepted_read_keeps h.bridge q room f).slots k (λ z. omega (arith, ap (λ (j : ℕ). get_or h.bridge.state j 0) z, free_slot_free h q room g f, state_below h.bridge k l)))
      (λ e. (accepted_read_keeps h.bridge q room f).config)
  call_answer c x (locals {a = a} {room = room} w f r) u = row_answer k h x.bridge (λ l. refl) (λ e. busy e (passed h.bridge.core (route_of h.bridge a) room f).free)
  call_answer c x (routes {a = a} {room = room} f o) u =
      let p = passed h.bridge.core (route_of h.bridge a) room f in
      row_answer k h x.bridge (λ l. (routed_acts h.bridge a k g.sizes (p.tag o)).slot) (λ e. busy e p.free)
  call_answer c x (releases {k = j} r) u = release_answer j (release_other k j h u r) r

  event_answer : (e : Event) → takes k h e ≡ false → AnswerSame k h (step h e).after
  event_answer (call c) u = call_answer c (step h (call c)).after (moves h (call c) g.room) u
  event_answer (completion i s) u = finished_stays h s k (unawaited h k g (λ e. omega arith))
  event_answer tick u = tick_stays h k (unawaited h k g (λ e. omega arith))
  event_answer (link up) u = link_stays up h k (λ e. omega arith)

-- ---- a list of events

-- it stays finished
state_stays : (k : ℕ) (h x : Held) → state_of h.bridge k ≡ 2 → AnswerSame k h x → state_of x.bridge k ≡ 2
state_stays k h x e a =
    by_cases (dec_lt k 8) (λ l. omega (arith, state_below x.bridge k l, same_state (a.slot l).row, state_below h.bridge k l)) (λ n.
    let z : k ≡ 8 = omega (arith, in_range_lem h.bridge k e) in
    omega (arith, state_config x.bridge k z, ap (λ (c : ConfigSlot). c.state) (a.config z), state_config h.bridge k z))

run_stays : (later : List Event) (k : ℕ) (h : Held) → Sound h → Answered k h → Untaken k h later → AnswerSame k h (run h later) × Answered k (run h later)
run_stays [] k h g a u = (answer_same k h, a)
run_stays (e ∷ es) k h g a u =
    let x = (step h e).after in
    let s = sound_step h e g in
    let p = event_answer k h g (finished_of k h a) e u.0 in
    let q = run_stays es k x s (take.passes (length x.store) (state_of x.bridge k) s.room (state_stays k h x (finished_of k h a) p)) u.1 in
    (answer_then k h x (run x es) p q.0, q.1)

-- ---- what is shown

module _ (k : ℕ) (h x : Held) (p : AnswerSame k h x) (a : Answered k h) (b : Answered k x) where
  config_slot_lem : 8 ≤ k → k ≡ 8
  config_slot_lem l = omega (arith, in_range_lem h.bridge k (finished_of k h a))

  shown_look : Dec (k < 8) → looked x.bridge x.store k ≡ looked h.bridge h.store k
  shown_look (yes l) =
      let i = take.look_at_slot h.bridge h.store k a l in
      let j = take.look_at_slot x.bridge x.store k b l in
      ext_get_or 0 (looked x.bridge x.store k) (looked h.bridge h.store k) (omega (arith, i.size, j.size, same_size (p.slot l).row))
      (λ y m. let c : y < size_of x.bridge k = omega (arith, j.size) in j.at y c ∙ ((p.slot l).bytes y (omega arith) ∙ sym (i.at y (omega (arith, same_size (p.slot l).row)))))
  shown_look (no n) =
      let e = config_slot_lem (omega arith) in
      ap (looked x.bridge x.store) e ∙ (take.look_at_config x.bridge x.store ∙ (sym (take.look_at_config h.bridge h.store) ∙ ap (looked h.bridge h.store) (sym e)))

  shown_release : (z : Bool) → ltb k 8 ≡ z → (release_step x.bridge (length x.store) k).answer ≡ (release_step h.bridge (length h.store) k).answer
  unfolding release_step
  shown_release true z =
      rw (eq-eqb (take_refusal x.bridge (length x.store) k) 0 b, eq-eqb (take_refusal h.bridge (length h.store) k) 0 a, z)
      (ap (λ (s : Slot). taken (response_of s.cause) 0 (record { session = s.session })) (p.slot (ltb-true k 8 z)).row)
  shown_release false z =
      rw (eq-eqb (take_refusal x.bridge (length x.store) k) 0 b, eq-eqb (take_refusal h.bridge (length h.store) k) 0 a, z)
      (ap (λ (c : ConfigSlot). taken (response_of c.response) c.word c.figures) (p.config (config_slot_lem (ltb-false k 8 z))))

-- ---- THE LAW

pub finished_stay : FinishedStay
finished_stay s store long before k later a u =
    let h = run (start s store) before in
    let r = run_stays later k h (run_sound s store long before) a u in
    record {
      same = r.0;
      answered = r.1;
      look = shown_look k h (run h later) r.0 a r.1 (dec_lt k 8);
      release = shown_release k h (run h later) r.0 a r.1 (ltb k 8) refl;
    }
