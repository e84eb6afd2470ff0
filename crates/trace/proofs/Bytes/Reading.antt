-- A read along a list of events, until it is taken.
use Prim.Native.Nat.{ℕ, ◌%◌, ◌≤◌, ◌<◌}
use mathlib.Core.Path.{◌≡◌, refl, sym, subst, ◌∙◌}
use mathlib.Core.Logic.{◌≢◌, ◌⊎◌, inl, inr, by_cases}
use mathlib.Core.List.{List, [], ◌∷◌}
use mathlib.Core.Bool.{Bool, true, false}
use native.Mathlib.Omega.{arith}
use native.Mathlib.Decide.{ℕ_discrete}
use lib.ListN.{length, get_or, drop}
use borrow.Author.Tests.{eq-eqb, ne_eqb}
use Rattle.common.proofs.Tests.{and_left}
use Rattle.parts.specs.Cores.{Core}
use Rattle.machine.specs.State.{slot_at, with_ticks, core_in, missing_of, owner_of, place_of, is_open}
use Rattle.machine.specs.Completions.{store_size, Held, held}
use Rattle.machine.specs.Ticks.{next_tick, is_old, timed_out, linked}
use Rattle.machine.specs.Take.{state_of, take_refusal}
use Rattle.machine.proofs.Judging.{never, open_room}
use Rattle.bridge_laws.specs.MemoryLaws.{Tables}
use Rattle.bridge_laws.specs.Effects.{Serves, Expires, Lost}
use Rattle.bridge_laws.proofs.Parts.{same_missing, same_owner}
use Rattle.bridge_laws.proofs.Effects.{memory_serves, config_serves, timed_out_expires, drop_loses}
use Rattle.bridge_laws.proofs.Turns.{each_tag}
use Rattle.bridge_laws.proofs.TickLaws.{link_stays}
use Rattle.trace.specs.Events as event
use Rattle.trace.specs.Events.{Event, step, run}
use Rattle.trace.specs.FarSide.{Ask, Wire, sending, wire_after, Paired, Along}
use Rattle.trace.specs.Claims.{takes, Untaken}
use Rattle.trace.specs.Sound.{Sound}
use Rattle.trace.proofs.Soundness.View.{Move, idle, missed, reads, locals, routes, memories, configs, ticks, drops, links, releases, moves}
use Rattle.trace.proofs.Soundness.Sound.{sound_step, fine_of}
use Rattle.trace.proofs.Soundness.Fine.{tag_below, owner_open, state_below}
use Rattle.trace.proofs.Tags.Wire.{Wired, present_comes, flow_later}
use Rattle.trace.proofs.Tags.Comes.{open_missing}
use Rattle.trace.proofs.Tags.Opened.{asked_read, asked_word}
use Rattle.trace.proofs.Tags.Wired.{idle_wire, local_asks, step_wired}
use Rattle.trace.proofs.Bytes.Stage.{Spoilt, open_dropped, Waits, BytesSame, Read, Stage, spoilt, stage_used, Aside, stage_stays}
use Rattle.trace.proofs.Bytes.Receiving.{receives, lapses}
use Rattle.trace.proofs.Bytes.Passing.{still, quiet, other_slot, expires_aside, expires_sizes, serves_aside, release_aside, read_aside, word_aside}

-- where a tag is open for slot k, a read is
pub waits_open : {h : Held} (k t : ℕ) → Sound h → k < 8 → Waits k h.bridge t → get_or h.bridge.state k 0 ≡ 1
waits_open {h} k t s l m = sym (state_below h.bridge k l) ∙ subst (λ (j : ℕ). state_of h.bridge j ≡ 1) m.1 (owner_open h.bridge t (fine_of h s) m.0)

-- a slot that is released is another one
pub release_other : (k j : ℕ) (h : Held) → takes k h (event.call (event.release j)) ≡ false → take_refusal h.bridge (length h.store) j ≡ 0 → k ≢ j
release_other k j h f e z = never (sym (rw (eq-eqb j k (sym z), eq-eqb (take_refusal h.bridge (length h.store) j) 0 e)) ∙ f)

module _ (r : Read) where
  -- an event that concerns the read in nothing has gone by
  pass : {h x : Held} {w z : Wire} {e : Event} {es : List Event} → Aside r h x w z → Stage r h w (e ∷ es) → Stage r x z es
  pass {e = e} {es = es} a v = stage_stays r (flow_later r.sent e es) a v

  -- ---- a tick: each tag in turn

  record Lasts (w : Wire) (es : List Event) (h : Held) : Type 0 where
    stage : Stage r h w es
    sizes : Tables h.bridge × (store_size ≤ length h.store)

  lapse : (w : Wire) (es : List Event) (t : ℕ) (h x : Held) → is_old h.bridge t ≡ true → Expires t h x → Lasts w es h → Lasts w es x
  lapse w es t h x o p v =
      let f = and_left (is_open (missing_of h.bridge t) (place_of h.bridge t)) _ o in
      let z = open_missing (missing_of h.bridge t) (place_of h.bridge t) f in
      let low : place_of h.bridge t < 4096 = omega (arith, open_room (missing_of h.bridge t) (place_of h.bridge t) f) in
      record {
        stage = by_cases (ℕ_discrete (owner_of h.bridge t) r.slot) (λ e. lapses r h x w es t low e p v.stage)
            (λ n. stage_stays r (λ i n a m y. y) (expires_aside r h w t x v.sizes.1 n p) v.stage);
        sizes = expires_sizes r h w t x v.sizes.1 p;
      }

  -- ---- the link

  -- it goes down: a read that is open is spoilt
  drop_stage : {e : Event} (h x : Held) (w z : Wire) (es : List Event) → Sound h → Lost h x → x ≡ linked false h → Stage r h w (e ∷ es) → Stage r x z es
  drop_stage h x w z es g p eq v =
      let k = r.slot in
      let lost = p.slot k r.small in
      by_cases (ℕ_discrete (get_or h.bridge.state k 0) 1) (λ e. spoilt (subst Spoilt (sym lost) (open_dropped (slot_at h.bridge k) e))) (λ n.
      let bytes = subst (BytesSame k h) (sym eq) ((link_stays false h k (λ e. n (sym (state_below h.bridge k r.small) ∙ e))).slot r.small).bytes in
      pass (quiet r h w x z (rw (ne_eqb (get_or h.bridge.state k 0) 1 n) at lost) bytes (λ t m. n (waits_open k t g r.small m)) (λ t m. m.0 (same_missing (p.tag t)))) v)

  -- it comes up, or is as it was
  link_stage : (h : Held) (up : Bool) (c : Core) (w : Wire) (es : List Event) → Sound h → (up ≡ true) ⊎ (h.bridge.core.registers.link ≡ false) → Stage r h w (event.link up ∷ es)
      → Stage r (held (core_in c h.bridge) h.store) (wire_after w h (event.link up)) es
  link_stage h true c w es g o v = pass (still r h w c) v
  link_stage h false c w es g (inl o) v = never (sym o)
  link_stage h false c w es g (inr o) v =
      let none : (t : ℕ) → Waits r.slot h.bridge t → ⊥ = λ t m. m.0 ((g.down o).1 t) in
      pass (quiet r h w (held (core_in c h.bridge) h.store) (wire_after w h (event.link false)) refl (λ y l. refl) none none) v

  -- ---- one event

  move_stage : (h : Held) (e : Event) (x : Held) → Move h e x → x ≡ (step h e).after → (w : Wire) (es : List Event) → Sound h → Wired r.sent h w (e ∷ es) → Paired w e → takes r.slot h e ≡ false
      → Stage r h w (e ∷ es) → Stage r x (wire_after w h e) es
  move_stage h e x (idle {c = c} d a l) eq w es g y p u v = subst (λ (z : Wire). Stage r x z es) (sym (idle_wire h c w a)) (pass (still r h w _) v)
  move_stage h e x (missed d f l) eq w es g y p u v = pass (still r h w _) v
  move_stage h e x (reads {q = q} {room = room} f) eq w es g y p u v =
      subst (λ (l : List Ask). Stage r x (sending w l) es) (sym (asked_read h q room f)) (pass (read_aside r h w g q room f (stage_used r v)) v)
  move_stage h e x (locals {a = a} {room = room} o f d) eq w es g y p u v =
      subst (λ (l : List Ask). Stage r x (sending w l) es) (sym (local_asks h a room o d)) (pass (still r h w _) v)
  move_stage h e x (routes {a = a} {room = room} f o) eq w es g y p u v =
      subst (λ (l : List Ask). Stage r x (sending w l) es) (sym (asked_word h a room f o)) (pass (word_aside r h w g a room f o) v)
  move_stage h e x (memories {i = label} {s = s} c t f d o l j n) eq w es g y p u v =
      let k = owner_of h.bridge c.tag in
      let m = open_missing (missing_of h.bridge c.tag) (place_of h.bridge c.tag) o in
      let a = memory_serves h c.tag k (c.lower % 4) (drop 12 s) t g.sizes (tag_below h.bridge c.tag g.sizes m) l n in
      by_cases (ℕ_discrete k r.slot)
      (λ z. receives r h w es s c f g (m, z) t x j (subst (λ (k : ℕ). Serves c.tag k (c.lower % 4) (drop 12 s) h x t) z a)
      (subst (λ (i : ℕ). Stage r h w (event.completion i s ∷ es)) (present_comes r.sent h w label s c es y p f) v))
      (λ z. pass (serves_aside r h w s c f g m k l refl z t x j a) v)
  move_stage h e x (configs {s = s} c t f d o l j n) eq w es g y p u v =
      let m = open_missing (missing_of h.bridge c.tag) (place_of h.bridge c.tag) o in
      let a = config_serves h.bridge c.tag r.slot (drop 12 s) t g.sizes (tag_below h.bridge c.tag g.sizes m) in
      pass (other_slot r h w x a a.slot (λ z. omega (arith, r.small)) (same_owner a.tag) (λ i k. refl)) v
  move_stage h e x ticks eq w es g y p u v =
      let now = held (core_in (with_ticks (next_tick h.bridge.core.ticks) h.bridge.core) h.bridge) h.store in
      (each_tag (λ n. Lasts w es) now (record { stage = pass (still r h w _) v; sizes = (omega (arith, g.sizes), g.room) }) (λ n x m o y. y)
      (λ n x m o y. lapse w es n x (timed_out n x) o (timed_out_expires x n y.sizes.0 m) y)).stage
  move_stage h e x (drops l) eq w es g y p u v = drop_stage h x w (wire_after w h (event.link false)) es g (drop_loses h g.sizes) eq v
  move_stage h e x (links up o) eq w es g y p u v = link_stage h up _ w es g o v
  move_stage h e x (releases {k = j} d) eq w es g y p u v = pass (release_aside r h w g j (release_other r.slot j h u d)) v

  -- ---- a list of events

  pub run_stage : (es : List Event) (h : Held) (w : Wire) → Sound h → Wired r.sent h w es → Along r.sent h w es → Untaken r.slot h es → Stage r h w es → (z : Wire) × Stage r (run h es) z [] × Sound (run h es)
  run_stage [] h w g d a u v = (w, v, g)
  run_stage (e ∷ es) h w g d a u v =
      run_stage es (step h e).after (wire_after w h e) (sound_step h e g) (step_wired r.sent h e w es g a d) a.2 u.1
      (move_stage h e (step h e).after (moves h e g.room) refl w es g d a.0 u.0 v)
