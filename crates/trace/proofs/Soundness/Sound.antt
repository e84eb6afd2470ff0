-- What holds of every state that a list of events reaches.
use Prim.Native.Nat.{ℕ, ◌%◌, ◌≤◌, ◌<◌}
use mathlib.Core.Path.{◌≡◌, refl, sym, ◌∙◌}
use mathlib.Core.Logic.{◌⊎◌, inl, inr}
use mathlib.Core.List.{List, [], ◌∷◌}
use mathlib.Core.Bool.{Bool, true, false, not, ◌&&◌}
use native.Mathlib.Omega.{arith}
use lib.ListN.{length, drop, length-replicate}
use lib.Dec.{eqb}
use borrow.Author.Tests.{eqb-true, le-ltb}
use Rattle.address.specs.declared.Settings.{Settings}
use Rattle.address.specs.Settings.{settings_number, example_settings}
use Rattle.address.proofs.Laws.{example_accepted}
use Rattle.machine.specs.State.{Bridge, Answered, tag_count, slot_count, missing_of, owner_of, place_of, refusal_change, refused, fresh_core, fresh_bridge, new_bridge, slot_at, Open}
use Rattle.machine.specs.Completions.{store_size, Held, held, completion_of}
use Rattle.machine.specs.Ticks.{ticked, link_to, linked}
use Rattle.machine.specs.Take.{state_of, take_refusal}
use Rattle.machine.proofs.Judging.{never}
use Rattle.bridge_laws.proofs.TakeLaws.{passed}
use Rattle.bridge_laws.proofs.Effects.{memory_serves, drop_loses}
use Rattle.bridge_laws.proofs.Rows.{zeros}
use Rattle.trace.specs.Events as event
use Rattle.trace.specs.Events.{Event, step, run, start}
use Rattle.trace.specs.Sound.{Sound, RunIsSound}
use Rattle.trace.proofs.Soundness.View.{Move, idle, missed, reads, locals, routes, memories, configs, ticks, drops, links, releases, moves}
use Rattle.trace.proofs.Soundness.Cases.{by_test}
use Rattle.trace.proofs.Soundness.Fine.{TagFits, SlotFits, Fine, FineTo, ageless, tag_below}
use Rattle.trace.proofs.Soundness.Serving.{memory_fine, config_fine}
use Rattle.trace.proofs.Soundness.Cores.{core_fine, registers_fine, local_fine, release_fine}
pub use Rattle.trace.proofs.Soundness.Opening.{Limited, limited}
use Rattle.trace.proofs.Soundness.Opening.{read_fine, routed_fine}
use Rattle.trace.proofs.Soundness.Dropping.{idle_fine, lost_fine}
use Rattle.trace.proofs.Soundness.Rooms.{drop_room, completed_room}
use Rattle.trace.proofs.Soundness.Ticking.{test_open, all_looked, ticked_fine, clocked, clock_fine}

-- ---- `Sound` is the room of the store, and what holds of the bridge with no tag over the time limit

abbrev Whole : Bridge → Type 0
Whole b = FineTo (λ t. 0) b

pub whole_of : (h : Held) → Sound h → Whole h.bridge
whole_of h v =
    let tags : (t : ℕ) → Open h.bridge t → TagFits 0 h.bridge t =
    λ t m. let w = v.tags t m in record { used = w.used; whole = w.whole; inside = w.inside; past = w.past; young = omega (arith, w.young) } in
    let slots : (k : ℕ) → k < 8 → SlotFits (slot_at h.bridge k) = λ k l. record { alive = v.alive k l; fits = v.fits k l; marked = v.marked k l } in
    search (tags, slots)

sound_of : (h : Held) → store_size ≤ length h.store → Whole h.bridge → Sound h
sound_of h l v = record {
  room = l;
  right = v.right;
  sizes = v.sizes;
  clock = v.clock;
  tags = λ t m. let w = v.tags t m in record { used = w.used; whole = w.whole; inside = w.inside; past = w.past; young = omega (arith, w.young) };
  count = v.count;
  alive = λ k l. (v.slots k l).alive;
  fits = λ k l. (v.slots k l).fits;
  marked = λ k l. (v.slots k l).marked;
  down = v.down;
}

-- whatever the ages are
pub fine_of : (h : Held) → Sound h → Fine h.bridge
fine_of h v = ageless (whole_of h v)

-- ---- the cases

-- a slot that is taken was finished
pub taken_finished : (b : Bridge) (room k : ℕ) → take_refusal b room k ≡ 0 → state_of b k ≡ 2
taken_finished b room k e = (passed room (state_of b k) e).finished

move_fine : {h x : Held} {e : Event} → Move h e x → store_size ≤ length h.store → Whole h.bridge → Whole x.bridge
move_fine {h} (idle r a l) n v = registers_fine h.bridge r v l
move_fine {h} (missed r f l) n v = registers_fine h.bridge r v l
move_fine {h} (reads {q = q} {room = room} e) n v = read_fine h.bridge q room v e
move_fine {h} (locals {a = a} {room = room} w e r) n v = local_fine h.bridge a room w v e
move_fine {h} (routes {a = a} {room = room} e o) n v = routed_fine h.bridge a room v e o
move_fine {h} (memories {i = i} {s = s} c w e r o l f u) n v =
    let t = c.tag in
    let k = owner_of h.bridge t in
    let m = test_open (missing_of h.bridge t) (place_of h.bridge t) o in
    memory_fine h t k v m refl l (memory_serves h t k (c.lower % 4) (drop 12 s) w v.sizes (tag_below h.bridge t v.sizes m) l u)
move_fine {h} (configs {i = i} {s = s} c w e r o l f u) n v =
    let t = c.tag in
    config_fine h t (owner_of h.bridge t) v (test_open (missing_of h.bridge t) (place_of h.bridge t) o) refl l (drop 12 s) w u
move_fine {h} ticks n v = ticked_fine (all_looked (clocked h) (clock_fine h n v))
move_fine {h} (drops l) n v = lost_fine v (drop_loses h v.sizes)
move_fine {h} (links up c) n v =
    core_fine h.bridge (link_to up h.bridge.core) v refl refl v.clock (go up c) (λ t m. (v.tags t m).young)
  where
    go : (up : Bool) → (up ≡ true) ⊎ (h.bridge.core.registers.link ≡ false) → up ≡ false → h.bridge.core.registers.link ≡ false
    go up (inl e) f = never (sym e ∙ f)
    go up (inr e) f = e
move_fine {h} (releases {k = k} e) n v = release_fine h.bridge k v (taken_finished h.bridge (length h.store) k e)

-- ---- the store keeps its length

room_step : (h : Held) (e : Event) → Sound h → store_size ≤ length (step h e).after.store
unfolding ticked linked
room_step h (event.call c) v = v.room
room_step h (event.completion i s) v = rw (completed_room h s (completion_of s) refl) v.room
room_step h event.tick v = rw (le-ltb (length h.store) store_size v.room) (all_looked (clocked h) (clock_fine h v.room (whole_of h v))).room
room_step h (event.link up) v =
    rw (le-ltb (length h.store) store_size v.room)
    (by_test (λ (x : Held). store_size ≤ length x.store) (not up && h.bridge.core.registers.link) (λ e. rw (drop_room h v.room) v.room) (λ e. v.room))

-- ---- lists of events

pub sound_step : (h : Held) (e : Event) → Sound h → Sound (step h e).after
sound_step h e v = sound_of (step h e).after (room_step h e v) (move_fine (moves h e v.room) v.room (whole_of h v))

sound_run : (h : Held) (es : List Event) → Sound h → Sound (run h es)
sound_run h [] v = v
sound_run h (e ∷ es) v = sound_run (step h e).after es (sound_step h e v)

fresh_fine : (s : Settings) → settings_number s ≡ 0 → Whole (fresh_bridge s)
unfolding fresh_bridge fresh_core
fresh_fine s e =
    idle_fine (fresh_bridge s) (λ k l z. omega (arith, zeros 8 k)) (λ z. omega arith) e
    (omega (arith, length-replicate {A = ℕ} tag_count 0, length-replicate {A = ℕ} slot_count 0)) (omega arith) (refl, zeros tag_count)
    (λ k l z. absurd (z (zeros 8 k)))

new_sound : (s : Settings) (store : List ℕ) → store_size ≤ length store → Sound (start s store)
unfolding new_bridge refused refusal_change
new_sound s store l =
    by_test (λ (a : Answered). Sound (held a.bridge store)) (eqb (settings_number s) 0) (λ e. sound_of (held (fresh_bridge s) store) l (fresh_fine s (eqb-true _ _ e)))
    (λ e. sound_of (held (fresh_bridge example_settings) store) l (fresh_fine example_settings example_accepted))

pub run_sound : RunIsSound
run_sound s store l es = sound_run (start s store) es (new_sound s store l)
