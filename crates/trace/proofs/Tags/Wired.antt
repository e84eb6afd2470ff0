-- The invariant on labels and tags, along whole lists.
use Prim.Native.Nat.{ℕ, ◌+◌, ◌≤◌, ◌<◌}
use mathlib.Core.Path.{◌≡◌, refl, sym, ap, subst}
use mathlib.Core.Logic.{inl, inr}
use mathlib.Core.List.{List, [], ◌∷◌, ◌++◌}
use mathlib.Core.Bool.{Bool, true, false, cond, ◌&&◌}
use native.Mathlib.Omega.{arith}
use native.Mathlib.Nat.{add-zero}
use native.Mathlib.Decide.{dec_lt}
use lib.ListN.{length}
use lib.Dec.{eqb}
use Rattle.ecam.specs.Route.{Local}
use Rattle.address.specs.declared.Settings.{Settings}
use Rattle.parts.specs.Cores.{Core}
use Rattle.machine.specs.State.{Bridge, with_ticks, core_in, tag_at, slot_count}
use Rattle.machine.specs.Config.{Access, route_of, goes_out, config_refusal}
use Rattle.machine.specs.Completions.{store_size, Held, held}
use Rattle.machine.specs.Ticks.{next_tick}
use Rattle.machine.specs.Take.{slot_freed}
use Rattle.bridge_laws.specs.MemoryLaws.{Tables}
use Rattle.bridge_laws.proofs.Parts.{same_missing}
use Rattle.bridge_laws.proofs.Cores.{local_core_lem}
use Rattle.bridge_laws.proofs.Effects.{released_acts, drop_loses}
use Rattle.bridge_laws.proofs.FreshLaws.{new_is_fresh}
use Rattle.trace.specs.Events as event
use Rattle.trace.specs.Events.{Call, Event, step, run, start}
use Rattle.trace.specs.FarSide.{asked_by, asked, requests, Wire, wire0, sending, dropping, wire_after, Paired, AllAnswered, Along, FarSide}
use Rattle.trace.specs.Sound.{Sound}
use Rattle.trace.proofs.Soundness.View.{Move, idle, missed, reads, locals, routes, memories, configs, ticks, drops, links, releases, moves}
use Rattle.trace.proofs.Soundness.Sound.{sound_step, run_sound}
use Rattle.trace.proofs.Tags.Turn.{no_way}
use Rattle.trace.proofs.Tags.Wire.{Wired, wired_later}
use Rattle.trace.proofs.Tags.Tagged.{same_wired, time_wired, bare_wired}
use Rattle.trace.proofs.Tags.Asks.{sending_count}
use Rattle.trace.proofs.Tags.Comes.{open_missing, memory_wired, config_wired}
use Rattle.trace.proofs.Tags.Opened.{asked_read, read_wired, word_ask, asked_word, word_wired}

-- ---- events that send nothing

pub idle_wire : (h : Held) (c : Call) (w : Wire) → asked_by h c ≡ [] → wire_after w h (event.call c) ≡ w
idle_wire h c w a = ap (sending w) a

pub local_asks : (h : Held) (a : Access) (room w : ℕ) → route_of h.bridge a ≡ Local w → asked h (event.call (event.config a room)) ≡ []
local_asks h a room w e = subst (λ y. cond (eqb (config_refusal h.bridge a room) 0 && y) (word_ask h.bridge a) [] ≡ []) (sym (ap goes_out e)) (by (eqb (config_refusal h.bridge a room) 0))
  where
    by : (z : Bool) → cond (z && false) (word_ask h.bridge a) [] ≡ []
    by true = refl
    by false = refl

-- a release changes no tag
pub release_tags : (k : ℕ) (b : Bridge) → Tables b → ((t : ℕ) → tag_at (slot_freed k b) t ≡ tag_at b t) × ((slot_freed k b).core.free ≡ b.core.free)
release_tags k b v = by (dec_lt k slot_count)
  where
    by : Dec (k < slot_count) → ((t : ℕ) → tag_at (slot_freed k b) t ≡ tag_at b t) × ((slot_freed k b).core.free ≡ b.core.free)
    by (yes l) = (λ t. ((released_acts t k b v).0 l).tag, ap (λ (c : Core). c.free) ((released_acts 0 k b v).0 l).core)
    by (no l) = (λ t. ((released_acts t k b v).1 (omega arith)).tag, ap (λ (c : Core). c.free) ((released_acts 0 k b v).1 (omega arith)).core)

module _ (sent : ℕ → List (List ℕ)) where
  -- ---- one event, with which the wire has moved on

  module _ (h : Held) (w : Wire) (es : List Event) (s : Sound h) where
    move_wired : {e : Event} {x : Held} → Move h e x → Paired w e → AllAnswered sent w.count (asked h e) → Wired sent h w (e ∷ es) → Wired sent h w es → Wired sent x (wire_after w h e) es
    move_wired {x = x} (idle {c = c} r a l) p q v n = subst (λ y. Wired sent x y es) (sym (idle_wire h c w a)) (same_wired sent (λ t. refl) refl n)
    move_wired (missed r f l) p q v n = same_wired sent (λ t. refl) refl n
    move_wired {x = x} (reads {q = b} {room = room} f) p q v n =
        let z = asked_read h b room f in
        subst (λ (l : List _). Wired sent x (sending w l) es) (sym z) (read_wired sent h b room s f w es n (rw z at q))
    move_wired {x = x} (locals {a = a} {room = room} u f r) p q v n =
        subst (λ (l : List _). Wired sent x (sending w l) es) (sym (local_asks h a room u r)) (same_wired sent (λ t. refl) (local_core_lem h.bridge.core a u).free n)
    move_wired {x = x} (routes {a = a} {room = room} f o) p q v n =
        let z = asked_word h a room f o in
        subst (λ (l : List _). Wired sent x (sending w l) es) (sym z) (word_wired sent h a room s f o w es n (rw z at q))
    move_wired (memories {i = i} {s = r} c u f _ o l y d) p q v n = memory_wired sent h w es i r c f s (open_missing _ _ o) p v u l y d
    move_wired (configs {i = i} {s = r} c u f _ o l y d) p q v n = config_wired sent h w es i r c f s (open_missing _ _ o) p v u l
    move_wired ticks p q v n =
        let y = held (core_in (with_ticks (next_tick h.bridge.core.ticks) h.bridge.core) h.bridge) h.store in
        time_wired sent y (omega (arith, s.sizes)) (same_wired sent (λ t. refl) refl n)
    move_wired (drops l) p q v n = bare_wired sent w.count n.labels.future (λ t. same_missing ((drop_loses h s.sizes).tag t))
    move_wired (links true o) p q v n = same_wired sent (λ t. refl) refl n
    move_wired (links false (inl o)) p q v n = no_way (sym o)
    move_wired (links false (inr o)) p q v n = bare_wired sent w.count n.labels.future (s.down o).1
    move_wired (releases {k = k} r) p q v n = let z = release_tags k h.bridge s.sizes in same_wired sent z.0 z.1 n

  pub step_wired : (h : Held) (e : Event) (w : Wire) (es : List Event) → Sound h → Along sent h w (e ∷ es) → Wired sent h w (e ∷ es) → Wired sent (step h e).after (wire_after w h e) es
  step_wired h e w es s a v = move_wired h w es s (moves h e s.room) a.0 a.1 v (wired_later sent h w e es v)

  -- ---- at a point of a list

  pub record Reached (h : Held) (n : ℕ) (es : List Event) : Type 0 where
    pub wire : Wire
    pub sound : Sound h
    pub wired : Wired sent h wire es
    pub along : Along sent h wire es
    pub count : wire.count ≡ n

  dropping_count : (e : Event) (w : Wire) → (dropping e w).count ≡ w.count
  dropping_count (event.call c) w = refl
  dropping_count (event.completion i r) w = refl
  dropping_count event.tick w = refl
  dropping_count (event.link true) w = refl
  dropping_count (event.link false) w = refl

  pub reach : (ds es : List Event) (h : Held) (w : Wire) → Sound h → Wired sent h w (ds ++ es) → Along sent h w (ds ++ es) → Reached (run h ds) (w.count + requests h ds) es
  reach [] es h w s v a = record { wire = w; sound = s; wired = v; along = a; count = sym (add-zero w.count) }
  reach (d ∷ ds) es h w s v a =
      let r = reach ds es (step h d).after (wire_after w h d) (sound_step h d s) (step_wired h d w (ds ++ es) s a v) a.2 in
      record { wire = r.wire; sound = r.sound; wired = r.wired; along = r.along; count = omega (arith, r.count, sending_count (asked h d) (dropping d w), dropping_count d w) }

  pub reach_start : (s : Settings) (store : List ℕ) → store_size ≤ length store → (ds es : List Event) → FarSide sent (start s store) (ds ++ es) → Reached (run (start s store) ds) (requests (start s store) ds) es
  reach_start s store l ds es f =
      let z : 0 + requests (start s store) ds ≡ requests (start s store) ds = omega arith in
      rw z at (reach ds es (start s store) wire0 (run_sound s store l []) (bare_wired sent 0 (λ i o. f.order i) (new_is_fresh s).missing) f.along)
