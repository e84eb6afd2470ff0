-- What every run's registers keep: a step raises a decode bit, moves the link, writes a local word or takes a message.
use Prim.Native.Nat.{ℕ, suc, ◌-◌, ◌%◌, ◌^◌}
use mathlib.Core.Path.{◌≡◌, refl, sym, ap, subst}
use mathlib.Core.List.{List, [], ◌∷◌}
use mathlib.Core.Bool.{Bool, true, false, cond, not, ◌&&◌}
use lib.ListN.{length, drop}
use lib.Dec.{eqb, ltb}
use native.Mathlib.Omega.{arith}
use borrow.Author.Tests.{eqb-true}
use Rattle.address.specs.declared.Settings.{Settings}
use Rattle.address.specs.Settings.{settings_number}
use Rattle.verdict.specs.declared.Verdict.{Verdict}
use Rattle.ecam.specs.Route.{Route, OutOfRange, Local, Type0, Type1, NotRouted, DeviceNotZero}
use Rattle.ecam.specs.Registers.{local_write}
use Rattle.ecam.specs.Laws.{Held as Kept}
use Rattle.ecam.proofs.Keeps.{fresh_held, write_held, raise_held, message_held}
use Rattle.refusals.specs.Table.{Change, keeps, sets, change_of}
use Rattle.parts.specs.Cores.{Core}
use Rattle.parts.specs.Answers.{changed}
use Rattle.common.specs.Decode.{link_down_bit}
use Rattle.machine.specs.State.{Bridge, Answered, tag_count, core_in, with_ticks, with_free, with_config, slverr, missing_of, place_of, owner_of, raised_core, refusal_change, refused, fresh_core, fresh_bridge, new_bridge}
use Rattle.machine.specs.Memory.{read_refusal, read_step, write_refusal, write_step}
use Rattle.machine.specs.Config.{Access, route_of, goes_out, config_refusal, local_core, config_bridge, config_step}
use Rattle.machine.specs.Completions.{Held, held, store_size, config_done}
use Rattle.machine.specs.Ticks.{next_tick, link_in, drop_config, ticked, linked}
use Rattle.machine.specs.Take.{take_refusal, release_step}
use Rattle.machine.specs.Messages.{message_refusal, message_step}
use Rattle.bridge_laws.specs.MemoryLaws.{Tables}
use Rattle.bridge_laws.specs.Effects.{Serves, good_part, good_last, poison_part, poison_last, fails, Expires}
use Rattle.bridge_laws.specs.Effects as effects
use Rattle.bridge_laws.specs.CompletionLaws.{Came, short, malformed, lost, memory, config}
use Rattle.bridge_laws.proofs.Coming.{came_one_way}
use Rattle.bridge_laws.proofs.Kept.{accepted_read_keeps}
use Rattle.bridge_laws.proofs.Serving.{memory_serves, config_serves, routed_acts, timed_out_expires}
use Rattle.bridge_laws.proofs.Dropping.{drop_loses}
use Rattle.bridge_laws.proofs.TakeLaws.{release_frees}
use Rattle.bridge_laws.proofs.Turns.{each_tag}
use Rattle.trace.specs.Events.{Call, called, Event, step, run, start}
use Rattle.trace.specs.Events as event
use Rattle.trace.specs.Sound.{Sound}
use Rattle.trace.specs.Registers.{RunKeeps}
use Rattle.machine.proofs.Configs.{passed}
use Rattle.trace.proofs.Soundness.Cases.{by_test}
use Rattle.trace.proofs.Soundness.Fine.{tag_below}
use Rattle.trace.proofs.Soundness.Ticking.{test_open}
use Rattle.trace.proofs.Soundness.Sound.{sound_step, run_sound}

-- the core's registers
abbrev K : Core → Type 0
K c = Kept c.registers

-- ---- on the core

raised_kept : (i : ℕ) (c : Core) → K c → K (raised_core i c)
unfolding raised_core
raised_kept i c k = raise_held c.registers i k

changed_kept : (x : Change) (c : Core) → K c → K (changed x c)
changed_kept keeps c k = k
changed_kept (sets i) c k = raised_kept i c k

refused_kept : (n : ℕ) (b : Bridge) → K b.core → K (refused n b).bridge.core
unfolding refused refusal_change
refused_kept n b k = changed_kept (change_of n) b.core k

link_kept : (up : Bool) (c : Core) → K c → K (link_in up c)
link_kept up c k =
    record {
      primary = k.primary;
      secondary = k.secondary;
      subordinate = k.subordinate;
      decode = k.decode;
      mask = k.mask;
      errors = k.errors;
    }

local_kept : (c : Core) (a : Access) (w : ℕ) → K c → K (local_core c a w)
unfolding local_core
local_kept c a w k = by a.write
  where
    by : (z : Bool) → Kept (cond z (local_write c.registers w a.strobes a.word) c.registers)
    by true = write_held c.registers w a.strobes a.word k
    by false = k

release_kept : (h : Held) (j : ℕ) → K h.bridge.core → K (release_step h.bridge (length h.store) j).bridge.core
release_kept h j k = by (eqb (take_refusal h.bridge (length h.store) j) 0) refl
  where
    by : (z : Bool) → eqb (take_refusal h.bridge (length h.store) j) 0 ≡ z → K (release_step h.bridge (length h.store) j).bridge.core
    by true e = subst (λ (x : Bridge). K x.core) (sym (release_frees h.bridge (length h.store) j (eqb-true _ _ e)).rest) k
    by false e = unfold release_step in rw e (refused_kept (take_refusal h.bridge (length h.store) j) h.bridge k)

-- ---- calls

-- a call is accepted, with the number 0, or refused
judged : (b : Bridge) (n : ℕ) (a : Answered) → K b.core → (n ≡ 0 → K a.bridge.core) → K (cond (eqb n 0) a (refused n b)).bridge.core
judged b n a k p =
    by_test (λ (r : Answered). K r.bridge.core) (eqb n 0) (λ f. p (eqb-true _ _ f)) (λ f. refused_kept n b k)

route_kept : (b : Bridge) (a : Access) (room : ℕ) → Tables b → K b.core → config_refusal b a room ≡ 0 → (x : Route) → route_of b a ≡ x
    → K (config_bridge b a x).core
route_kept b a room t k e OutOfRange z = k
route_kept b a room t k e (Local w) z = local_kept b.core a w k
route_kept b a room t k e Type0 z = subst K (sym (routed_acts b a 8 t ((passed b.core (route_of b a) room e).tag (ap goes_out z))).core) k
route_kept b a room t k e Type1 z = subst K (sym (routed_acts b a 8 t ((passed b.core (route_of b a) room e).tag (ap goes_out z))).core) k
route_kept b a room t k e NotRouted z = k
route_kept b a room t k e DeviceNotZero z = k

call_kept : (h : Held) (c : Call) → Tables h.bridge → K h.bridge.core → K (called h c).bridge.core
unfolding read_step write_step config_step message_step
call_kept h (event.read q room) t k =
    judged h.bridge (read_refusal h.bridge q room) _ k (λ e. subst Kept (sym (accepted_read_keeps h.bridge q room e).registers) k)
call_kept h (event.write q bytes room) t k = judged h.bridge (write_refusal h.bridge q (length bytes) room) _ k (λ e. k)
call_kept h (event.config a room) t k =
    judged h.bridge (config_refusal h.bridge a room) _ k (λ e. route_kept h.bridge a room t k e (route_of h.bridge a) refl)
call_kept h (event.look j) t k = k
call_kept h (event.release j) t k = release_kept h j k
call_kept h (event.message m) t k =
    judged h.bridge (message_refusal h.bridge m) _ k (λ e. message_held h.bridge.core.registers m k)

-- ---- completions

serves_kept : {t j skip : ℕ} {payload : List ℕ} {h x : Held} {v : Verdict} → Serves t j skip payload h x v → K h.bridge.core → K x.bridge.core
serves_kept {h = h} (good_part n l a s) k = subst K (sym a.core) k
serves_kept {h = h} (good_last n l a s) k = subst K (sym a.core) k
serves_kept {h = h} (poison_part n l a s) k = subst K (sym a.core) (raised_kept _ h.bridge.core k)
serves_kept {h = h} (poison_last n l a s) k = subst K (sym a.core) (raised_kept _ h.bridge.core k)
serves_kept {h = h} (fails why a s) k = subst K (sym a.core) (raised_kept _ h.bridge.core k)

came_kept : {h : Held} {s : List ℕ} {x : Held} {n : ℕ} → Came h s x n → Tables h.bridge → K h.bridge.core → K x.bridge.core
came_kept (short e) t k = k
came_kept (malformed a e) t k = k
came_kept {h} (lost c a e f) t k = raised_kept 21 h.bridge.core k
came_kept {h} {s} (memory c v a e r o w f u) t k =
    let m = tag_below h.bridge c.tag t (test_open (missing_of h.bridge c.tag) (place_of h.bridge c.tag) o) in
    serves_kept (memory_serves h c.tag (owner_of h.bridge c.tag) (c.lower % 4) (drop 12 s) v t m w u) k
came_kept {h} {s} (config c v a e r o w f u) t k =
    let m = tag_below h.bridge c.tag t (test_open (missing_of h.bridge c.tag) (place_of h.bridge c.tag) o) in
    subst K (sym (config_serves h.bridge c.tag 8 (drop 12 s) v t m).core) k

-- ---- ticks and the link

-- what a tick's turns keep
record Turn (n : ℕ) (x : Held) : Type 0 where
  tables : Tables x.bridge
  kept : K x.bridge.core

expires_turn : {t : ℕ} {h x : Held} → Expires t h x → Turn t h → Turn (suc t) x
expires_turn {h = h} (effects.memory l a s) p =
    record { tables = a.tables; kept = subst K (sym a.core) (raised_kept _ h.bridge.core p.kept) }
expires_turn {h = h} (effects.config l a s) p =
    record { tables = (a 8).tables; kept = subst K (sym (a 8).core) (raised_kept _ (with_config (config_done h.bridge.core.config slverr 0) h.bridge.core) p.kept) }

tick_kept : (h : Held) → Tables h.bridge → K h.bridge.core → K (ticked h).bridge.core
unfolding ticked
tick_kept h t k =
    by_test (λ (x : Held). K x.bridge.core) (ltb (length h.store) store_size) (λ e. k)
    (λ e.
    (each_tag Turn (held (core_in (with_ticks (next_tick h.bridge.core.ticks) h.bridge.core) h.bridge) h.store)
    (record { tables = let z = t in omega arith; kept = k })
    (λ n x l o p. record { tables = p.tables; kept = p.kept })
    (λ n x l o p. expires_turn (timed_out_expires x n p.tables l) p)).kept)

linked_kept : (up : Bool) (h : Held) → Tables h.bridge → K h.bridge.core → K (linked up h).bridge.core
unfolding linked
linked_kept up h t k =
    let left : Core = with_free (2 ^ tag_count - 1) (with_config (drop_config h.bridge.core.config) h.bridge.core) in
    by_test (λ (x : Held). K x.bridge.core) (ltb (length h.store) store_size) (λ e. k)
    (λ e.
    by_test (λ (x : Held). K x.bridge.core) (not up && h.bridge.core.registers.link)
    (λ f. subst K (sym (drop_loses h t).core) (raised_kept link_down_bit (link_in false left) (link_kept false left k)))
    (λ f. link_kept up h.bridge.core k))

-- ---- any event, and lists

step_kept : (h : Held) (e : Event) → Tables h.bridge → K h.bridge.core → K (step h e).after.bridge.core
step_kept h (event.call c) t k = call_kept h c t k
step_kept h (event.completion i s) t k = came_kept (came_one_way h s) t k
step_kept h event.tick t k = tick_kept h t k
step_kept h (event.link up) t k = linked_kept up h t k

run_kept : (h : Held) (es : List Event) → Sound h → K h.bridge.core → K (run h es).bridge.core
run_kept h [] v k = k
run_kept h (e ∷ es) v k = run_kept (step h e).after es (sound_step h e v) (step_kept h e v.sizes k)

start_kept : (s : Settings) (store : List ℕ) → K (start s store).bridge.core
unfolding new_bridge refused refusal_change fresh_bridge fresh_core
start_kept s store = by_test (λ (a : Answered). K a.bridge.core) (eqb (settings_number s) 0) (λ e. fresh_held) (λ e. fresh_held)

pub run_keeps : RunKeeps
run_keeps s store l es = run_kept (start s store) es (run_sound s store l []) (start_kept s store)
