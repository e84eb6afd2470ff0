-- The cases of `step`, each stated by the machine's own definitions, with the tests that lead to it.
use Prim.Native.Nat.{ℕ, ◌%◌, ◌≤◌, ◌<◌}
use mathlib.Core.Path.{◌≡◌, refl, sym, ap, ◌∙◌, subst}
use mathlib.Core.Logic.{◌⊎◌, inl, inr}
use mathlib.Core.List.{List, []}
use mathlib.Core.Bool.{Bool, true, false, cond, not, ◌&&◌}
use lib.ListN.{length, drop}
use lib.Dec.{eqb}
use borrow.Author.Tests.{eqb-true, eqb-false, le-ltb}
use Rattle.std.specs.Prelude.{Ok}
use Rattle.tlp.specs.declared.completion.Completion.{Completion}
use Rattle.ecam.specs.Registers.{Registers, messaged}
use Rattle.ecam.specs.Route.{Route, OutOfRange, Local, Type0, Type1, NotRouted, DeviceNotZero, number_of}
use Rattle.burst.specs.declared.Burst.{Burst}
use Rattle.machine.specs.Bridge.{Bridge}
use Rattle.verdict.specs.declared.Verdict.{Verdict}
use Rattle.verdict.specs.declared.Verdict.TheVariants.{Unexpected}
use Rattle.machine.specs.State.{Answered, tag_count, with_registers, with_ticks, core_in, raised_core, missing_of, owner_of, place_of, is_open, is_write, refusal_change, answered, refused}
use Rattle.machine.specs.Memory.{read_refusal, read_bridge, read_step, write_refusal, write_step}
use Rattle.machine.specs.Config.{Access, route_of, goes_out, config_refusal, local_bridge, routed_bridge, config_bridge, config_step}
use Rattle.machine.specs.Verdict.{memory_verdict, config_verdict}
use Rattle.machine.specs.Completions.{store_size, Held, held, memory_completed, config_completed, next_address, verdict_of, completion_of, is_unexpected, complete_refusal, completed}
use Rattle.machine.specs.Ticks.{next_tick, expire_to, ticked, link_to, link_lost, drop_slots, linked}
use Rattle.machine.specs.Messages.{message_refusal, message_bridge, message_step}
use Rattle.machine.specs.Take.{take_refusal, slot_freed, release_step}
use Rattle.parts.specs.Cores.{Core}
use Rattle.parts.specs.Answers.{Answer}
use native.Mathlib.Omega.{arith}
use Rattle.bridge_laws.specs.CompletionLaws.{Ours, Came, short, malformed, lost, memory, config}
use Rattle.bridge_laws.proofs.Coming.{came_one_way}
use Rattle.bridge_laws.proofs.Cores.{Registered, raised_core_lem, refusal_core}
use Rattle.machine.proofs.Configs.{passed}
use Rattle.trace.specs.Events as event
use Rattle.trace.specs.Events.{Call, Event, called, step}
use Rattle.trace.specs.FarSide.{asked_by}
use Rattle.trace.proofs.Soundness.Cases.{by_test}

-- the bridge with other registers
abbrev pub registered : Held → Registers → Held
registered h r = held (core_in (with_registers r h.bridge.core) h.bridge) h.store

pub data Move (h : Held) : Event → Held → Type 0 where
  -- only registers change, if anything does: a refused call, a write, a look
  idle : {c : Call} (r : Registers) → asked_by h c ≡ [] → r.link ≡ h.bridge.core.registers.link → Move h (event.call c) (registered h r)
  -- a completion that is refused
  missed : {i : ℕ} {s : List ℕ} (r : Registers)
      → ((c : Completion) → completion_of s ≡ Ok c → verdict_of h.bridge c ≡ Unexpected)
      → r.link ≡ h.bridge.core.registers.link
      → Move h (event.completion i s) (registered h r)
  reads : {q : Burst} {room : ℕ} → read_refusal h.bridge q room ≡ 0 → Move h (event.call (event.read q room)) (held (read_bridge h.bridge q) h.store)
  locals : {a : Access} {room : ℕ} (w : ℕ) → config_refusal h.bridge a room ≡ 0 → route_of h.bridge a ≡ Local w → Move h (event.call (event.config a room)) (held (local_bridge h.bridge a w) h.store)
  routes : {a : Access} {room : ℕ} → config_refusal h.bridge a room ≡ 0 → goes_out (route_of h.bridge a) ≡ true → Move h (event.call (event.config a room)) (held (routed_bridge h.bridge a) h.store)
  memories : {i : ℕ} {s : List ℕ} (c : Completion) (v : Verdict)
      → completion_of s ≡ Ok c
      → Ours h.bridge c
      → is_open (missing_of h.bridge c.tag) (place_of h.bridge c.tag) ≡ true
      → owner_of h.bridge c.tag < 8
      → memory_verdict c (missing_of h.bridge c.tag) (next_address h.bridge c.tag) ≡ v
      → is_unexpected v ≡ false
      → Move h (event.completion i s) (memory_completed h c.tag (owner_of h.bridge c.tag) (c.lower % 4) (drop 12 s) v)
  configs : {i : ℕ} {s : List ℕ} (c : Completion) (v : Verdict)
      → completion_of s ≡ Ok c
      → Ours h.bridge c
      → is_open (missing_of h.bridge c.tag) (place_of h.bridge c.tag) ≡ true
      → 8 ≤ owner_of h.bridge c.tag
      → config_verdict c (is_write h.bridge c.tag) ≡ v
      → is_unexpected v ≡ false
      → Move h (event.completion i s) (held (config_completed h.bridge c.tag (drop 12 s) v) h.store)
  ticks : Move h event.tick (expire_to (held (core_in (with_ticks (next_tick h.bridge.core.ticks) h.bridge.core) h.bridge) h.store) tag_count)
  drops : h.bridge.core.registers.link ≡ true → Move h (event.link false) (drop_slots (held (link_lost h.bridge) h.store) 8)
  links : (up : Bool) → (up ≡ true) ⊎ (h.bridge.core.registers.link ≡ false) → Move h (event.link up) (held (core_in (link_to up h.bridge.core) h.bridge) h.store)
  releases : {k : ℕ} → take_refusal h.bridge (length h.store) k ≡ 0 → Move h (event.call (event.release k)) (held (slot_freed k h.bridge) h.store)

-- ---- there is no other case

-- another core, of which only the registers differ
by_registers : (P : Held → Type 0) (h : Held) (c : Core) → Registered h.bridge.core c → P (registered h c.registers) → P (held (core_in c h.bridge) h.store)
by_registers P h c o p = subst (λ z. P (held (core_in z h.bridge) h.store)) (sym o.same) p

-- a call is accepted, with the number 0, or refused
judged : (h : Held) (e : Call) (x : Bridge) (n : ℕ) (a : Answer) → (n ≡ 0 → Move h (event.call e) (held x h.store)) → (eqb n 0 ≡ false → asked_by h e ≡ [])
    → Move h (event.call e) (held (cond (eqb n 0) (answered x a) (refused n h.bridge)).bridge h.store)
unfolding refused
judged h e x n a p q =
    by_test (λ (r : Answered). Move h (event.call e) (held r.bridge h.store)) (eqb n 0) (λ f. p (eqb-true _ _ f))
    (λ f.
    let o = refusal_core n h.bridge.core in
    by_registers (Move h (event.call e)) h (refusal_change n h.bridge.core) o (idle (refusal_change n h.bridge.core).registers (q f) o.link))

route_by : (h : Held) (a : Access) (room : ℕ) → config_refusal h.bridge a room ≡ 0 → (x : Route) → route_of h.bridge a ≡ x
    → Move h (event.call (event.config a room)) (held (config_bridge h.bridge a x) h.store)
route_by h a room e OutOfRange r = absurd (eqb-false 9 0 refl (ap number_of (sym r) ∙ (passed h.bridge.core (route_of h.bridge a) room e).routed))
route_by h a room e (Local w) r = locals w e r
route_by h a room e Type0 r = routes e (ap goes_out r)
route_by h a room e Type1 r = routes e (ap goes_out r)
route_by h a room e NotRouted r = absurd (eqb-false 10 0 refl (ap number_of (sym r) ∙ (passed h.bridge.core (route_of h.bridge a) room e).routed))
route_by h a room e DeviceNotZero r = absurd (eqb-false 11 0 refl (ap number_of (sym r) ∙ (passed h.bridge.core (route_of h.bridge a) room e).routed))

completion_by : (h : Held) (i : ℕ) (s : List ℕ) (x : Held) (n : ℕ) → store_size ≤ length h.store → Came h s x n → Move h (event.completion i s) x
completion_by h i s x n l (short e) = absurd (omega arith)
completion_by h i s x n l (malformed a e) = missed h.bridge.core.registers (λ c (f : completion_of s ≡ Ok c). let z : ◌≡◌ {A = ℕ} 0 1 = cc in absurd (omega arith)) refl
completion_by h i s x n l (lost c a e f) =
    let o = raised_core_lem 21 h.bridge.core in
    by_registers (Move h (event.completion i s)) h (raised_core 21 h.bridge.core) o
    (missed (raised_core 21 h.bridge.core).registers (λ d (g : completion_of s ≡ Ok d). let z : c ≡ d = cc in ap (verdict_of h.bridge) (sym z) ∙ f) o.link)
completion_by h i s x n l (memory c v a e r o w f u) = memories c v e r o w f u
completion_by h i s x n l (config c v a e r o w f u) = configs c v e r o w f u

link_by : (h : Held) (up : Bool) (z : Bool) → h.bridge.core.registers.link ≡ z
    → Move h (event.link up) (cond (not up && z) (drop_slots (held (link_lost h.bridge) h.store) 8) (held (core_in (link_to up h.bridge.core) h.bridge) h.store))
link_by h true z e = links true (inl refl)
link_by h false true e = drops e
link_by h false false e = links false (inr e)

called_by : (h : Held) (c : Call) → Move h (event.call c) (held (called h c).bridge h.store)
unfolding read_step write_step config_step release_step message_step messaged
called_by h (event.read q room) = judged h (event.read q room) (read_bridge h.bridge q) (read_refusal h.bridge q room) _ reads (λ e. rw e)
called_by h (event.write q bytes room) =
    judged h (event.write q bytes room) h.bridge (write_refusal h.bridge q (length bytes) room) _ (λ e. idle h.bridge.core.registers refl refl) (λ e. refl)
called_by h (event.config a room) =
    judged h (event.config a room) (config_bridge h.bridge a (route_of h.bridge a)) (config_refusal h.bridge a room) _
    (λ e. route_by h a room e (route_of h.bridge a) refl) (λ e. rw e)
called_by h (event.look k) = idle h.bridge.core.registers refl refl
called_by h (event.release k) =
    judged h (event.release k) (slot_freed k h.bridge) (take_refusal h.bridge (length h.store) k) _ releases (λ e. refl)
called_by h (event.message m) =
    judged h (event.message m) (message_bridge h.bridge m) (message_refusal h.bridge m) _
    (λ e. idle (messaged h.bridge.core.registers m) refl refl) (λ e. refl)

pub moves : (h : Held) (e : Event) → store_size ≤ length h.store → Move h e (step h e).after
unfolding ticked linked
moves h (event.call c) l = called_by h c
moves h (event.completion i s) l = completion_by h i s (completed h s) (complete_refusal h.bridge (length h.store) s) l (came_one_way h s)
moves h event.tick l = rw (le-ltb _ _ l) ticks
moves h (event.link up) l = rw (le-ltb _ _ l) (link_by h up h.bridge.core.registers.link refl)
