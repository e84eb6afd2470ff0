-- The second claim: a read is answered OKAY if good completions for all its bytes came before the T-th tick and any drop; so is
-- a routed configuration access, and a local one at once.
use Prim.Native.Nat.{ℕ, ◌+◌, ◌≤◌, ◌<◌}
use mathlib.Core.Path.{◌≡◌, refl, sym, ap, ◌∙◌, subst}
use mathlib.Core.List.{List, [], ◌∷◌}
use mathlib.Core.Bool.{Bool, true, false}
use native.Mathlib.Omega.{arith}
use native.Mathlib.Decide.{dec_lt}
use lib.Dec.{eqb}
use lib.ListN.{length}
use Rattle.address.specs.declared.Settings.{Settings}
use Rattle.burst.specs.declared.Burst.{Burst}
use Rattle.parts.specs.Cores.{Core}
use Rattle.parts.specs.declared.ConfigSlot.{ConfigSlot}
use Rattle.machine.specs.State.{Bridge, failure_of, free_slot, config_write, response_of}
use Rattle.machine.specs.Memory.{pieces_of, piece_of, read_refusal, read_bridge}
use Rattle.machine.specs.Config.{Access, route_of, goes_out, config_refusal, local_bridge, routed_bridge, word_pending}
use Rattle.machine.specs.Completions.{Held, held}
use Rattle.machine.specs.Take.{state_of}
use Rattle.bridge_laws.proofs.TakeLaws.{release_responds}
use Rattle.machine.proofs.Judging.{never}
use Rattle.machine.proofs.Refusals.{read_ok}
use Rattle.bridge_laws.proofs.Parts.{same_missing, same_kind, same_cause}
use Rattle.bridge_laws.proofs.Cores.{local_core_lem}
use Rattle.trace.specs.Events as event
use Rattle.trace.specs.Events.{Call, Event, called, step, run, start}
use Rattle.trace.specs.FarSide.{requests, Wire, wire_after, paired, Along}
use Rattle.trace.specs.Claims.{AnsweredOkay, Until, is_tick, ticks, Steady, good_bytes, any_good_word, ReadOkay, ConfigOkay, LocalOkay}
use Rattle.trace.specs.Sound.{Sound}
use Rattle.trace.proofs.Soundness.View.{moves}
use Rattle.trace.proofs.Soundness.Sound.{run_sound}
use Rattle.trace.proofs.Tags.Wire.{Wired}
use Rattle.trace.proofs.Tags.Wired.{step_wired, Reached, reach_start}
use Rattle.trace.proofs.Deadline.Spares.{OpenFor}
use Rattle.trace.proofs.Deadline.Calls.{by_read, keeps, opens, read_newer, routes_acts, routed_newer}
use Rattle.trace.proofs.Deadline.Deadline.{one_open, Waits, young, same_limit, until, finished_answered, read_waits, routed_waits, by_route, local_done}
use Rattle.trace.proofs.Okay.Asks.{read_numbers, routed_number}
use Rattle.trace.proofs.Okay.Due.{Clean, On, move_on}

-- a finished access with the right answer so far is OKAY
read_answer : (k : ℕ) → k < 8 → (h : Held) → Sound h → state_of h.bridge k ≡ 2 → failure_of h.bridge k ≡ 0 → AnsweredOkay k h
unfolding response_of
read_answer k l h v s c =
    let a = finished_answered k h v s in
    record { answered = a; okay = (release_responds h.bridge (length h.store) k a).0 l ∙ ap response_of c }

config_answer_lem : (h : Held) → Sound h → state_of h.bridge 8 ≡ 2 → h.bridge.core.config.response ≡ 0 → AnsweredOkay 8 h
unfolding response_of
config_answer_lem h v s c =
    let a = finished_answered 8 h v s in
    record { answered = a; okay = (release_responds h.bridge (length h.store) 8 a).1 refl ∙ ap response_of c }

-- ---- along a list with fewer ticks than the limit, in which the link stays

module _ (sent : ℕ → List (List ℕ)) (k r : ℕ) (small : k ≤ 8) where
  answer : (h : Held) → Sound h → state_of h.bridge k ≡ 2 → Clean k r h.bridge → AnsweredOkay k h
  answer h v s c = by (dec_lt k 8)
    where
      by : Dec (k < 8) → AnsweredOkay k h
      by (yes l) = read_answer k l h v s (c.read l)
      by (no l) =
          let z : k ≡ 8 = omega (arith, l) in
          subst (λ j. AnsweredOkay j h) (sym z) (config_answer_lem h v (subst (λ j. state_of h.bridge j ≡ 2) z s) (c.config z))

  -- an access of age c gets what is due, in time
  record Early (c : ℕ) (h : Held) (es : List Event) : Type 0 where
    wire : Wire
    wired : Wired sent h wire es
    along : Along sent h wire es
    steady : Steady es
    soon : c + ticks es < h.bridge.settings.limit
    on : On k r h.bridge wire es

  -- something is due to its open tag
  some : (c : ℕ) (h : Held) → Waits k c h → Early c h [] → ⊥
  some c h w i = let (t, o) = one_open h k w.sound w.opens in by t o (dec_lt k 8)
    where
      by : (t : ℕ) → OpenFor h.bridge k t → Dec (k < 8) → ⊥
      by t o (yes l) = o.0 (sym ((i.on.due t o).bytes l))
      by t o (no l) = never (sym ((i.on.due t o).word (omega (arith, l))))

  early_on : (c : ℕ) (h : Held) (e : Event) (es : List Event) → Waits k c h → Early c h (e ∷ es) → Early (c + is_tick e) (step h e).after es
  early_on c h e es w i = record {
    wire = wire_after i.wire h e;
    wired = step_wired sent h e i.wire es w.sound i.along i.wired;
    along = i.along.2;
    steady = i.steady.1;
    soon = omega (arith, i.soon, same_limit e w);
    on = move_on k r sent h i.wire es small w.sound e (moves h e w.sound.room) i.wired i.along.0 i.steady.0 w.opens (λ z. young w (omega (arith, i.soon))) i.on;
  }

  -- it begins with a call
  abbrev Starts : Held → Wire → List Event → Bridge → Type 0
  Starts h w during x = Waits k 0 (held x h.store) × (x.settings ≡ h.bridge.settings) × On k r x w during

  answers_okay : (h : Held) (c : Call) (during : List Event) (n : ℕ) (g : Reached sent h n (event.call c ∷ during)) → Starts h (wire_after g.wire h (event.call c)) during (called h c).bridge
      → ticks during < h.bridge.settings.limit → Steady during → Until (AnsweredOkay k) k (step h (event.call c)).after during
  answers_okay h c during n g p l y =
      until k (AnsweredOkay k) Early some early_on (λ c h es v z i. answer h v z i.on.clean) during p.0
      (record {
        wire = wire_after g.wire h (event.call c);
        wired = step_wired sent h (event.call c) g.wire during g.sound g.along g.wired;
        along = g.along.2;
        steady = y;
        soon = omega (arith, l, ap (λ (s : Settings). s.limit) p.1);
        on = p.2;
      })

-- ---- reads

-- the good bytes of its pieces are due to its tags
read_on : (sent : ℕ → List (List ℕ)) (h : Held) (q : Burst) (room : ℕ) → Sound h → read_refusal h.bridge q room ≡ 0 → (w : Wire) (during : List Event)
    → ((j : ℕ) → j < pieces_of h.bridge.settings.reads q
    → good_bytes h.bridge.settings.requester (paired (w.count + j) during) ≡ (piece_of h.bridge.settings.reads q j).length)
    → On (free_slot h.bridge) h.bridge.settings.requester (read_bridge h.bridge q) (wire_after w h (event.call (event.read q room))) during
read_on sent h q room v e w during f =
    let l = (read_ok h.bridge q room e).slot in
    let p = opens h q room v e in
    record {
      clean = record { requester = ap (λ (s : Settings). s.requester) (keeps h q room v e).settings; read = λ n. same_cause p.slot; config = λ z. absurd (omega arith) };
      due = λ t o.
          let (j, i, z) = read_newer h q room v e t o in
          record { bytes = λ n. rw (z, read_numbers sent h q room v e w j i, same_missing (p.tag j i)) (f j i); word = λ n. absurd (omega arith) };
    }

pub read_okay : ReadOkay
read_okay s store l sent before q room during far e t y f =
    let h = run (start s store) before in
    let g = reach_start sent s store l before (event.call (event.read q room) ∷ during) far in
    let v = g.sound in
    let k = free_slot h.bridge in
    let r = h.bridge.settings.requester in
    let m = (read_ok h.bridge q room e).slot in
    answers_okay sent k r (omega arith) h (event.read q room) during (requests (start s store) before) g
    (by_read h q room v e (Starts sent k r (omega arith) h (wire_after g.wire h (event.call (event.read q room))) during)
    (read_waits h q room v e, (keeps h q room v e).settings, read_on sent h q room v e g.wire during (λ j i. rw g.count (f j i)))) t y

-- ---- configuration accesses

pub local_okay : LocalOkay
local_okay s store l before a room e g =
    let h = run (start s store) before in
    let v = run_sound s store l before in
    by_route h a room v e (λ x. AnsweredOkay 8 (held x h.store))
    (λ w r u. config_answer_lem (held (local_bridge h.bridge a w) h.store) u (local_done h.bridge a w) (ap (λ (y : ConfigSlot). y.response) (local_core_lem h.bridge.core a w).config))
    (λ o u. never (sym o ∙ g))

-- the kind of an access says whether it is a write
kind_write : (w : Bool) → eqb (word_pending w).kind config_write ≡ w
kind_write true = refl
kind_write false = refl

-- a good completion is due to its tag
config_on : (h : Held) (a : Access) (room : ℕ) → Sound h → config_refusal h.bridge a room ≡ 0 → goes_out (route_of h.bridge a) ≡ true → (w : Wire) (during : List Event)
    → any_good_word h.bridge.settings.requester a.write (paired w.count during) ≡ true
    → On 8 h.bridge.settings.requester (routed_bridge h.bridge a) (wire_after w h (event.call (event.config a room))) during
config_on h a room v e out w during f =
    let p = routes_acts h a room v e out 8 in
    record {
      clean = record { requester = ap (λ (s : Settings). s.requester) p.settings; read = λ n. absurd (omega arith); config = λ z. ap (λ (c : Core). c.config.response) p.core };
      due = λ t o. record {
        bytes = λ n. absurd (omega arith);
        word = λ n. rw (routed_newer h a room v e out t o, same_kind p.tag, kind_write a.write, routed_number h a room e out w) f;
      };
    }

pub config_okay : ConfigOkay
config_okay s store l sent before a room during far e out t y f =
    let h = run (start s store) before in
    let g = reach_start sent s store l before (event.call (event.config a room) ∷ during) far in
    let v = g.sound in
    let r = h.bridge.settings.requester in
    answers_okay sent 8 r (omega arith) h (event.config a room) during (requests (start s store) before) g
    (by_route h a room v e (Starts sent 8 r (omega arith) h (wire_after g.wire h (event.call (event.config a room))) during) (λ j z u. never (sym out ∙ ap goes_out z))
    (λ o u. (routed_waits h a room v e o u, (routes_acts h a room v e o 8).settings, config_on h a room v e o g.wire during (rw g.count f)))) t y
