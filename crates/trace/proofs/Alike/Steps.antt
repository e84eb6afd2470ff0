-- Each event, in two bridges alike: it shows the same, and they stay alike.
use Prim.Native.Nat.{ℕ}
use mathlib.Core.Path.{◌≡◌, refl, ap, subst}
use mathlib.Core.List.{List, []}
use mathlib.Core.Bool.{Bool, true, false, cond}
use lib.ListN.{length}
use lib.Dec.{eqb}
use borrow.Author.Tests.{eqb-true, le-ltb}
use Rattle.address.specs.declared.Settings.{Settings}
use Rattle.ecam.specs.Route.{Route, OutOfRange, Local, Type0, Type1, NotRouted, DeviceNotZero}
use Rattle.machine.specs.State.{Answered, refusal_change, refused, answered}
use Rattle.machine.specs.Memory.{read_step, write_bytes, write_step}
use Rattle.machine.specs.Config.{Access, route_of, goes_out, local_core, config_refusal, config_bridge, config_step}
use Rattle.machine.specs.Completions.{store_size, Held, held, plain}
use Rattle.machine.specs.Ticks.{store_refusal}
use Rattle.ecam.specs.Registers.{Registers, messaged}
use Rattle.parts.specs.Cores.{with_registers}
use Rattle.machine.specs.Messages.{message_number, message_step}
use Rattle.machine.specs.Take.{release_step}
use Rattle.machine.proofs.Configs.{passed}
use Rattle.trace.specs.Events.{Call, read, write, config, look, release, message, Event, call, completion, tick, link, called, sent_by, step}
use Rattle.trace.specs.Claims.{answer_apart}
use Rattle.trace.specs.Sound.{Sound}
use Rattle.trace.proofs.Alike.Twin.{refused_cores, local_cores, message_cores}
use Rattle.trace.proofs.Alike.Stores.{Pair, core_pair}
use Rattle.trace.proofs.Alike.Times.{ticked_pair}
use Rattle.trace.proofs.Alike.Link.{linked_pair}
use Rattle.trace.proofs.Alike.Completions.{complete_same, completed_pair}
use Rattle.trace.proofs.Alike.Reads.{slot_same, read_pair, routed_pair, freed_pair}
use Rattle.trace.proofs.Alike.Answers.{read_same, write_same, route_same, config_same, config_bytes_lem, read_bytes_lem, take_same, given_same, looked_same}

pub record Next (h g : Held) (e : Event) : Type 0 where
  pub answer : answer_apart (step h e).out.answer ≡ answer_apart (step g e).out.answer
  pub sent : (step h e).out.sent ≡ (step g e).out.sent
  pub part : (step h e).out.part ≡ (step g e).out.part
  pub pair : Pair (step h e).after (step g e).after

-- ---- calls

module _ {h g : Held} (v : Sound h) (p : Pair h g) where
  -- the two answer alike but for the session number, send the same and stay alike
  record Both (a b : Answered) (s r : List ℕ) : Type 0 where
    answer : answer_apart a.answer ≡ answer_apart b.answer
    sent : s ≡ r
    pair : Pair (held a.bridge h.store) (held b.bridge g.store)

  -- by the number: accepted in both or refused in both
  by_number : (n m : ℕ) (a b : Answered) (s r : List ℕ) → n ≡ m → (n ≡ 0 → Both a b s r)
      → Both (cond (eqb n 0) a (refused n h.bridge)) (cond (eqb m 0) b (refused m g.bridge)) (sent_by n s) (sent_by m r)
  unfolding refused
  by_number n m a b s r e f =
      subst (λ m. Both (cond (eqb n 0) a (refused n h.bridge)) (cond (eqb m 0) b (refused m g.bridge)) (sent_by n s) (sent_by m r)) e (by (eqb n 0) refl)
    where
      by : (z : Bool) → eqb n 0 ≡ z → Both (cond z a (refused n h.bridge)) (cond z b (refused n g.bridge)) (cond z s []) (cond z r [])
      by true z = f (eqb-true _ _ z)
      by false z = record { answer = refl; sent = refl; pair = core_pair p (refusal_change n) (refused_cores p.twin.core n) }

  config_pair : (a : Access) (room : ℕ) → config_refusal h.bridge a room ≡ 0 → (r : Route) → route_of h.bridge a ≡ r
      → Pair (held (config_bridge h.bridge a r) h.store) (held (config_bridge g.bridge a r) g.store)
  config_pair a room e OutOfRange z = p
  config_pair a room e (Local w) z = core_pair p (λ c. local_core c a w) (local_cores p.twin.core a w)
  config_pair a room e Type0 z = routed_pair a v p ((passed h.bridge.core (route_of h.bridge a) room e).tag (ap goes_out z))
  config_pair a room e Type1 z = routed_pair a v p ((passed h.bridge.core (route_of h.bridge a) room e).tag (ap goes_out z))
  config_pair a room e NotRouted z = p
  config_pair a room e DeviceNotZero z = p

  call_both : (c : Call) → Both (answered (called h c).bridge (called h c).out.answer) (answered (called g c).bridge (called g c).out.answer)
      (called h c).out.sent (called g c).out.sent
  unfolding read_step write_step config_step release_step message_step
  call_both (read q room) =
      by_number _ _ _ _ _ _ (read_same p.twin q room)
      (λ e.
      let k = slot_same p.twin in
      let s = read_bytes_lem p.twin q room v.right e in
      record { answer = cc; sent = s; pair = read_pair q room v p e })
  call_both (write q bytes room) =
      let s : write_bytes h.bridge.settings q bytes room ≡ write_bytes g.bridge.settings q bytes room = ap (λ (s : Settings). write_bytes s q bytes room) p.twin.settings in
      by_number _ _ _ _ _ _ (write_same p.twin q (length bytes) room) (λ e. record { answer = cc; sent = s; pair = p })
  call_both (config a room) =
      let s = config_bytes_lem p.twin a in
      by_number _ _ _ _ _ _ (config_same p.twin a room)
      (λ e. record {
        answer = cc;
        sent = s;
        pair = subst (λ r. Pair (held (config_bridge h.bridge a (route_of h.bridge a)) h.store) (held (config_bridge g.bridge a r) g.store))
            (route_same p.twin a) (config_pair a room e (route_of h.bridge a) refl);
      })
  call_both (look k) = record { answer = ap (λ (n : ℕ). answer_apart (plain n)) (take_same p k); sent = refl; pair = p }
  call_both (release k) =
      let b = by_number _ _ _ _ [] [] (take_same p k) (λ e. record { answer = given_same p k e; sent = refl; pair = freed_pair k p }) in
      record { answer = b.answer; sent = refl; pair = b.pair }
  call_both (message m) =
      let b =
      by_number _ _ _ _ [] [] (ap (λ (r : Registers). message_number r m) p.twin.core.registers)
      (λ e. record {
        answer = refl;
        sent = refl;
        pair = core_pair p (λ c. with_registers (messaged c.registers m) c) (message_cores p.twin.core m);
      }) in
      record { answer = b.answer; sent = refl; pair = b.pair }

  part_same : (c : Call) → (called h c).out.part ≡ (called g c).out.part
  part_same (read q room) = refl
  part_same (write q bytes room) = refl
  part_same (config a room) = refl
  part_same (look k) = looked_same p k
  part_same (release k) = refl
  part_same (message m) = refl

  -- ---- any event

  long_enough : store_refusal (length h.store) ≡ store_refusal (length g.store)
  long_enough = rw (le-ltb (length h.store) store_size p.early, le-ltb (length g.store) store_size p.late)

  pub next : (e : Event) → Next h g e
  next (call c) = let b = call_both c in record { answer = b.answer; sent = b.sent; part = part_same c; pair = b.pair }
  next (completion i s) = record { answer = λ j. answer_apart (plain (complete_same p s j)); sent = refl; part = refl; pair = completed_pair h g s v p }
  next tick = record { answer = λ j. answer_apart (plain (long_enough j)); sent = refl; part = refl; pair = ticked_pair h g v p }
  next (link up) = record { answer = λ j. answer_apart (plain (long_enough j)); sent = refl; part = refl; pair = linked_pair p up }
