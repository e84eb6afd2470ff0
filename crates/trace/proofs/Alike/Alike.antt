-- The third claim of demand 3: two bridges alike.
use Prim.Native.Nat.{ℕ, ◌-◌, ◌^◌, ◌<◌}
use mathlib.Core.Path.{◌≡◌, refl, sym, ◌∙◌, subst}
use mathlib.Core.List.{List, [], ◌∷◌, map}
use native.Mathlib.Omega.{arith}
use Rattle.machine.specs.State.{slot_state, tag_count, slot_count, registers_of}
use Rattle.machine.specs.Completions.{Held}
use Rattle.trace.specs.Events.{Event, step, seen}
use Rattle.trace.specs.Sound.{Sound}
use Rattle.trace.specs.Claims.{Left, seen_apart, Alike}
use Rattle.trace.proofs.Soundness.Fine.{state_below, state_config}
use Rattle.trace.proofs.Soundness.Sound.{sound_step, run_sound}
use Rattle.trace.proofs.Alike.Twin.{unused}
use Rattle.trace.proofs.Alike.Stores.{Pair}
use Rattle.trace.proofs.Alike.Steps.{next}

-- ---- two bridges left with the link down and every answer taken are alike: no tag is open, no slot in use

left_sound : (x : Held) → Left x → Sound x
left_sound x p = subst Sound (sym p.came) (run_sound p.settings p.store p.long p.events)

left_free : (x : Held) → Left x → x.bridge.core.free ≡ 2 ^ tag_count - 1
left_free x p = ((left_sound x p).down p.down).0

left_slot : (x : Held) → Left x → (k : ℕ) → k < slot_count → slot_state x.bridge k ≡ 0
left_slot x p k l = sym (state_below x.bridge k l) ∙ p.taken k (omega arith)

left_config : (x : Held) → Left x → x.bridge.core.config.state ≡ 0
left_config x p = sym (state_config x.bridge) ∙ p.taken 8 (omega arith)

left_pair : {x y : Held} → Left x → Left y → x.bridge.settings ≡ y.bridge.settings → registers_of x.bridge ≡ registers_of y.bridge → Pair x y
left_pair {x} {y} p q s e =
    let a = left_sound x p in
    let b = left_sound y q in
    record {
      twin = record {
        settings = s;
        core = record { early = refl; late = refl; registers = e; free = left_free x p ∙ sym (left_free y q); config = unused (left_config x p) (left_config y q) };
        tags = λ t. unused ((a.down p.down).1 t) ((b.down q.down).1 t);
        slots = λ k l. unused (left_slot x p k l) (left_slot y q k l);
        early = let v = a.sizes in omega arith;
        late = let v = b.sizes in omega arith;
        early_clock = a.clock;
        late_clock = b.clock;
      };
      early = a.room;
      late = b.room;
      bytes = λ k l. record { done = λ z. absurd (omega (arith, left_slot x p k l)); part = λ z. absurd (omega (arith, left_slot x p k l)) };
    }

-- ---- and stay alike

seen_alike : {x y : Held} → Sound x → Pair x y → (later : List Event) → map seen_apart (seen x later) ≡ map seen_apart (seen y later)
seen_alike {x} {y} v p [] = refl
seen_alike {x} {y} v p (e ∷ es) =
    let n = next v p e in
    let l = seen_alike {x = (step x e).after} {y = (step y e).after} (sound_step x e v) n.pair es in
    λ i. record {
      out = record { answer = n.answer i; sent = n.sent i; part = n.part i };
      registers = n.pair.twin.core.registers i;
    }
    ∷ l i

pub alike : Alike
alike x y p q s e later = seen_alike (left_sound x p) (left_pair p q s e) later
