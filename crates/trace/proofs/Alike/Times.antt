-- Two bridges alike stay alike under a tick.
use Prim.Native.Nat.{ℕ, ◌<◌, ◌≤◌}
use mathlib.Core.Path.{◌≡◌, refl, sym, ap, ◌∙◌, subst}
use mathlib.Core.Logic.{◌≢◌}
use mathlib.Core.Bool.{Bool, true, false, cond, ◌&&◌}
use native.Mathlib.Omega.{arith}
use native.Mathlib.Decide.{ℕ_discrete}
use lib.ListN.{length}
use lib.Dec.{eqb, leb}
use borrow.Author.Tests.{le-ltb}
use Rattle.common.proofs.Tests.{and_left}
use Rattle.parts.specs.declared.ConfigSlot.{ConfigSlot}
use Rattle.parts.specs.Cores.{Core}
use Rattle.verdict.specs.declared.Cause.TheVariants.{Timeout}
use Rattle.machine.specs.State.{Bridge, Slot, tag_at, slot_at, missing_of, owner_of, place_of, sent_of, Open, is_open, slot_count, slverr, with_ticks, with_config, core_in, raised_core}
use Rattle.machine.specs.Verdict.{cause_response, cause_bit}
use Rattle.machine.specs.Completions.{store_size, Held, held, config_done}
use Rattle.machine.specs.Ticks.{next_tick, age_of, is_old, ticked}
use Rattle.machine.specs.Take.{state_of}
use Rattle.machine.proofs.Judging.{open_room}
use Rattle.bridge_laws.specs.Rows.{shut_tag, finished_slot, faulted_slot, closed_slot, closed_store, fewer_slot}
use Rattle.bridge_laws.specs.Effects.{Acts, Expires, memory, config}
use Rattle.bridge_laws.proofs.Effects.{timed_out_expires}
use Rattle.bridge_laws.proofs.Parts.{same_missing, same_owner}
use Rattle.bridge_laws.proofs.Cores.{raised_core_lem}
use Rattle.bridge_laws.proofs.BothTurns.{each_tag_both}
use Rattle.trace.specs.Sound.{Sound}
use Rattle.trace.proofs.Soundness.Fine.{owner_open, owner_most, state_below, state_config}
use Rattle.trace.proofs.Soundness.Sound.{fine_of}
use Rattle.trace.proofs.Alike.Twin.{equal, unused, like_equal, Twin, look_same, tag_same, config_cores, raised_cores, next_like}
use Rattle.trace.proofs.Alike.Stores.{still, Pair, act_pair}
use Rattle.trace.proofs.Alike.Pieces.{Failable, faulted_failable, Waits, fail_pair, cause_not_okay}
pub use Rattle.trace.proofs.Soundness.Ticking.{test_open}

-- ---- the slot of an open tag is in use, also while a tick closes tags in turn

pub record Ready (b : Bridge) (t : ℕ) : Type 0 where
  pub read : owner_of b t < slot_count → Failable (slot_at b (owner_of b t))
  pub word : slot_count ≤ owner_of b t → b.core.config.state ≢ 0

closed_failable : (s : Slot) → Failable s → Failable (closed_slot s)
closed_failable s f = by (leb s.pieces 1)
  where
    by : (z : Bool) → Failable (cond z (finished_slot s) (fewer_slot s))
    by true = record { used = λ z. omega arith; marked = f.marked }
    by false = record { used = f.used; marked = f.marked }

pub ready : (h : Held) → Sound h → (t : ℕ) → Open h.bridge t → Ready h.bridge t
ready h v t m =
    let b = h.bridge in
    let k = owner_of b t in
    let w = owner_open b t (fine_of h v) m in
    record {
      read = λ l.
          let s = sym (state_below b k l) ∙ w in
          record { used = λ z. omega (arith, s); marked = v.marked k l s };
      word = λ l.
          let e : k ≡ slot_count = omega (arith, owner_most b t (fine_of h v) m) in
          let s = sym (state_config b) ∙ (ap (state_of b) (sym e) ∙ w) in
          λ z. omega (arith, s);
    }

-- a tag is closed, slots in use stay in use: so every tag that is still open is ready
ready_acts : {t k : ℕ} {g : Slot → Slot} {c : Core → Core} {b x : Bridge} → Acts t k shut_tag g c b x
    → (Failable (slot_at b k) → Failable (g (slot_at b k))) → (b.core.config.state ≢ 0 → (c b.core).config.state ≢ 0)
    → ((u : ℕ) → Open b u → Ready b u) → (u : ℕ) → Open x u → Ready x u
ready_acts {t} {k} {g} {c} {b} {x} a f d r u m = by (ℕ_discrete u t)
  where
    slot : (j : ℕ) → Dec (j ≡ k) → Failable (slot_at b j) → Failable (slot_at x j)
    slot j (yes e) s = subst (λ i. Failable (slot_at b i) → Failable (slot_at x i)) (sym e) (λ s. subst Failable (sym a.slot) (f s)) s
    slot j (no n) s = subst Failable (sym (a.slots j n)) s

    by : Dec (u ≡ t) → Ready x u
    by (yes e) = absurd (m (ap (missing_of x) e ∙ same_missing a.tag))
    by (no n) =
        let o = same_owner (a.tags u n) in
        let w = r u (λ z. m (same_missing (a.tags u n) ∙ z)) in
        record {
          read = λ l. subst (λ j. Failable (slot_at x j)) (sym o) (slot (owner_of b u) (ℕ_discrete (owner_of b u) k) (w.read (rw o at l)));
          word = λ l. subst (λ (z : Core). z.config.state ≢ 0) (sym a.core) (d (w.word (rw o at l)));
        }

-- ---- a tag that is open, and old, by the tests

pub waits : (b : Bridge) (t : ℕ) → is_open (missing_of b t) (place_of b t) ≡ true → Ready b t → owner_of b t < slot_count → Waits b t (owner_of b t)
waits b t e r l =
    record { opened = test_open (missing_of b t) (place_of b t) e; owner = refl; inside = open_room (missing_of b t) (place_of b t) e; small = l; slot = r.read l }

old_same : {x y : Bridge} → Twin x y → (t : ℕ) → is_old x t ≡ is_old y t
old_same {x} {y} p t =
    look_same p (λ r. is_open r.missing r.place && eqb r.sent x.settings.limit) false (λ r e. rw e) t
    ∙ ap (λ s. is_open (missing_of y t) (place_of y t) && eqb (age_of y.core.ticks (sent_of y t)) s.limit) p.settings

-- ---- a tag that times out

record Turn (x y : Held) : Type 0 where
  pair : Pair x y
  ready : (u : ℕ) → Open x.bridge u → Ready x.bridge u

abbrev Fails : ℕ → ℕ → Held → Held → Type 0
Fails t k h x =
    Acts t k shut_tag (λ s. closed_slot (faulted_slot (place_of h.bridge t) (cause_response Timeout) s)) (raised_core (cause_bit Timeout)) h.bridge x.bridge
    × (x.store ≡ closed_store k (faulted_slot (place_of h.bridge t) (cause_response Timeout) (slot_at h.bridge k)) h.store)

module _ {h g : Held} (p : Turn h g) (t : ℕ) (open-test : is_open (missing_of h.bridge t) (place_of h.bridge t) ≡ true) where
  opened : Open h.bridge t
  opened = test_open (missing_of h.bridge t) (place_of h.bridge t) open-test

  owners : owner_of h.bridge t ≡ owner_of g.bridge t
  owners = same_owner (tag_same p.pair.twin t opened)

  read_turn : {x y : Held} → owner_of h.bridge t < slot_count → Fails t (owner_of h.bridge t) h x → Fails t (owner_of h.bridge t) g y → Turn x y
  read_turn l a b = record {
    pair = fail_pair p.pair (waits h.bridge t open-test (p.ready t opened) l) shut_tag (λ r. refl) (raised_cores p.pair.twin.core (cause_bit Timeout))
        (cause_response Timeout) (cause_not_okay Timeout) a.0 b.0 a.1 b.1;
    ready = ready_acts a.0 (λ f. closed_failable _ (faulted_failable (place_of h.bridge t) (cause_response Timeout) _ (cause_not_okay Timeout) f))
        (λ n. rw (raised_core_lem (cause_bit Timeout) h.bridge.core).config n) p.ready;
  }

  expire_turn : {x y : Held} → Expires t h x → Expires t g y → Turn x y
  expire_turn {y = y} (memory l a e) (memory m b f) = read_turn l (a, e) (subst (λ k. Fails t k g y) (sym owners) (b, f))
  expire_turn (memory l a e) (config m b f) = absurd (omega (arith, owners))
  expire_turn (config l a e) (memory m b f) = absurd (omega (arith, owners))
  expire_turn (config l a e) (config m b f) =
      let k = owner_of h.bridge t in
      let c = p.pair.twin.core in
      record {
        pair = act_pair p.pair (a k) (b k) (λ o. refl)
            (raised_cores (config_cores c (equal (ap (λ (z : ConfigSlot). config_done z slverr 0) (like_equal c.config ((p.ready t opened).word l))))) 8)
            (unused refl refl) (p.pair.twin.slots k) (rw (e, f) still) (λ s. absurd (omega arith));
        ready = ready_acts (a k) (λ s. s) (λ n. rw (raised_core_lem 8 (with_config (config_done h.bridge.core.config slverr 0) h.bridge.core)).config (λ z. omega arith)) p.ready;
      }

-- ---- a tick

-- the counters step
stepped : {h g : Held} → Pair h g
    → Pair (held (core_in (with_ticks (next_tick h.bridge.core.ticks) h.bridge.core) h.bridge) h.store)
    (held (core_in (with_ticks (next_tick g.bridge.core.ticks) g.bridge.core) g.bridge) g.store)
stepped {h} {g} p = record {
  twin = record {
    settings = p.twin.settings;
    core = record { early = refl; late = refl; registers = p.twin.core.registers; free = p.twin.core.free; config = p.twin.core.config };
    tags = λ t. next_like h.bridge.core.ticks g.bridge.core.ticks (tag_at h.bridge t) (tag_at g.bridge t) (p.twin.tags t);
    slots = p.twin.slots;
    early = let v = p.twin.early in omega arith;
    late = let v = p.twin.late in omega arith;
    early_clock = omega arith;
    late_clock = omega arith;
  };
  early = p.early;
  late = p.late;
  bytes = p.bytes;
}

pub ticked_pair : (h g : Held) → Sound h → Pair h g → Pair (ticked h) (ticked g)
unfolding ticked
ticked_pair h g v p =
    rw (le-ltb (length h.store) store_size p.early, le-ltb (length g.store) store_size p.late)
    (each_tag_both (λ n. Turn) _ _
    (record { pair = stepped p; ready = λ u m. let r = ready h v u m in record { read = r.read; word = r.word } })
    (λ n x y q. old_same q.pair.twin n)
    (λ n x y q. q)
    (λ n x y l e q. expire_turn q n (and_left (is_open (missing_of x.bridge n) (place_of x.bridge n)) _ e)
    (timed_out_expires x n q.pair.twin.early l) (timed_out_expires y n q.pair.twin.late l))
    ).pair
