-- What an event leaves of an open access: it goes on or is finished, and is as it was if the event is for another.
use Prim.Native.Nat.{ℕ, ◌^◌, ◌≤◌, ◌<◌, ◌%◌}
use mathlib.Core.Path.{◌≡◌, refl, sym, ap, ◌∙◌, subst}
use mathlib.Core.Logic.{inr, ◌≢◌}
use mathlib.Core.List.{List, [], ◌∷◌}
use mathlib.Core.Bool.{Bool, true, false, cond}
use native.Mathlib.Omega.{arith}
use native.Mathlib.Decide.{ℕ_discrete}
use lib.Dec.{ltb, leb, eqb}
use lib.ListN.{drop}
use borrow.Author.Tests.{eqb-true}
use Rattle.common.proofs.Tests.{row}
use Rattle.parts.specs.Cores.{Core}
use Rattle.parts.specs.declared.ConfigSlot.{ConfigSlot}
use Rattle.verdict.specs.declared.Verdict.{Verdict}
use Rattle.machine.specs.State.{Bridge, Tag, Slot, tag_at, slot_at, slot_state, missing_of, sent_of, owner_of, place_of, is_open, tag_count, Open, slverr, with_ticks, core_in, with_registers, with_config}
use Rattle.machine.specs.Completions.{Held, held, config_done, config_answer, is_unexpected, memory_completed, config_completed}
use Rattle.machine.specs.Ticks.{next_tick, age_of, is_old, timed_out, expire_to, drop_config, link_to}
use Rattle.machine.specs.Take.{state_of}
use Rattle.bridge_laws.specs.MemoryLaws.{Tables}
use Rattle.bridge_laws.specs.Rows.{shut_tag, faulted_slot, finished_slot, closed_slot, freed_core}
use Rattle.bridge_laws.specs.Effects.{Acts, same, Serves, good_part, good_last, poison_part, poison_last, fails, Expires, memory, config, Lost}
use Rattle.bridge_laws.proofs.Effects.{timed_out_expires, memory_serves, config_serves, drop_loses}
use Rattle.bridge_laws.proofs.Turns.{each_tag}
use Rattle.bridge_laws.proofs.Parts.{same_missing, same_sent, same_owner, same_state}
use Rattle.bridge_laws.proofs.Cores.{raised_core_lem}
use Rattle.trace.specs.Events as event
use Rattle.trace.specs.Events.{Event, step}
use Rattle.trace.specs.Claims.{is_tick}
use Rattle.trace.specs.Sound.{Sound}
use Rattle.trace.proofs.Soundness.View.{Move, missed, memories, configs, ticks, drops, links, moves}
use Rattle.trace.proofs.Soundness.Fine.{Fine, state_config, owner_most, tag_below}
use Rattle.trace.proofs.Tags.Comes.{open_missing}
use Rattle.trace.proofs.Soundness.Sound.{fine_of}
use Rattle.trace.proofs.Deadline.Spares.{acts_spares, OpenRow, OpenFor, Busy, Goes, Spares, state_by, state_same, goes_then, spares_then, core_spares, spares_goes, still}
use Rattle.trace.proofs.Deadline.Calls.{call_spares}
use Rattle.trace.proofs.Soundness.Serving.{answer_done}

-- tag t, of slot j, is served or closed: its owner and the tick of its sending stay, and its slot stays open or is finished
pub record Served (t j : ℕ) (b x : Bridge) : Type 0 where
  pub tag : Tag → Tag
  pub slot : Slot → Slot
  pub core : Core → Core
  pub acts : Acts t j tag slot core b x
  pub ticks : (core b.core).ticks ≡ b.core.ticks
  pub config : j ≢ 8 → (core b.core).config ≡ b.core.config
  pub busy : Busy (state_of b j) → Busy (state_of x j)
  pub sent : sent_of x t ≡ sent_of b t
  pub owner : owner_of x t ≡ owner_of b t

module _ (k : ℕ) {t j : ℕ} {b x : Bridge} (p : Served t j b x) (clock : b.core.ticks < 2 ^ 32) where
  -- another slot's access does not see it
  pub served_spares : k ≢ j → owner_of b t ≢ k → Spares 0 k b x
  served_spares d n = acts_spares k p.acts clock p.ticks p.config d (λ o. absurd (n (sym p.owner ∙ o.1)))

  -- every access goes on
  pub served_goes : Open b t → Goes 0 k b x
  served_goes m = record {
    settings = p.acts.settings;
    ticks = still b x clock (ap (λ (y : Core). y.ticks) p.acts.core ∙ p.ticks);
    busy = busy (ℕ_discrete k j);
    tags = λ u o. was u o (ℕ_discrete u t);
  }
    where
      busy : Dec (k ≡ j) → Busy (state_of b k) → Busy (state_of x k)
      busy (yes e) = subst (λ i. Busy (state_of b i) → Busy (state_of x i)) (sym e) p.busy
      busy (no d) = subst Busy (sym (state_same k b x (λ z. ap (λ (y : Core). y.config) p.acts.core ∙ p.config (λ e. d (z ∙ sym e))) (p.acts.slots k d)))

      was : (u : ℕ) → OpenFor x k u → Dec (u ≡ t) → OpenFor b k u × (sent_of x u ≡ sent_of b u)
      was u o (yes e) = subst (λ i. OpenFor x k i → OpenFor b k i × (sent_of x i ≡ sent_of b i)) (sym e) (λ q. ((m, sym p.owner ∙ q.1), p.sent)) o
      was u o (no d) = let z = p.acts.tags u d in (subst (OpenRow k) z o, same_sent z)

-- ---- a completion

-- a test chooses one of two
pub one_of : {A : Type 0} (Q : A → Type 0) (z : Bool) (s t : A) → Q s → Q t → Q (cond z s t)
one_of Q true s t p q = p
one_of Q false s t p q = q

closed_busy : (s : Slot) → Busy s.state → Busy (closed_slot s).state
closed_busy s h = one_of (λ (y : Slot). Busy y.state) (leb s.pieces 1) (finished_slot s) _ (inr refl) h

fault_busy : (place code : ℕ) (s : Slot) → Busy s.state → Busy (faulted_slot place code s).state
fault_busy place code s h = one_of (λ (y : Slot). Busy y.state) (ltb place s.fault) _ s h h

failed_busy : (place code : ℕ) (s : Slot) → Busy s.state → Busy (closed_slot (faulted_slot place code s)).state
failed_busy place code s h = closed_busy (faulted_slot place code s) (fault_busy place code s h)

acts_served : {t j : ℕ} {f : Tag → Tag} {g : Slot → Slot} {c : Core → Core} {b x : Bridge} → Acts t j f g c b x
    → (f (tag_at b t)).sent ≡ sent_of b t → (f (tag_at b t)).owner ≡ owner_of b t → (Busy (state_of b j) → Busy (state_of x j))
    → (c b.core).ticks ≡ b.core.ticks → (j ≢ 8 → (c b.core).config ≡ b.core.config) → Served t j b x
acts_served {f = f} {g} {c} a s o h e q =
    record { tag = f; slot = g; core = c; acts = a; ticks = e; config = q; busy = h; sent = same_sent a.tag ∙ s; owner = same_owner a.tag ∙ o }

-- for a memory read
memory_served : {t j : ℕ} {f : Tag → Tag} {g : Slot → Slot} {c : Core → Core} {b x : Bridge} → Acts t j f g c b x → j < 8
    → (f (tag_at b t)).sent ≡ sent_of b t → (f (tag_at b t)).owner ≡ owner_of b t → ((s : Slot) → Busy s.state → Busy (g s).state)
    → (c b.core).ticks ≡ b.core.ticks → (c b.core).config ≡ b.core.config → Served t j b x
memory_served {j = j} {b = b} {x = x} a l s o h e q =
    acts_served a s o
    (state_by (λ m n. Busy m → Busy n) j b x (λ y. y) (λ z. absurd (omega arith)) (λ z y. subst Busy (sym (same_state a.slot)) (h (slot_at b j) y)))
    e (λ n. q)

pub serves_served : {t k skip : ℕ} {payload : List ℕ} {h x : Held} {v : Verdict} → Serves t k skip payload h x v → k < 8 → Served t k h.bridge x.bridge
serves_served (good_part n m a e) l = memory_served a l refl refl (λ s y. y) refl refl
serves_served (good_last n m a e) l = memory_served a l refl refl closed_busy refl refl
serves_served (poison_part n m a e) l = memory_served a l refl refl (fault_busy _ _) (raised_core_lem _ _).ticks (raised_core_lem _ _).config
serves_served (poison_last n m a e) l = memory_served a l refl refl (failed_busy _ _) (raised_core_lem _ _).ticks (raised_core_lem _ _).config
serves_served (fails why a e) l = memory_served a l refl refl (failed_busy _ _) (raised_core_lem _ _).ticks (raised_core_lem _ _).config

-- for the configuration access
config_served : {t : ℕ} {c : Core → Core} {b x : Bridge} → Acts t 8 shut_tag same c b x → owner_of b t ≡ 8 → (c b.core).ticks ≡ b.core.ticks → (c b.core).config.state ≡ 2
    → Served t (owner_of b t) b x
config_served {t} {b = b} {x = x} a z e f =
    subst (λ j. Served t j b x) (sym z)
    (acts_served a refl refl (λ y. inr (state_config x ∙ (ap (λ (d : Core). d.config.state) a.core ∙ f))) e (λ n. absurd (n refl)))

-- so it is for an open tag
module _ (h : Held) (t : ℕ) (v : Sound h) (o : Open h.bridge t) where
  pub serving : (skip : ℕ) (payload : List ℕ) (u : Verdict) → owner_of h.bridge t < 8 → is_unexpected u ≡ false
      → Serves t (owner_of h.bridge t) skip payload h (memory_completed h t (owner_of h.bridge t) skip payload u) u
  serving skip payload u l f =
      memory_serves h t (owner_of h.bridge t) skip payload u v.sizes (tag_below h.bridge t v.sizes o) l f

  pub answering : (payload : List ℕ) (u : Verdict) (k : ℕ)
      → Acts t k shut_tag same (λ c. freed_core t (with_config (config_answer c.config payload u) c)) h.bridge (config_completed h.bridge t payload u)
  answering payload u k = config_serves h.bridge t k payload u v.sizes (tag_below h.bridge t v.sizes o)

  pub answered : (payload : List ℕ) (u : Verdict) → 8 ≤ owner_of h.bridge t → is_unexpected u ≡ false
      → Served t (owner_of h.bridge t) h.bridge (config_completed h.bridge t payload u)
  answered payload u l f =
      let m = owner_most h.bridge t (fine_of h v) o in
      config_served (answering payload u 8) (omega arith) refl (answer_done h.bridge.core.config payload u f)

-- ---- a tick

expires_served : {t : ℕ} {h x : Held} → Expires t h x → owner_of h.bridge t ≤ 8 → Served t (owner_of h.bridge t) h.bridge x.bridge
expires_served (memory l a e) m = memory_served a l refl refl (failed_busy _ _) (raised_core_lem _ _).ticks (raised_core_lem _ _).config
expires_served (config l a e) m = config_served (a 8) (omega arith) (raised_core_lem _ _).ticks (ap (λ (y : ConfigSlot). y.state) (raised_core_lem _ _).config)

-- at the next tick no open tag of the slot is as old as the limit
abbrev pub Young : ℕ → Bridge → Type 0
Young k b = (t : ℕ) → OpenFor b k t → age_of (next_tick b.core.ticks) (sent_of b t) ≢ b.settings.limit

-- every access goes on, and one whose tags are young is spared
pub record Ticked (b x : Bridge) : Type 0 where
  pub tables : Tables x
  pub goes : (k : ℕ) → Goes 1 k b x
  pub spares : (k : ℕ) → Young k b → Spares 1 k b x

old_is : (b : Bridge) (t : ℕ) → is_old b t ≡ true → Open b t × (age_of b.core.ticks (sent_of b t) ≡ b.settings.limit)
old_is b t e =
    let a = age_of b.core.ticks (sent_of b t) in
    let x = row (is_open (missing_of b t) (place_of b t)) (eqb a b.settings.limit ∷ []) e in
    (open_missing _ _ x.0, eqb-true a b.settings.limit x.1.0)

module _ (h : Held) (fine : Fine h.bridge) (tables : Tables h.bridge) where
  abbrev b : Bridge
  b = h.bridge

  -- the tag of a request that is as old as the limit
  old_tag : (n : ℕ) (x : Held) → is_old x.bridge n ≡ true → Ticked b x.bridge → Ticked b (timed_out n x).bridge
  old_tag n x e p = record {
    tables = s.acts.tables;
    goes = λ k. goes_then (p.goes k) (served_goes k s clock o);
    spares = λ k y. spares_then (p.spares k y) (served_spares k s clock (λ z. other k y (sym z)) (other k y));
  }
    where
      o : Open x.bridge n
      o = (old_is x.bridge n e).0

      clock : x.bridge.core.ticks < 2 ^ 32
      clock = omega (arith, (p.goes 0).ticks)

      was : OpenFor b (owner_of x.bridge n) n
      was = ((p.goes (owner_of x.bridge n)).tags n (o, refl)).0

      s : Served n (owner_of x.bridge n) x.bridge (timed_out n x).bridge
      s = expires_served (timed_out_expires x n p.tables (tag_below b n fine.sizes was.0)) (subst (λ i. i ≤ 8) was.1 (owner_most b n fine was.0))

      other : (k : ℕ) → Young k b → owner_of x.bridge n ≢ k
      other k y z =
          let q = p.spares k y in
          let r = q.tags n (o, z) in
          y n (subst (OpenRow k) r (o, z)) (rw (q.ticks, q.settings, same_sent r) at (old_is x.bridge n e).1)

  all_ticked : Ticked b (expire_to (held (core_in (with_ticks (next_tick b.core.ticks) b.core) b) h.store) tag_count).bridge
  all_ticked =
      let x = held (core_in (with_ticks (next_tick b.core.ticks) b.core) b) h.store in
      let s : (k : ℕ) → Spares 1 k b x.bridge = λ k. record { settings = refl; ticks = refl; slot = refl; config = λ z. refl; tags = λ t o. refl } in
      each_tag (λ n y. Ticked b y.bridge) x (record { tables = omega arith; goes = λ k. spares_goes (s k); spares = λ k y. s k }) (λ n y l e p. p) (λ n y l e p. old_tag n y e p)

-- ---- the link goes down

lost_goes : (k : ℕ) {h x : Held} → Lost h x → h.bridge.core.ticks < 2 ^ 32 → Goes 0 k h.bridge x.bridge
lost_goes k {h} {x} p l =
    let b = h.bridge in
    let c = b.core.config in
    let e : x.bridge.core.config.state ≡ (drop_config c).state = ap (λ (y : Core). y.config.state) p.core ∙ ap (λ (y : ConfigSlot). y.state) (raised_core_lem 0 _).config in
    record {
      settings = p.settings;
      ticks = still b x.bridge l (ap (λ (y : Core). y.ticks) p.core ∙ (raised_core_lem 0 _).ticks);
      busy = state_by (λ m n. Busy m → Busy n) k b x.bridge (λ y. y)
          (λ z y. subst Busy (sym e) (one_of (λ (d : ConfigSlot). Busy d.state) (eqb c.state 1) (config_done c slverr 0) c (inr refl) y))
          (λ z y. subst Busy (sym (same_state (p.slot k z))) (one_of (λ (s : Slot). Busy s.state) (eqb (slot_state b k) 1) _ (slot_at b k) (inr refl) y));
      tags = λ t o. absurd (o.0 (same_missing (p.tag t)));
    }

-- ---- every event

module _ (k : ℕ) {h : Held} (v : Sound h) where
  completion_goes : {i : ℕ} {s : List ℕ} {x : Held} → Move h (event.completion i s) x → Goes 0 k h.bridge x.bridge
  completion_goes (missed r f l) = spares_goes (core_spares k h.bridge (with_registers r h.bridge.core) v.clock refl (λ z. refl))
  completion_goes (memories {s = s} c u e r p w f n) =
      let o = open_missing _ _ p in
      served_goes k (serves_served (serving h c.tag v o (c.lower % 4) (drop 12 s) u w n) w) v.clock o
  completion_goes (configs {s = s} c u e r p w f n) =
      let o = open_missing _ _ p in
      served_goes k (answered h c.tag v o (drop 12 s) u w n) v.clock o

  pub tick_all : {x : Held} → Move h event.tick x → Ticked h.bridge x.bridge
  tick_all ticks = all_ticked h (fine_of h v) v.sizes

  link_goes : {up : Bool} {x : Held} → Move h (event.link up) x → Goes 0 k h.bridge x.bridge
  link_goes (drops l) = lost_goes k (drop_loses h v.sizes) v.clock
  link_goes (links up d) = spares_goes (core_spares k h.bridge (link_to up h.bridge.core) v.clock refl (λ z. refl))

  move_goes : (e : Event) {x : Held} → Move h e x → state_of h.bridge k ≡ 1 → Goes (is_tick e) k h.bridge x.bridge
  move_goes (event.call c) m o = spares_goes (call_spares k m v o)
  move_goes (event.completion i s) m o = completion_goes m
  move_goes event.tick m o = (tick_all m).goes k
  move_goes (event.link up) m o = link_goes m

  pub step_goes : (e : Event) → state_of h.bridge k ≡ 1 → Goes (is_tick e) k h.bridge (step h e).after.bridge
  step_goes e o = move_goes e (moves h e v.room) o
