-- Calls: what they leave of an access that is open already, and the tags of one that begins.
use Prim.Native.Nat.{ℕ, ◌+◌, ◌-◌, ◌<◌}
use mathlib.Core.Path.{◌≡◌, refl, sym, ap, ◌∙◌, subst}
use mathlib.Core.Logic.{◌≢◌}
use mathlib.Core.Bool.{Bool, true, false}
use native.Mathlib.Omega.{arith}
use native.Mathlib.Decide.{ℕ_discrete, dec_lt}
use lib.ListN.{length, get_or, length-drop}
use lib.Seq.{get_or-drop}
use borrow.Author.Tests.{eq-eqb}
use Rattle.bits.specs.Bits.{is_set}
use Rattle.tags.specs.Tags.{free_tags, lowest, available}
use Rattle.tags.specs.Laws.{FreeTag, Listed}
use Rattle.tags.proofs.Tags.{listed_is_free, free_is_listed, take_few_leaves}
use Rattle.burst.specs.declared.Burst.{Burst}
use Rattle.machine.specs.State.{Bridge, tag_at, owner_of, tag_count, Open, free_slot, with_registers, with_config, open_config, figures_now}
use Rattle.machine.specs.Memory.{pieces_of, read_refusal, read_bridge, read_step}
use Rattle.machine.specs.Config.{Access, route_of, goes_out, config_refusal, local_core, routed_bridge, word_pending}
use Rattle.machine.specs.Completions.{Held, held}
use Rattle.machine.specs.Take.{state_of, take_refusal, slot_freed}
use Rattle.machine.proofs.Configs.{passed}
use Rattle.machine.proofs.Judging.{never}
use Rattle.machine.proofs.Refusals.{read_ok}
use Rattle.bridge_laws.specs.MemoryLaws.{tag_of, ReadKeeps, ReadOpens}
use Rattle.bridge_laws.specs.Rows.{pending_tag, taken_core}
use Rattle.bridge_laws.specs.Effects.{Acts, same}
use Rattle.bridge_laws.proofs.Effects.{released_acts, routed_acts}
use Rattle.bridge_laws.proofs.Parts.{same_owner}
use Rattle.bridge_laws.proofs.Cores.{local_core_lem}
use Rattle.bridge_laws.proofs.Kept.{accepted_read_keeps}
use Rattle.bridge_laws.proofs.Stored.{accepted_read_opens}
use Rattle.bridge_laws.proofs.TakeLaws as take
use Rattle.trace.specs.Events as event
use Rattle.trace.specs.Events.{Call}
use Rattle.trace.specs.Sound.{Sound}
use Rattle.trace.proofs.Soundness.View.{Move, idle, reads, locals, routes, releases}
use Rattle.trace.proofs.Soundness.Fine.{state_below, state_above, state_config, owner_open, tag_below}
use Rattle.trace.proofs.Soundness.Sound.{fine_of, sound_step}
use Rattle.trace.proofs.Tags.Opened.{free_slot_free}
use Rattle.trace.proofs.Deadline.Spares.{OpenRow, OpenFor, Spares, core_spares, acts_spares, still}

-- slots in different states are different
apart : (b : Bridge) (k j : ℕ) {m n : ℕ} → state_of b k ≡ m → state_of b j ≡ n → m ≢ n → k ≢ j
apart b k j e f d z = d (sym e ∙ (ap (state_of b) z ∙ f))

-- no tag is open for a slot that is free
none_open : (h : Held) (k t : ℕ) → Sound h → state_of h.bridge k ≡ 0 → OpenFor h.bridge k t → ⊥
none_open h k t v e o = apart h.bridge (owner_of h.bridge t) k (owner_open h.bridge t (fine_of h v) o.0) e (λ z. omega arith) o.1

-- ---- an accepted read

module _ (h : Held) (q : Burst) (room : ℕ) (v : Sound h) (e : read_refusal h.bridge q room ≡ 0) where
  abbrev b : Bridge
  b = h.bridge

  abbrev x : Bridge
  x = read_bridge b q

  abbrev n : ℕ
  n = pieces_of b.settings.reads q

  -- the tag of one of its pieces
  abbrev pub Own : ℕ → Type 0
  Own t = (j : ℕ) × (j < n) × (t ≡ tag_of b j)

  pub by_read : (Q : Bridge → Type 0) → Q x → Q (read_step b q room).bridge
  unfolding read_step
  by_read Q p = rw (eq-eqb (read_refusal b q room) 0 e) p

  pub read_sound : Sound (held x h.store)
  unfolding read_step
  read_sound = rw (eq-eqb (read_refusal b q room) 0 e) at (sound_step h (event.call (event.read q room)) v)

  pub keeps : ReadKeeps b x
  keeps = accepted_read_keeps b q room e

  pub opens : ReadOpens b q x
  opens = accepted_read_opens b q room v.sizes e

  read_free : state_of b (free_slot b) ≡ 0
  read_free = state_below b (free_slot b) (read_ok b q room e).slot ∙ free_slot_free h q room v e

  -- a tag that was free and is not is one of the read's
  taken : (t : ℕ) → FreeTag tag_count b.core.free t → is_set x.core.free t ≡ false → Own t
  taken t f u = by (free_is_listed tag_count b.core.free t f) (dec_lt (available t b.core.free) n)
    where
      by : Listed tag_count b.core.free t → Dec (available t b.core.free < n) → Own t
      by l (yes m) = (available t b.core.free, m, sym l.here)
      by l (no m) =
          let i = available t b.core.free - n in
          let g = ap (free_tags tag_count) opens.free ∙ take_few_leaves tag_count b.core.free n in
          let s : i < available tag_count x.core.free = omega (arith, ap length g, length-drop n (free_tags tag_count b.core.free), l.inside, m) in
          let z : n + i ≡ available t b.core.free = omega (arith, m) in
          let a : get_or (free_tags tag_count x.core.free) i 0 ≡ t = rw (g, get_or-drop n (free_tags tag_count b.core.free) i 0, z) l.here in
          never (sym (listed_is_free tag_count x.core.free i s).free ∙ (ap (is_set x.core.free) a ∙ u))

  -- an open tag is the read's, for the read's slot, or as it was, for another
  read_view : (t : ℕ) → Open x t → (owner_of x t ≡ free_slot b → Own t) × (owner_of x t ≢ free_slot b → tag_at x t ≡ tag_at b t)
  read_view t o = by (is_set b.core.free t) refl
    where
      by : (z : Bool) → is_set b.core.free t ≡ z → (owner_of x t ≡ free_slot b → Own t) × (owner_of x t ≢ free_slot b → tag_at x t ≡ tag_at b t)
      by true z =
          let (j, l, y) = taken t (record { below = tag_below x t read_sound.sizes o; free = z }) (read_sound.tags t o).used in
          (λ i. (j, l, y), λ d. absurd (d (ap (owner_of x) y ∙ same_owner (opens.tag j l))))
      by false z =
          let r = keeps.tags t z in
          (λ i. absurd (none_open h (free_slot b) t v read_free (subst (OpenRow (free_slot b)) r (o, i))), λ d. r)

  pub read_newer : (t : ℕ) → OpenFor x (free_slot b) t → Own t
  read_newer t o = (read_view t o.0).0 o.1

  read_spares : (k : ℕ) → state_of b k ≡ 1 → Spares 0 k b x
  read_spares k o =
      let d = apart b k (free_slot b) o read_free (λ z. omega arith) in
      let p = keeps in
      record {
        settings = p.settings;
        ticks = still b x v.clock p.ticks;
        slot = p.slots k d;
        config = λ z. p.config;
        tags = λ t r. (read_view t r.0).1 (λ z. d (sym r.1 ∙ z));
      }

-- ---- a configuration access

module _ (h : Held) (a : Access) (room : ℕ) (v : Sound h) (e : config_refusal h.bridge a room ≡ 0) where
  config_free : state_of h.bridge 8 ≡ 0
  config_free = state_config h.bridge ∙ (passed h.bridge.core (route_of h.bridge a) room e).free

  module _ (g : goes_out (route_of h.bridge a) ≡ true) where
    pub routes_acts : (k : ℕ)
        → Acts (lowest tag_count h.bridge.core.free) k (λ o. pending_tag h.bridge.core.ticks (word_pending a.write)) same
        (λ c. taken_core (with_config (open_config a.write (figures_now c)) c)) h.bridge (routed_bridge h.bridge a)
    routes_acts k = routed_acts h.bridge a k v.sizes ((passed h.bridge.core (route_of h.bridge a) room e).tag g)

    routed_spares : (k : ℕ) → state_of h.bridge k ≡ 1 → Spares 0 k h.bridge (routed_bridge h.bridge a)
    routed_spares k o =
        let p = routes_acts 8 in
        let d = apart h.bridge k 8 o config_free (λ z. omega arith) in
        acts_spares k p v.clock refl (λ n. absurd (n refl)) d (λ r. absurd (d (sym r.1 ∙ same_owner p.tag)))

    -- the one tag that it opens
    pub routed_newer : (t : ℕ) → OpenFor (routed_bridge h.bridge a) 8 t → t ≡ lowest tag_count h.bridge.core.free
    routed_newer t o = by (ℕ_discrete t (lowest tag_count h.bridge.core.free))
      where
        by : Dec (t ≡ lowest tag_count h.bridge.core.free) → t ≡ lowest tag_count h.bridge.core.free
        by (yes z) = z
        by (no d) = absurd (none_open h 8 t v config_free (subst (OpenRow 8) ((routes_acts 8).tags t d) o))

-- ---- a release, of another slot

release_spares : (h : Held) (k j : ℕ) → Sound h → take_refusal h.bridge (length h.store) j ≡ 0 → state_of h.bridge k ≡ 1 → Spares 0 k h.bridge (slot_freed j h.bridge)
release_spares h k j v e o = by (dec_lt j 8)
  where
    done : state_of h.bridge j ≡ 2
    done = (take.passed (length h.store) (state_of h.bridge j) e).finished

    d : k ≢ j
    d = apart h.bridge k j o done (λ z. omega arith)

    by : Dec (j < 8) → Spares 0 k h.bridge (slot_freed j h.bridge)
    by (yes l) = let p = (released_acts 0 j h.bridge v.sizes).0 l in acts_spares k p v.clock refl (λ n. refl) d (λ r. p.tag)
    by (no l) =
        let p = (released_acts 0 j h.bridge v.sizes).1 (omega (arith, l)) in
        acts_spares k p v.clock refl (λ n. absurd (omega (arith, state_above h.bridge j (omega (arith, l, n)), done))) d (λ r. p.tag)

-- ---- every call

pub call_spares : (k : ℕ) {h x : Held} {c : Call} → Move h (event.call c) x → Sound h → state_of h.bridge k ≡ 1 → Spares 0 k h.bridge x.bridge
call_spares k {h} (idle r a l) v o = core_spares k h.bridge (with_registers r h.bridge.core) v.clock refl (λ z. refl)
call_spares k {h} (reads {q = q} {room = room} e) v o = read_spares h q room v e k o
call_spares k {h} (locals {a = a} {room = room} u e f) v o =
    core_spares k h.bridge (local_core h.bridge.core a u) v.clock (local_core_lem h.bridge.core a u).ticks
    (λ z. absurd (apart h.bridge k 8 o (config_free h a room v e) (λ n. omega arith) z))
call_spares k {h} (routes {a = a} {room = room} e g) v o = routed_spares h a room v e g k o
call_spares k {h} (releases {k = j} e) v o = release_spares h k j v e o
