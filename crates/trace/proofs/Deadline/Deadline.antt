-- The second claim: an access is answered by the T-th tick after it, for an open access has an open tag, whose age is bounded.
use Prim.Native.Nat.{ℕ, ◌+◌, ◌-◌, ◌%◌, ◌^◌, ◌≤◌, ◌<◌}
use mathlib.Core.Path.{◌≡◌, refl, sym, ap, ◌∙◌, subst}
use mathlib.Core.Logic.{◌⊎◌, inl, inr}
use mathlib.Core.List.{List, [], ◌∷◌}
use mathlib.Core.Bool.{Bool, true, false, cond}
use native.Mathlib.Omega.{arith}
use lib.ListN.{get_or}
use lib.Dec.{ltb}
use borrow.Author.Tests.{eq-eqb, le-ltb, ltb-true}
use Rattle.address.specs.declared.Settings.{Settings}
use Rattle.burst.specs.declared.Burst.{Burst}
use Rattle.ecam.specs.Route.{Route, OutOfRange, Local, Type0, Type1, NotRouted, DeviceNotZero, number_of}
use Rattle.parts.specs.Cores.{Core}
use Rattle.parts.specs.declared.ConfigSlot.{ConfigSlot}
use Rattle.machine.specs.State.{Bridge, sent_of, tag_count, free_slot}
use Rattle.machine.specs.Completions.{Held, held}
use Rattle.machine.specs.Take.{state_of, take_number}
use Rattle.machine.specs.Memory.{read_refusal, read_bridge}
use Rattle.machine.specs.Config.{Access, route_of, goes_out, config_refusal, local_bridge, routed_bridge, config_bridge, config_step}
use Rattle.machine.proofs.Configs.{passed}
use Rattle.machine.proofs.Refusals.{read_ok}
use Rattle.bridge_laws.proofs.Parts.{same_sent, same_state}
use Rattle.bridge_laws.proofs.Cores.{local_core_lem}
use Rattle.trace.specs.Events as event
use Rattle.trace.specs.Events.{Event, step, run, start}
use Rattle.trace.specs.Claims.{Answered, Until, is_tick, ticks, ReadDeadline, ConfigDeadline}
use Rattle.trace.specs.Sound.{pieces_in, Sound}
use Rattle.trace.proofs.Soundness.Counts.{open_found, named_is}
use Rattle.trace.proofs.Soundness.Fine.{state_below, state_config}
use Rattle.trace.proofs.Soundness.Sound.{limited, sound_step, run_sound}
use Rattle.trace.proofs.Deadline.Spares.{OpenFor, Busy, Goes}
use Rattle.trace.proofs.Deadline.Events.{Young, step_goes}
use Rattle.trace.proofs.Deadline.Calls.{by_read, read_sound, keeps, opens, read_newer, routes_acts, routed_newer}

-- ---- an open access has an open tag

some_pieces : (h : Held) (k : ℕ) → Sound h → state_of h.bridge k ≡ 1 → 0 < pieces_in h.bridge k
some_pieces h k v o = rw (eq-eqb _ _ o) (by (ltb k 8) refl)
  where
    by : (z : Bool) → ltb k 8 ≡ z → 0 < cond z (get_or h.bridge.pieces k 0) 1
    by true z = let l = ltb-true k 8 z in v.alive k l (sym (state_below h.bridge k l) ∙ o)
    by false z = omega arith

pub one_open : (h : Held) (k : ℕ) → Sound h → state_of h.bridge k ≡ 1 → (t : ℕ) × OpenFor h.bridge k t
one_open h k v o =
    let f = open_found h.bridge k tag_count (subst (λ (n : ℕ). 0 < n) (sym (v.count k)) (some_pieces h k v o)) in
    let n = named_is h.bridge k f.tag f.names in
    (f.tag, (n.missing, n.owner))

-- ---- the age of its tags

-- the open tags of slot k were sent c ticks ago
abbrev Since : Bridge → ℕ → ℕ → Type 0
Since b k c = (t : ℕ) → OpenFor b k t → (sent_of b t + c) % 2 ^ 32 ≡ b.core.ticks

age_is : (now sent c : ℕ) → sent < 4294967296 → c < 4294967296 → (sent + c) % 4294967296 ≡ now → (now + (4294967296 - sent)) % 4294967296 ≡ c
age_is now sent c h g e = omega arith

since_goes : {n k : ℕ} {b x : Bridge} (c : ℕ) → Goes n k b x → Since b k c → Since x k (c + n)
since_goes c g h t o = let r = g.tags t o in omega (arith, r.1, h t r.0, g.ticks)

-- an access that has been open for c ticks
pub record Waits (k c : ℕ) (h : Held) : Type 0 where
  pub sound : Sound h
  pub opens : state_of h.bridge k ≡ 1
  pub since : Since h.bridge k c
  pub small : c < 2 ^ 32

-- is not yet as old as the limit
early : {k c : ℕ} {h : Held} → Waits k c h → c < h.bridge.settings.limit
early {k} {c} {h} w =
    let b = h.bridge in
    let (t, o) = one_open h k w.sound w.opens in
    let v = w.sound.tags t o.0 in
    subst (λ (n : ℕ). n < b.settings.limit) (age_is b.core.ticks (sent_of b t) c v.past w.small (w.since t o)) v.young

-- nor at the next tick, where the limit is further away
pub young : {k c : ℕ} {h : Held} → Waits k c h → c + 1 < h.bridge.settings.limit → Young k h.bridge
young {k} {c} {h} w l t o e =
    let b = h.bridge in
    let m = (limited b.settings w.sound.right).most in
    let p = (w.sound.tags t o.0).past in
    let a = age_is ((b.core.ticks + 1) % 4294967296) (sent_of b t) (c + 1) p (omega arith) (omega (arith, w.since t o)) in
    omega (arith, a, e)

-- ---- an event

tick_most : (e : Event) → is_tick e ≤ 1
tick_most (event.call c) = omega arith
tick_most (event.completion i s) = omega arith
tick_most event.tick = omega arith
tick_most (event.link up) = omega arith

waits_on : {k c : ℕ} {h : Held} (e : Event) → Waits k c h → (state_of (step h e).after.bridge k ≡ 2) ⊎ Waits k (c + is_tick e) (step h e).after
waits_on {k} {c} {h} e w = by (g.busy (inl w.opens))
  where
    x : Held
    x = (step h e).after

    g : Goes (is_tick e) k h.bridge x.bridge
    g = step_goes k w.sound e w.opens

    by : Busy (state_of x.bridge k) → (state_of x.bridge k ≡ 2) ⊎ Waits k (c + is_tick e) x
    by (inl o) =
        let m = (limited h.bridge.settings w.sound.right).most in
        inr (record { sound = sound_step h e w.sound; opens = o; since = since_goes c g w.since; small = omega (arith, tick_most e, early w) })
    by (inr o) = inl o

pub same_limit : {k c : ℕ} {h : Held} (e : Event) → Waits k c h → (step h e).after.bridge.settings.limit ≡ h.bridge.settings.limit
same_limit {k} e w = ap (λ (s : Settings). s.limit) (step_goes k w.sound e w.opens).settings

-- ---- a list

pub already : (Q : Held → Type 0) (k : ℕ) (h : Held) (es : List Event) → Q h → Until Q k h es
already Q k h [] q = q
already Q k h (e ∷ es) q = inl q

-- `I` holds as long as an access is open, and never at the end of the list; once it is finished, `Q` does
module _ (k : ℕ) (Q : Held → Type 0) (I : ℕ → Held → List Event → Type 0) (last : (c : ℕ) (h : Held) → Waits k c h → I c h [] → ⊥)
    (on : (c : ℕ) (h : Held) (e : Event) (es : List Event) → Waits k c h → I c h (e ∷ es) → I (c + is_tick e) (step h e).after es)
    (done : (c : ℕ) (h : Held) (es : List Event) → Sound h → state_of h.bridge k ≡ 2 → I c h es → Q h) where
  pub until : {c : ℕ} {h : Held} (es : List Event) → Waits k c h → I c h es → Until Q k h es
  until {c} {h} [] w i = absurd (last c h w i)
  until {c} {h} (e ∷ es) w i = inr (w.opens, by (waits_on e w) (λ u. until {c = c + is_tick e} {h = x} es u (on c h e es w i)))
    where
      x : Held
      x = (step h e).after

      by : (state_of x.bridge k ≡ 2) ⊎ Waits k (c + is_tick e) x → (Waits k (c + is_tick e) x → Until Q k x es) → Until Q k x es
      by (inl z) f = already Q k x es (done (c + is_tick e) x es (sound_step h e w.sound) z (on c h e es w i))
      by (inr u) f = f u

pub finished_answered : (k : ℕ) (h : Held) → Sound h → state_of h.bridge k ≡ 2 → Answered k h
unfolding take_number
finished_answered k h v e = rw (le-ltb _ _ v.room, e)

-- so many ticks are still to come
answers : {k : ℕ} {h : Held} (es : List Event) → Waits k 0 h → h.bridge.settings.limit ≤ ticks es → Until (Answered k) k h es
answers {k} es w l =
    until k (Answered k) (λ c h es. h.bridge.settings.limit ≤ c + ticks es) (λ c h u i. omega (arith, early u, i))
    (λ c h e es u i. omega (arith, i, same_limit e u)) (λ c h es v z i. finished_answered k h v z) es w (omega arith)

-- an access that begins: its tags are sent now
begins : {k : ℕ} (b : Bridge) {x : Held} → Sound x → x.bridge.core.ticks ≡ b.core.ticks → state_of x.bridge k ≡ 1
    → ((t : ℕ) → OpenFor x.bridge k t → sent_of x.bridge t ≡ b.core.ticks) → Waits k 0 x
begins b v e o f = record { sound = v; opens = o; since = λ t q. omega (arith, f t q, e, v.clock); small = omega arith }

-- ---- reads

pub read_waits : (h : Held) (q : Burst) (room : ℕ) → Sound h → read_refusal h.bridge q room ≡ 0 → Waits (free_slot h.bridge) 0 (held (read_bridge h.bridge q) h.store)
read_waits h q room v e =
    let b = h.bridge in
    let x = read_bridge b q in
    let p = opens h q room v e in
    begins b (read_sound h q room v e) (keeps h q room v e).ticks (state_below x (free_slot b) (read_ok b q room e).slot ∙ same_state p.slot)
    (λ t o. let (j, l, z) = read_newer h q room v e t o in ap (sent_of x) z ∙ same_sent (p.tag j l))

pub read_deadline : ReadDeadline
read_deadline s store l before q room later e t =
    let h = run (start s store) before in
    let k = free_slot h.bridge in
    let v = run_sound s store l before in
    by_read h q room v e (λ y. Until (Answered k) k (held y h.store) later) (answers later (read_waits h q room v e) (rw (keeps h q room v e).settings (omega arith)))

-- ---- configuration accesses

pub local_done : (b : Bridge) (a : Access) (w : ℕ) → state_of (local_bridge b a w) 8 ≡ 2
local_done b a w = state_config (local_bridge b a w) ∙ ap (λ (c : ConfigSlot). c.state) (local_core_lem b.core a w).config

module _ (h : Held) (a : Access) (room : ℕ) (v : Sound h) (e : config_refusal h.bridge a room ≡ 0) where
  pub routed_waits : goes_out (route_of h.bridge a) ≡ true → Sound (held (routed_bridge h.bridge a) h.store) → Waits 8 0 (held (routed_bridge h.bridge a) h.store)
  routed_waits g u =
      let x = routed_bridge h.bridge a in
      let p = routes_acts h a room v e g 8 in
      begins h.bridge u (ap (λ (c : Core). c.ticks) p.core) (state_config x ∙ ap (λ (c : Core). c.config.state) p.core)
      (λ t o. ap (sent_of x) (routed_newer h a room v e g t o) ∙ same_sent p.tag)

  -- an accepted access is local, or goes out
  pub by_route : (Q : Bridge → Type 0) → ((w : ℕ) → route_of h.bridge a ≡ Local w → Sound (held (local_bridge h.bridge a w) h.store) → Q (local_bridge h.bridge a w))
      → (goes_out (route_of h.bridge a) ≡ true → Sound (held (routed_bridge h.bridge a) h.store) → Q (routed_bridge h.bridge a)) → Q (config_step h.bridge a room).bridge
  unfolding config_step
  by_route Q f g =
      let z = eq-eqb (config_refusal h.bridge a room) 0 e in
      rw z (by (route_of h.bridge a) refl (rw z at (sound_step h (event.call (event.config a room)) v)))
    where
      n : number_of (route_of h.bridge a) ≡ 0
      n = (passed h.bridge.core (route_of h.bridge a) room e).routed

      by : (r : Route) → route_of h.bridge a ≡ r → Sound (held (config_bridge h.bridge a r) h.store) → Q (config_bridge h.bridge a r)
      by OutOfRange r = absurd (omega (arith, ap number_of r, n))
      by (Local w) r = f w r
      by Type0 r = g (ap goes_out r)
      by Type1 r = g (ap goes_out r)
      by NotRouted r = absurd (omega (arith, ap number_of r, n))
      by DeviceNotZero r = absurd (omega (arith, ap number_of r, n))

pub config_deadline : ConfigDeadline
config_deadline s store l before a room later e t =
    let h = run (start s store) before in
    let v = run_sound s store l before in
    by_route h a room v e (λ y. Until (Answered 8) 8 (held y h.store) later)
    (λ w r u. let x = held (local_bridge h.bridge a w) h.store in already (Answered 8) 8 x later (finished_answered 8 x u (local_done h.bridge a w)))
    (λ g u. answers later (routed_waits h a room v e g u) (rw (routes_acts h a room v e g 8).settings (omega arith)))
