-- Configuration accesses by their route: what refuses them, and what they send.
use mathlib.Core.Path.{◌≡◌, refl, sym, ap, ◌∙◌}
use mathlib.Core.Bool.{Bool, true, false, cond, not, ◌&&◌}
use mathlib.Core.List.{[], ◌∷◌}
use Prim.Native.Nat.{ℕ, ◌≤◌, ◌<◌}
use native.Mathlib.Omega.{arith}
use borrow.Author.Tests.{ltb-false, eqb-true, le-ltb, eq-eqb, ne_eqb}
use lib.Dec.{ltb, eqb}
use Rattle.refusals.specs.Table.{config_order, refused_by}
use Rattle.tags.specs.Tags.{available}
use Rattle.tlp.specs.declared.request.Target.{Target}
use Rattle.ecam.specs.Route.{Route, OutOfRange, Local, Type0, Type1, NotRouted, DeviceNotZero, number_of}
use Rattle.ecam.specs.Request.{config_target, config_request}
use Rattle.ecam.proofs.Routes.{route_exactly}
use Rattle.ecam.proofs.Named.{type0_names, type1_names, type0_reaches, type1_reaches}
use Rattle.parts.specs.Cores.{Core}
use Rattle.machine.specs.Bridge.{Bridge}
use Rattle.machine.specs.State.{tag_count, slot_free, registers_of}
use Rattle.machine.specs.Memory.{area_size}
use Rattle.machine.specs.Config.{Access, route_of, goes_out, config_number, config_refusal}
use Rattle.bridge_laws.specs.RouteLaws.{RefusedFor, RouteRefused, Ready, Sends, Type0Sends, Type1Sends, SecondaryReached, BehindReached}
use Rattle.bridge_laws.proofs.ConfigLaws.{passes, routed_packet}

-- ---- refused

-- the route that a number of 9, 10 or 11 stands for
abbrev refused_route : ℕ → Route
refused_route n = cond (eqb n 9) OutOfRange (cond (eqb n 10) NotRouted DeviceNotZero)

back : (x : Route) → (number_of x ≡ 0 → ⊥) → refused_route (number_of x) ≡ x
back OutOfRange h = refl
back (Local w) h = absurd (h refl)
back Type0 h = absurd (h refl)
back Type1 h = absurd (h refl)
back NotRouted h = refl
back DeviceNotZero h = refl

-- such a number is none of the call's others
own : (x : Route) → (number_of x ≡ 0 → ⊥) → 8 < number_of x
own OutOfRange h = omega arith
own (Local w) h = absurd (h refl)
own Type0 h = absurd (h refl)
own Type1 h = absurd (h refl)
own NotRouted h = omega arith
own DeviceNotZero h = omega arith

-- a number above the others is the route's, and 8 and 5 were not given
asked : (c : Core) (y : Route) (room m : ℕ) → 8 < m → config_number c y room ≡ m
    → (area_size ≤ room) × (c.config.state ≡ slot_free) × (number_of y ≡ m)
unfolding config_number
asked c y room m h e =
    by (ltb room area_size) (eqb c.config.state slot_free) (eqb (number_of y) 0) (goes_out y && not c.registers.link)
    (goes_out y && eqb (available tag_count c.free) 0) refl refl e
  where
    by : (p q r u v : Bool) → ltb room area_size ≡ p → eqb c.config.state slot_free ≡ q
        → refused_by (config_order (number_of y)) (p ∷ not q ∷ not r ∷ u ∷ v ∷ []) ≡ m
        → (area_size ≤ room) × (c.config.state ≡ slot_free) × (number_of y ≡ m)
    by true q r u v ep eq e = absurd (omega (arith, h, e))
    by false false r u v ep eq e = absurd (omega (arith, h, e))
    by false true false u v ep eq e = (ltb-false _ _ ep, eqb-true _ _ eq, e)
    by false true true true v ep eq e = absurd (omega (arith, h, e))
    by false true true false true ep eq e = absurd (omega (arith, h, e))
    by false true true false false ep eq e = absurd (omega (arith, h, e))

pub route_refused : RouteRefused
unfolding config_number
route_refused b a room x h = (only, enough)
  where
    only : config_refusal b a room ≡ number_of x → RefusedFor b a room x
    only e =
        let t = asked b.core (route_of b a) room (number_of x) (own x h) e in
        record {
          long = t.0;
          free = t.1;
          when =
              (route_exactly b.settings.bits (registers_of b) a.offset x).0
              (sym (back (route_of b a) (λ z. h (sym t.2 ∙ z))) ∙ ap refused_route t.2 ∙ back x h);
        }

    enough : RefusedFor b a room x → config_refusal b a room ≡ number_of x
    enough w =
        rw (
          le-ltb room area_size w.long,
          eq-eqb b.core.config.state slot_free w.free,
          (route_exactly b.settings.bits (registers_of b) a.offset x).1 w.when,
          ne_eqb (number_of x) 0 h,
        )

-- ---- sent

module _ (b : Bridge) (a : Access) (room : ℕ) (y : Ready b room) where
  sends : (x : Route) (t : Target) → route_of b a ≡ x → goes_out x ≡ true → number_of x ≡ 0 → config_target (route_of b a) a.offset ≡ t
      → Sends b a room t
  unfolding config_request
  sends x t e g z s =
      let accepted =
      passes b.core (route_of b a) room
      (record { long = y.long; free = y.free; routed = ap number_of e ∙ z; up = λ h. y.up; tag = λ h. y.tag })
      in record {
        accepted = accepted;
        packet = routed_packet b a room (record { requester = y.requester; accepted = accepted; out = ap goes_out e ∙ g });
        target = s;
      }

pub type0_sends : Type0Sends
type0_sends b a room y e =
    sends b a room y Type0 _ e refl refl (type0_names b.settings.bits (registers_of b) a.offset y.bits e)

pub type1_sends : Type1Sends
type1_sends b a room y e =
    sends b a room y Type1 _ e refl refl (type1_names b.settings.bits (registers_of b) a.offset y.bits e)

pub secondary_reached : SecondaryReached
secondary_reached b a room p y o h e l z =
    let r = type0_reaches b.settings.bits (registers_of b) p h e l z in
    sends b a room y Type0 _ (rw o r.0) refl refl (rw o r.1)

pub behind_reached : BehindReached
behind_reached b a room p y o h l m =
    let r = type1_reaches b.settings.bits (registers_of b) p h l m in
    sends b a room y Type1 _ (rw o r.0) refl refl (rw o r.1)
