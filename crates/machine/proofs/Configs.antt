-- Configuration accesses: what an accepted one has passed, and what a routed one does.
use mathlib.Core.Path.{◌≡◌, refl, sym, ap, ◌∙◌}
use mathlib.Core.Bool.{Bool, true, false, not, ◌&&◌}
use mathlib.Core.List.{[], ◌∷◌}
use Prim.Native.Nat.{ℕ, ◌<◌, ◌≤◌}
use native.Mathlib.Omega.{arith}
use borrow.Author.Tests.{eq-eqb, ltb-false, eqb-true, eqb-false}
use lib.ListN.{length}
use lib.Dec.{ltb, eqb}
use Rattle.refusals.specs.declared.Response.TheVariants.{Nothing}
use Rattle.refusals.specs.Table.{refused_by, config_order}
use Rattle.tags.specs.Tags.{lowest, available}
use Rattle.tags.proofs.Tags.{lowest_is}
use Rattle.ecam.specs.Route.{Route, OutOfRange, Local, Type0, Type1, NotRouted, DeviceNotZero, number_of}
use Rattle.parts.specs.Cores.{Core}
use Rattle.machine.specs.Bridge.{Bridge}
use Rattle.machine.specs.State.{tag_count, accepted, answered}
use Rattle.machine.specs.Memory.{area_size}
use Rattle.machine.specs.Code.Passing.{Passed, AcceptedPassed}
use Rattle.machine.specs.Config.{Access, route_of, goes_out, config_number, config_refusal, routed_bridge, routed_bytes, config_bridge, config_step}

differ : false ≡ true → ⊥
differ h = let z : ◌≡◌ {A = ℕ} 0 1 = cc in omega arith

positive : (n : ℕ) → (n ≡ 0 → ⊥) → 0 < n
positive n h = omega arith

-- an access with number 0 has passed each test
pub passed : AcceptedPassed
unfolding config_number
passed c x room e =
    by (ltb room area_size) (eqb c.config.state 0) (eqb (number_of x) 0) (goes_out x) c.registers.link (eqb (available tag_count c.free) 0)
    refl refl refl refl refl refl e
  where
    by : (p q r g l t : Bool) → ltb room area_size ≡ p → eqb c.config.state 0 ≡ q → eqb (number_of x) 0 ≡ r → goes_out x ≡ g
        → c.registers.link ≡ l → eqb (available tag_count c.free) 0 ≡ t
        → refused_by (config_order (number_of x)) (p ∷ not q ∷ not r ∷ (g && not l) ∷ (g && t) ∷ []) ≡ 0 → Passed c x room
    by true q r g l t ep eq er eg el et e = absurd (omega arith)
    by false false r g l t ep eq er eg el et e = absurd (omega arith)
    by false true false g l t ep eq er eg el et e = absurd (eqb-false _ _ er e)
    by false true true false l t ep eq er eg el et e =
        record { long = ltb-false _ _ ep; free = eqb-true _ _ eq; routed = eqb-true _ _ er; up = λ h. absurd (differ (sym eg ∙ h)); tag = λ h. absurd (differ (sym eg ∙ h)) }
    by false true true true false t ep eq er eg el et e = absurd (omega arith)
    by false true true true true true ep eq er eg el et e = absurd (omega arith)
    by false true true true true false ep eq er eg el et e =
        record {
          long = ltb-false _ _ ep;
          free = eqb-true _ _ eq;
          routed = eqb-true _ _ er;
          up = λ h. el;
          tag = λ h. positive (available tag_count c.free) (eqb-false _ _ et);
        }

-- what a routed access needs: a free tag and room
pub ready : (c : Core) (x : Route) (room : ℕ) → config_number c x room ≡ 0 → goes_out x ≡ true
    → (lowest tag_count c.free < tag_count) × (area_size ≤ room)
ready c x room e h =
    let p = passed c x room e in
    ((lowest_is tag_count c.free (p.tag h)).tag.below, p.long)

sends : (b : Bridge) (a : Access) (x : Route) → goes_out x ≡ true → config_bridge b a x ≡ routed_bridge b a
sends b a OutOfRange h = absurd (differ h)
sends b a (Local w) h = absurd (differ h)
sends b a Type0 h = refl
sends b a Type1 h = refl
sends b a NotRouted h = absurd (differ h)
sends b a DeviceNotZero h = absurd (differ h)

pub routed_step : (b : Bridge) (a : Access) (room : ℕ) → config_refusal b a room ≡ 0 → goes_out (route_of b a) ≡ true
    → config_step b a room ≡ answered (routed_bridge b a) (accepted Nothing 8 (length (routed_bytes b a)) 0)
unfolding config_step
routed_step b a room e g =
    rw (eq-eqb _ _ e, g) (ap (λ (y : Bridge). answered y (accepted Nothing 8 (length (routed_bytes b a)) 0)) (sends b a (route_of b a) g))
