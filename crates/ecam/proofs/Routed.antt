-- What the code answers for a route: its number, and the route that is not refused.
use mathlib.Core.Path.{◌≡◌, refl}
use Prim.Native.Nat.{ℕ}
use Rattle.std.specs.Prelude.{Ok}
use Rattle.refusals.specs.declared.Refusal.{Refusal}
use Rattle.refusals.specs.declared.Refusal.TheVariants as refusal
use Rattle.refusals.specs.Refusals.{number_in}
use Rattle.ecam.specs.declared.access.Route as declared
use Rattle.ecam.specs.Route.{Route, OutOfRange, Local, Type0, Type1, NotRouted, DeviceNotZero, number_of}
use Rattle.ecam.specs.Request.{config_target}
use Rattle.ecam.specs.Code.Routed.{outcome, route_in, refused_route, route_to}

pub outcome_number : (y : Route) → number_in (outcome y) ≡ number_of y
outcome_number OutOfRange = refl
outcome_number (Local w) = refl
outcome_number Type0 = refl
outcome_number Type1 = refl
outcome_number NotRouted = refl
outcome_number DeviceNotZero = refl

pub outcome_ok : (x : declared.Route) (y : Route) → Ok x ≡ outcome y → y ≡ route_in x
outcome_ok x OutOfRange e = cc
outcome_ok x (Local w) e = cc
outcome_ok x Type0 e = cc
outcome_ok x Type1 e = cc
outcome_ok x NotRouted e = cc
outcome_ok x DeviceNotZero e = cc

-- a result stands for the route of which it is the outcome
pub outcome_route : (y : Route) → route_to (outcome y) ≡ y
outcome_route OutOfRange = refl
outcome_route (Local w) = refl
outcome_route Type0 = refl
outcome_route Type1 = refl
outcome_route NotRouted = refl
outcome_route DeviceNotZero = refl

-- what is refused has three routes
pub by_refused : (P : Route → Type 0) → P OutOfRange → P NotRouted → P DeviceNotZero → (r : Refusal) → P (refused_route r)
by_refused P o n d refusal.Setting = n
by_refused P o n d refusal.NoWindow = n
by_refused P o n d refusal.WrongBurst = n
by_refused P o n d refusal.LinkDown = n
by_refused P o n d refusal.ConfigBusy = n
by_refused P o n d refusal.SlotsUsed = n
by_refused P o n d refusal.FewTags = n
by_refused P o n d refusal.TooShort = n
by_refused P o n d refusal.OffsetOver = o
by_refused P o n d refusal.NotRouted = n
by_refused P o n d refusal.WrongDevice = d
by_refused P o n d refusal.Malformed = n
by_refused P o n d refusal.NotExpected = n
by_refused P o n d refusal.NotFinished = n
by_refused P o n d refusal.WrongData = n

pub refused_target : (r : Refusal) (o : ℕ) → config_target (refused_route r) o ≡ config_target Type0 o
unfolding config_target
refused_target r o = by_refused (λ (y : Route). config_target y o ≡ config_target Type0 o) refl refl refl r
