-- A refused access leaves the core as it is.
use mathlib.Core.Path.{◌≡◌, refl}
use Rattle.refusals.specs.declared.Refusal.{Refusal}
use Rattle.ecam.specs.Route.{Route}
use Rattle.ecam.specs.Code.Routed.{refused_route}
use Rattle.ecam.proofs.Routed.{by_refused}
use Rattle.parts.specs.Cores.{Core}
use Rattle.parts.specs.Access.{Access}
use Rattle.machine.specs.Code.Passing.{stayed}

pub refused_kept : (c : Core) (a : Access) (r : Refusal) → stayed c a (refused_route r) ≡ c
refused_kept c a r = by_refused (λ (y : Route). stayed c a y ≡ c) refl refl refl r
