-- A refused route does not go out.
use mathlib.Core.Path.{◌≡◌, refl}
use mathlib.Core.Bool.{false}
use Rattle.refusals.specs.declared.Refusal.{Refusal}
use Rattle.ecam.specs.Route.{Route}
use Rattle.ecam.specs.Code.Routed.{refused_route}
use Rattle.ecam.proofs.Routed.{by_refused}
use Rattle.parts.specs.Access.{goes_out}

pub refused_stays : (r : Refusal) → goes_out (refused_route r) ≡ false
refused_stays r = by_refused (λ (y : Route). goes_out y ≡ false) refl refl refl r
