-- How the code has a route: a refused one is an error, and the others are the cases of its enum.
use Rattle.std.specs.Prelude.{Result, Ok, Err}
use Rattle.refusals.specs.declared.Refusal.{Refusal}
use Rattle.refusals.specs.declared.Refusal.TheVariants as refusal
use Rattle.ecam.specs.declared.access.Route as declared
use Rattle.ecam.specs.declared.access.Route.TheVariants as code
use Rattle.ecam.specs.Route.{Route, OutOfRange, Local, Type0, Type1, NotRouted, DeviceNotZero}

-- what the code answers for each route
abbrev pub outcome : Route → Result declared.Route Refusal
outcome OutOfRange = Err refusal.OffsetOver
outcome (Local w) = Ok (code.Local w)
outcome Type0 = Ok code.Type0
outcome Type1 = Ok code.Type1
outcome NotRouted = Err refusal.NotRouted
outcome DeviceNotZero = Err refusal.WrongDevice

-- the route that is not refused
abbrev pub route_in : declared.Route → Route
route_in (code.Local w) = Local w
route_in code.Type0 = Type0
route_in code.Type1 = Type1

-- the route that is refused so; of a refusal that no route has, as of 10
abbrev pub refused_route : Refusal → Route
refused_route refusal.OffsetOver = OutOfRange
refused_route refusal.WrongDevice = DeviceNotZero
refused_route r = NotRouted

-- the route, refused or not, that a result stands for
abbrev pub route_to : Result declared.Route Refusal → Route
route_to (Ok x) = route_in x
route_to (Err r) = refused_route r
