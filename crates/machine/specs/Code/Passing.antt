-- A configuration access inside its call: the tests that an accepted one has passed, and the core of one that stays.
use Rattle.std.specs.Prelude.{◌≡◌, true, ℕ, ◌≤◌, ◌<◌}
use Rattle.tags.specs.Tags.{available}
use Rattle.ecam.specs.Route.{Route, OutOfRange, Local, Type0, Type1, NotRouted, DeviceNotZero, number_of}
use Rattle.parts.specs.Cores.{Core}
use Rattle.machine.specs.State.{tag_count}
use Rattle.machine.specs.Memory.{area_size}
use Rattle.machine.specs.Config.{Access, goes_out, config_number, local_core}

-- the area is long enough, the slot free and the route not refused and, where it goes out, the link is up and a tag is free
pub record Passed (c : Core) (x : Route) (room : ℕ) : Type 0 where
  pub long : area_size ≤ room
  pub free : c.config.state ≡ 0
  pub routed : number_of x ≡ 0
  pub up : goes_out x ≡ true → c.registers.link ≡ true
  pub tag : goes_out x ≡ true → 0 < available tag_count c.free

abbrev pub AcceptedPassed : Type 0
AcceptedPassed = (c : Core) (x : Route) (room : ℕ) → config_number c x room ≡ 0 → Passed c x room

-- what an access that does not go out leaves: a local one is finished, and a route that is refused changes nothing
abbrev pub stayed : Core → Access → Route → Core
stayed c a OutOfRange = c
stayed c a (Local w) = local_core c a w
stayed c a Type0 = c
stayed c a Type1 = c
stayed c a NotRouted = c
stayed c a DeviceNotZero = c
