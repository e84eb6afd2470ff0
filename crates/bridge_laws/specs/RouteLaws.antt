-- Configuration accesses by their route (01, 'Configuration space', with 02, A4): refusals 9, 10 and 11, and the function that
-- the header of an accepted access names. For every bridge and all arguments.
use Rattle.std.specs.Prelude.{◌≡◌, true, ℕ, ◌^◌, ◌≤◌, ◌<◌}
use Rattle.tags.specs.Tags.{available}
use Rattle.tlp.specs.declared.request.ConfigAddress.{ConfigAddress}
use Rattle.tlp.specs.declared.request.Target.{Target}
use Rattle.tlp.specs.declared.request.Target.TheVariants.{Config0, Config1}
use Rattle.ecam.specs.Route.{Route, Type0, Type1, number_of}
use Rattle.ecam.specs.Offset.{device, bus}
use Rattle.ecam.specs.RouteLaws.{Exactly, When, function_on, offset_of, OtherBus}
use Rattle.machine.specs.Bridge.{Bridge}
use Rattle.machine.specs.State.{tag_count, slot_free, registers_of}
use Rattle.machine.specs.Memory.{area_size}
use Rattle.machine.specs.Config.{Access, route_of, config_refusal}
use Rattle.bridge_laws.specs.ConfigLaws.{request_of, Packet}

-- ---- refused

-- 8 and 5 come before; 4 and 7 after, so neither the link nor the tags are asked
pub record RefusedFor (b : Bridge) (a : Access) (room : ℕ) (x : Route) : Type 0 where
  pub long : area_size ≤ room
  pub free : b.core.config.state ≡ slot_free
  pub when : When b.settings.bits (registers_of b) a.offset x

-- 9, 10 and 11, each exactly when
abbrev pub RouteRefused : Type 0
RouteRefused =
    (b : Bridge) (a : Access) (room : ℕ) (x : Route)
    → (number_of x ≡ 0 → ⊥)
    → Exactly (config_refusal b a room ≡ number_of x) (RefusedFor b a room x)

-- ---- sent

-- a bridge that can send: settings as accepted ones have them, a long area, the slot free, the link up, a tag free
pub record Ready (b : Bridge) (room : ℕ) : Type 0 where
  pub bits : b.settings.bits ≤ 8
  pub requester : b.settings.requester < 2 ^ 16
  pub long : area_size ≤ room
  pub free : b.core.config.state ≡ slot_free
  pub up : (registers_of b).link ≡ true
  pub tag : 0 < available tag_count b.core.free

-- the access is accepted, and what it sends is a request to this target
pub record Sends (b : Bridge) (a : Access) (room : ℕ) (t : Target) : Type 0 where
  pub accepted : config_refusal b a room ≡ 0
  pub packet : Packet b a
  pub target : (request_of b a).target ≡ t

-- a type 0 request names a function of device 0 on the secondary bus
abbrev pub Type0Sends : Type 0
Type0Sends =
    (b : Bridge) (a : Access) (room : ℕ)
    → Ready b room
    → route_of b a ≡ Type0
    → Sends b a room (Config0 (function_on (registers_of b).secondary 0 a.offset))

-- a type 1 request one of the offset's device on the offset's bus
abbrev pub Type1Sends : Type 0
Type1Sends =
    (b : Bridge) (a : Access) (room : ℕ)
    → Ready b room
    → route_of b a ≡ Type1
    → Sends b a room (Config1 (function_on (bus a.offset) (device a.offset) a.offset))

-- so each function of device 0 on the secondary bus is reached by its offset
abbrev pub SecondaryReached : Type 0
SecondaryReached =
    (b : Bridge) (a : Access) (room : ℕ) (p : ConfigAddress)
    → Ready b room
    → a.offset ≡ offset_of p
    → OtherBus b.settings.bits (registers_of b) p
    → p.bus ≡ (registers_of b).secondary
    → (registers_of b).secondary ≤ (registers_of b).subordinate
    → p.device ≡ 0
    → Sends b a room (Config0 p)

-- and, 'type 1 requests carry any device', each of every device on each bus behind it
abbrev pub BehindReached : Type 0
BehindReached =
    (b : Bridge) (a : Access) (room : ℕ) (p : ConfigAddress)
    → Ready b room
    → a.offset ≡ offset_of p
    → OtherBus b.settings.bits (registers_of b) p
    → (registers_of b).secondary < p.bus
    → p.bus ≤ (registers_of b).subordinate
    → Sends b a room (Config1 p)
