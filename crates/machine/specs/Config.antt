-- Configuration accesses (01, 'Configuration space'). What refuses one, and a local one, are defined in
-- `parts`, the request of a routed one in Routed, and passed on.
use Rattle.std.specs.Prelude.{ℕ, List, [], cond, length, eqb}
use Rattle.tags.specs.Tags.{lowest}
use Rattle.ecam.specs.Route.{Route, OutOfRange, Local, Type0, Type1, NotRouted, DeviceNotZero, route}
use Rattle.refusals.specs.declared.Response.TheVariants.{Nothing}
pub use Rattle.parts.specs.Pendings.{word_pending}
use Rattle.machine.specs.State.{Bridge, Answered, tag_count, config_slot, with_config, open_config, figures_now, core_in, opened, accepted, answered, refused}
use Rattle.machine.specs.Memory.{filled, packet}
pub use Rattle.parts.specs.Access.{Access, access_of, goes_out}
unfoldable pub use Rattle.parts.specs.Access.{config_number, local_core}
pub use Rattle.machine.specs.Routed.{routed_request}
unfoldable pub use Rattle.machine.specs.Routed.{payload_of}

abbrev pub route_of : Bridge → Access → Route
route_of b a = route b.settings.bits b.core.registers a.offset

abbrev pub config_refusal : Bridge → Access → ℕ → ℕ
config_refusal b a room = config_number b.core (route_of b a) room

abbrev pub local_bridge : Bridge → Access → ℕ → Bridge
local_bridge b a w = core_in (local_core b.core a w) b

-- the configuration slot waits for an access
abbrev pub config_claimed : Access → Bridge → Bridge
config_claimed a b = core_in (with_config (open_config a.write (figures_now b.core)) b.core) b

unfoldable pub routed_bridge : Bridge → Access → Bridge
routed_bridge b a = opened (word_pending a.write) (config_claimed a b)

-- its header, and for a write its data word
abbrev pub routed_bytes : Bridge → Access → List ℕ
routed_bytes b a =
    packet (routed_request (route_of b a) a b.settings.requester (lowest tag_count b.core.free))
    (payload_of a.write a.word)

abbrev pub config_bridge : Bridge → Access → Route → Bridge
config_bridge b a OutOfRange = b
config_bridge b a (Local w) = local_bridge b a w
config_bridge b a Type0 = routed_bridge b a
config_bridge b a Type1 = routed_bridge b a
config_bridge b a NotRouted = b
config_bridge b a DeviceNotZero = b

abbrev pub config_bytes : Bridge → Access → List ℕ
config_bytes b a = cond (goes_out (route_of b a)) (routed_bytes b a) []

-- row 0: 'none yet, with the slot (8 for configuration)'
unfoldable pub config_step : Bridge → Access → ℕ → Answered
config_step b a room =
    cond (eqb (config_refusal b a room) 0)
    (answered (config_bridge b a (route_of b a)) (accepted Nothing config_slot (length (config_bytes b a)) 0))
    (refused (config_refusal b a room) b)

unfoldable pub config_area : Bridge → Access → List ℕ → List ℕ
config_area b a area = cond (eqb (config_refusal b a (length area)) 0) (filled (config_bytes b a) area) area
