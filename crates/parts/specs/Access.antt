-- A configuration access: what refuses it, and its slot when it is finished (01, 'Configuration space', 'Completions').
use Rattle.std.specs.Prelude.{ℕ, Bool, true, false, cond, not, ◌&&◌, List, [], ◌∷◌, ◌==◌, nat_lt}
use Rattle.parts.specs.declared.ConfigSlot.{ConfigSlot}
use Rattle.verdict.specs.declared.Cause.TheVariants.{Timeout, UnsupportedRequest, RequestRetry, CompleterAbort, Poison}
use Rattle.parts.specs.Sizes.{slot_free, slot_open}
pub use Rattle.parts.specs.Sizes.{area_size}
use Rattle.parts.specs.Cores.{Core, tag_count, with_registers, with_config, done_config, figures_now}
use Rattle.verdict.specs.Verdict.{slverr, okay}
use Rattle.verdict.specs.declared.Verdict.{Verdict}
use Rattle.verdict.specs.declared.Verdict.TheVariants.{Unexpected, Good, Poisoned, Failed}
use Rattle.refusals.specs.Table.{refused_by, config_order}
use Rattle.ecam.specs.Request.{data_word}
use Rattle.tags.specs.Tags.{available}
pub use Rattle.ecam.specs.declared.access.Access.{Access}
use Rattle.ecam.specs.Route.{Route, OutOfRange, Local, Type0, Type1, NotRouted, DeviceNotZero, number_of}
use Rattle.ecam.specs.Registers.{local_read, local_write}

-- what a configuration call is given
abbrev pub access_of : ℕ → Bool → ℕ → ℕ → Access
access_of offset write strobes word = record { offset = offset; write = write; strobes = strobes; word = word }

-- type 0 and type 1 requests go out over the link
abbrev pub goes_out : Route → Bool
goes_out OutOfRange = false
goes_out (Local w) = false
goes_out Type0 = true
goes_out Type1 = true
goes_out NotRouted = false
goes_out DeviceNotZero = false

-- order: configuration 8, 5, 9, 10, 11, 4, 7, 'where a local access stops after 9'
unfoldable pub config_number : Core → Route → ℕ → ℕ
config_number c x room =
    refused_by (config_order (number_of x))
    (nat_lt room area_size
    ∷ not (c.config.state == slot_free)
    ∷ not (number_of x == 0)
    ∷ (goes_out x && not c.registers.link)
    ∷ (goes_out x && available tag_count c.free == 0)
    ∷ [])

-- 'finishes at once in the configuration slot, as OKAY'; the data word 'is 0 for writes'
unfoldable pub local_core : Core → Access → ℕ → Core
local_core c a w =
    with_registers (cond a.write (local_write c.registers w a.strobes a.word) c.registers)
    (with_config (done_config a.write okay (cond a.write 0 (local_read c.registers w)) (figures_now c)) c)

-- ---- its slot

-- finished; its session is that of its acceptance
abbrev pub config_done : ConfigSlot → ℕ → ℕ → ConfigSlot
config_done c code word = done_config c.write code word c.figures

-- 'UR read gives OKAY and all ones; UR write SLVERR. CRS, CA, poison, timeout: SLVERR, data 0'
unfoldable pub config_answer : ConfigSlot → List ℕ → Verdict → ConfigSlot
config_answer c payload Unexpected = c
config_answer c payload (Good n) = config_done c okay (cond c.write 0 (data_word payload))
config_answer c payload (Poisoned n) = config_done c slverr 0
config_answer c payload (Failed UnsupportedRequest) = cond c.write (config_done c slverr 0) (config_done c okay 0xFFFFFFFF)
config_answer c payload (Failed RequestRetry) = config_done c slverr 0
config_answer c payload (Failed CompleterAbort) = config_done c slverr 0
config_answer c payload (Failed Poison) = config_done c slverr 0
config_answer c payload (Failed Timeout) = config_done c slverr 0

-- 'Link going down .. finishes each open access as SLVERR with zero data'
abbrev pub drop_config : ConfigSlot → ConfigSlot
drop_config c = cond (c.state == slot_open) (config_done c slverr 0) c
