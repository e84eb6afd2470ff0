-- The core of a bridge: registers, tick counter, session counter, free tags and configuration slot.
use Rattle.std.specs.Prelude.{ℕ, ◌+◌, ◌-◌, ◌%◌, ◌^◌, Bool, false, cond, not, ◌&&◌}
use Rattle.parts.specs.declared.ConfigSlot.{ConfigSlot}
use Rattle.parts.specs.declared.Figures.{Figures}
use Rattle.ecam.specs.Registers.{Registers, fresh, raised, with_decode, with_link}
use Rattle.verdict.specs.Verdict.{okay}
use Rattle.parts.specs.Sizes.{slot_free, slot_open, slot_finished}
pub use Rattle.parts.specs.Sizes.{tag_count}

pub record Core : Type 0 where
  pub registers : Registers
  pub ticks : ℕ
  -- how often a down link went up, mod 2^32
  pub session : ℕ
  -- the free tags, as the ones of a word
  pub free : ℕ
  pub config : ConfigSlot

-- ---- one part put anew

abbrev pub with_registers : Registers → Core → Core
with_registers r c = record { registers = r; ticks = c.ticks; session = c.session; free = c.free; config = c.config }

abbrev pub with_ticks : ℕ → Core → Core
with_ticks x c = record { registers = c.registers; ticks = x; session = c.session; free = c.free; config = c.config }

abbrev pub with_session : ℕ → Core → Core
with_session x c = record { registers = c.registers; ticks = c.ticks; session = x; free = c.free; config = c.config }

abbrev pub with_free : ℕ → Core → Core
with_free x c = record { registers = c.registers; ticks = c.ticks; session = c.session; free = x; config = c.config }

abbrev pub with_config : ConfigSlot → Core → Core
with_config x c = record { registers = c.registers; ticks = c.ticks; session = c.session; free = c.free; config = x }

-- a decode bit is set
unfoldable pub raised_core : ℕ → Core → Core
raised_core i c = with_registers (with_decode c.registers (raised c.registers.decode i)) c

-- ---- figures of a kept answer

-- what every answer but an accepted release's reports: 'Refused calls report it, and figures added later, as 0'
abbrev pub no_figures : Figures
no_figures = record { session = 0 }

-- those of an access that is accepted now
abbrev pub figures_now : Core → Figures
figures_now c = record { session = c.session }

-- ---- the configuration slot: free, open for an access, and finished

abbrev pub free_config : ConfigSlot
free_config = record { state = slot_free; write = false; response = okay; word = 0; figures = no_figures }

-- a routed access waits
abbrev pub open_config : Bool → Figures → ConfigSlot
open_config write figures = record { state = slot_open; write = write; response = okay; word = 0; figures = figures }

-- an access is finished with a response and a data word
abbrev pub done_config : Bool → ℕ → ℕ → Figures → ConfigSlot
done_config write code word figures =
    record { state = slot_finished; write = write; response = code; word = word; figures = figures }

-- ---- a fresh core

-- 'its link down, all registers and the tick counter zero, 32 free tags .. and one free configuration slot'; the link has not
-- gone up yet
unfoldable pub fresh_core : Core
fresh_core = record { registers = fresh; ticks = 0; session = 0; free = 2 ^ tag_count - 1; config = free_config }

-- ---- the link

abbrev pub link_in : Bool → Core → Core
link_in up c = with_registers (with_link c.registers up) c

-- 'counting how often a down link went up and starting again at zero after its last value'
abbrev pub next_session : ℕ → ℕ
next_session x = (x + 1) % 2 ^ 32

-- a link event that finds the link down and brings it up begins a session; a repeated one and a drop do not
abbrev pub session_after : Bool → Core → ℕ
session_after up c = cond (up && not c.registers.link) (next_session c.session) c.session

-- a link event that is no drop: the link goes up, or the event repeats its present state
abbrev pub link_to : Bool → Core → Core
link_to up c = link_in up (with_session (session_after up c) c)
