-- The bridge that a struct of the code is: its tables' columns.
use Rattle.std.specs.Prelude.{◌≡◌, List, length, ℕ}
use Rattle.messages.specs.declared.queue.Ring.{Ring}
use Rattle.parts.specs.Sizes.{tag_count, slot_count}
use Rattle.parts.specs.Code.Struct.{core_at, answer_of}
use Rattle.bridge.specs.declared.Bridge as code
use Rattle.bridge.specs.declared.Answered as answer
use Rattle.machine.specs.State.{Bridge, Answered, answered}
use Rattle.machine.specs.Code.Tables.{bridge_of}

abbrev pub view_of : code.Bridge → Bridge
view_of b = bridge_of b.cells b.state

-- an answered call
abbrev pub step_of : answer.Answered → Answered
step_of r = answered (view_of r.bridge) (answer_of r.answer)

-- ---- two structs with the same view are equal, but for where the queued messages stand in their cells

-- the tables have their lengths: `Bridge::registers` says so of every struct
pub record Whole (b : code.Bridge) : Type 0 where
  pub tags : length b.state.tags ≡ tag_count
  pub slots : length b.state.slots ≡ slot_count

-- a struct with its queue elsewhere
abbrev pub moved : Ring → List ℕ → code.Bridge → code.Bridge
moved ring cells b =
    record {
      state = record { settings = b.state.settings; core = core_at ring (view_of b).core; missing = b.state.missing; tags = b.state.tags; slots = b.state.slots };
      cells = cells;
    }

abbrev pub ViewDecides : Type 0
ViewDecides =
    (x y : code.Bridge) → Whole x → Whole y → view_of x ≡ view_of y → moved y.state.core.registers.errors y.cells x ≡ y
