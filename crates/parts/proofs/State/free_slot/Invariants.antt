use Rattle.std.proofs.Common.{◌≡◌, ◌-◌}
use Rattle.parts.specs.Sizes.{slot_count}
use Rattle.parts.specs.Numbers.{free_slot_from}
use Rattle.parts.specs.Code.Struct.{states_of}
use Rattle.parts.proofs.State.free_slot.Given as goal

abbrev pub invariant-loop-k : goal.invariant-loop-k
invariant-loop-k l = free_slot_from (states_of l.self.slots) 0 slot_count ≡ free_slot_from (states_of l.self.slots) l.k (slot_count - l.k)
