use Rattle.std.proofs.Common.{◌≡◌, List, ℕ, length, ◌+◌, ◌*◌, ◌≤◌}
use Rattle.parts.specs.Sizes.{tag_count}
use Rattle.tags.specs.Tags.{available}
use Rattle.machine.specs.Code.Tables.{bridge_of}
use Rattle.machine.proofs.Reading.{Turned}
use Rattle.events.proofs.memory.read_pieces.Given as goal

abbrev pub invariant-loop-k : goal.invariant-loop-k
invariant-loop-k l =
    (l.b.settings ≡ l.initial.b.settings)
    × ((available tag_count l.b.core.free + l.k ≡ available tag_count l.initial.b.core.free)
    × ((l.at ≤ 16 * l.k)
    × ((length l.area ≡ length l.initial.area)
    × ((cells : List ℕ) → Turned l.fn.slot.number l.fn.q (bridge_of cells l.initial.b) (bridge_of cells l.b) l.initial.area l.area l.at l.k))))
