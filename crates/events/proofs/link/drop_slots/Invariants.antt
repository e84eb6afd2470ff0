use Rattle.std.proofs.Common.{◌≡◌, List, ℕ, length}
use Rattle.machine.specs.Ticks.{drop_slots}
use Rattle.machine.specs.Code.Tables.{held_of}
use Rattle.events.proofs.link.drop_slots.Given as goal

abbrev pub invariant-loop-k : goal.invariant-loop-k
invariant-loop-k l =
    (length l.store ≡ length l.initial.store)
    × ((cells : List ℕ) → held_of cells l.b l.store ≡ drop_slots (held_of cells l.initial.b l.initial.store) l.k)
