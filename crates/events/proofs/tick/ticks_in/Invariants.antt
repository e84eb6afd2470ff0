use Rattle.std.proofs.Common.{◌≡◌, List, ℕ, length}
use Rattle.machine.specs.Ticks.{ticked_to}
use Rattle.machine.specs.Code.Tables.{held_of}
use Rattle.events.proofs.tick.ticks_in.Given as goal

abbrev pub invariant-loop-done : goal.invariant-loop-done
invariant-loop-done l =
    (length l.store ≡ length l.initial.store)
    × ((cells : List ℕ) → held_of cells l.b l.store ≡ ticked_to (held_of cells l.initial.b l.initial.store) l.done)
