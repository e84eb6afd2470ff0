use Rattle.std.proofs.Common.{◌≡◌, List, ℕ, length}
use Rattle.machine.specs.Ticks.{expire_to}
use Rattle.machine.specs.Code.Tables.{held_of}
use Rattle.events.proofs.tick.expire_all.Given as goal

abbrev pub invariant-loop-t : goal.invariant-loop-t
invariant-loop-t l =
    (length l.store ≡ length l.initial.store)
    × ((cells : List ℕ) → held_of cells l.b l.store ≡ expire_to (held_of cells l.initial.b l.initial.store) l.t)
