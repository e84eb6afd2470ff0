use Rattle.std.proofs.Common.{eq-eqb, ap, min}
use Rattle.parts.specs.Sizes.{slot_size}
use Rattle.machine.specs.Stores.{zeroed}
use Rattle.machine.specs.Bridge.{Bridge}
use Rattle.machine.specs.Completions.{held}
use Rattle.machine.specs.Ticks.{drop_slot}
use Rattle.machine.proofs.Tables.{slot_row, state_cell, size_cell, put_dropped}
use Rattle.moves.proofs.slots.drop_slot.Goals as goal

pub returns-then-row-eq-OPEN-clause-tables : goal.returns-then-row-eq-OPEN-clause-tables
unfolding drop_slot
returns-then-row-eq-OPEN-clause-tables c = λ cells. let b = c.args.b.now in let k = c.args.k.number in
    rw (state_cell b.slots k, eq-eqb _ _ c.if-row-eq-OPEN.true, size_cell b.slots k, c.clear_slot.ensures, c.within_slot.ensures.0)
    (ap (λ (x : Bridge). held x (zeroed k (min (slot_row b k).size slot_size) c.args.store.now)) (put_dropped cells b k 2))
