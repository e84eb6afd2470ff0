use Rattle.std.proofs.Common.{eq-eqb, ne_eqb, ap, min, arith}
use Rattle.parts.specs.Sizes.{slot_size}
use Rattle.machine.specs.Stores.{zeroed}
use Rattle.machine.specs.Bridge.{Bridge}
use Rattle.machine.specs.Completions.{held, finished}
use Rattle.machine.proofs.Tables.{slot_row, cause_cell, size_cell, put_state_pieces}
use Rattle.moves.proofs.slots.finish.Goals as goal

pub returns-then-row-ne0-clause-tables : goal.returns-then-row-ne0-clause-tables
unfolding finished
returns-then-row-ne0-clause-tables c = λ cells. let b = c.args.b.now in let k = c.args.k.number in
    rw (cause_cell b.slots k, ne_eqb (slot_row b k).cause 0 (omega (arith, c.if-row-ne0.true)), size_cell b.slots k, c.clear_slot.ensures, c.within_slot.ensures.0)
    (ap (λ (x : Bridge). held x (zeroed k (min (slot_row b k).size slot_size) c.args.store.now)) (put_state_pieces cells b k 2 0))

pub returns-else-row-ne0-clause-tables : goal.returns-else-row-ne0-clause-tables
unfolding finished
returns-else-row-ne0-clause-tables c = λ cells. let b = c.args.b.now in let k = c.args.k.number in
    rw (cause_cell b.slots k, eq-eqb (slot_row b k).cause 0 (omega (arith, c.if-row-ne0.false))) (ap (λ (x : Bridge). held x c.args.store.now) (put_state_pieces cells b k 2 0))
