use Rattle.std.proofs.Common.{ap, ◌-◌}
use borrow.Author.Tests.{lt-leb}
use Rattle.machine.specs.Bridge.{Bridge}
use Rattle.machine.specs.Completions.{held, piece_closed}
use Rattle.machine.proofs.Tables.{slot_row, pieces_cell, put_pieces_lem}
use Rattle.moves.proofs.slots.close_piece.Goals as goal

pub returns-else-row-le1-clause-tables : goal.returns-else-row-le1-clause-tables
unfolding piece_closed
returns-else-row-le1-clause-tables c = λ cells. let b = c.args.b.now in let k = c.args.k.number in
    rw (pieces_cell b.slots k, lt-leb _ _ c.if-row-le1.false) (ap (λ (x : Bridge). held x c.args.store.now) (put_pieces_lem cells b k ((slot_row b k).pieces - 1)))
