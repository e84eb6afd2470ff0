use Rattle.moves.proofs.routed.routed.Goals as goal

pub returns-clause-tables : goal.returns-clause-tables
returns-clause-tables c = λ cells. rw (← c.word.ensures, ← c.figures.ensures cells, ← c.open-b.ensures) (c.open.ensures cells)
