use Rattle.parts.specs.Access.{local_core}
use Rattle.parts.proofs.Core.finish_local.Goals as goal

pub returns-then-a : goal.returns-then-a
unfolding local_core
returns-then-a c = rw (c.done-self.ensures, c.local_write-self.ensures, c.open-slot.ensures, c.figures.ensures c.args.cells.now, c.if-a.true)

pub returns-else-a : goal.returns-else-a
unfolding local_core
returns-else-a c = rw (c.done-self-else-a.ensures, c.local_read.ensures, c.open-slot.ensures, c.figures.ensures c.args.cells.now, c.if-a.false)
