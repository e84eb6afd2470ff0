use Rattle.std.proofs.Common.{lt-ltb}
use Rattle.machine.specs.Completions.{faulted}
use Rattle.machine.proofs.Tables.{fault_cell, put_fault_cause}
use Rattle.moves.proofs.slots.fault.Goals as goal

pub returns-then-place-row-clause-tables : goal.returns-then-place-row-clause-tables
unfolding faulted
returns-then-place-row-clause-tables c = λ cells. rw (fault_cell c.args.b.now.slots c.args.k.number, lt-ltb _ _ c.if-place-row.true) (put_fault_cause cells c.args.b.now c.args.k.number c.args.place c.args.code)
