use Rattle.machine.specs.Memory.{claimed}
use Rattle.machine.proofs.Tables.{put_slot}
use Rattle.moves.proofs.opening.claim.Goals as goal

pub returns-clause-tables : goal.returns-clause-tables
unfolding claimed
returns-clause-tables c = λ cells. rw (← c.length-n.ensures.0, ← c.piece_count.ensures) (put_slot cells c.args.b.now c.args.slot.number _)
