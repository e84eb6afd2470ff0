use Rattle.std.proofs.Common.{arith}
use Rattle.std.proofs.lemmas.Grind.{common_steps}
use Rattle.machine.proofs.Refusals.{wrong_burst_is}
use Rattle.moves.proofs.memory.check_read.Goals as goal

pub returns-in_err-check-clause-number : goal.returns-in_err-check-clause-number
returns-in_err-check-clause-number c = λ cells. let w = wrong_burst_is c.args.q _ c.in_err-check.ensures in grind (arith, common_steps, w)
