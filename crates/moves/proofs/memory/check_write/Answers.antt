use Rattle.std.proofs.Common.{arith}
use Rattle.std.proofs.lemmas.Grind.{common_steps}
use Rattle.machine.specs.Memory.{write_refusal}
use Rattle.machine.proofs.Refusals.{wrong_burst_is, wrong_data_is}
use Rattle.moves.proofs.memory.check_write.Goals as goal

pub returns-in_err-check : goal.returns-in_err-check
unfolding write_refusal
returns-in_err-check c = λ cells. let w = wrong_burst_is c.args.q _ c.in_err-check.ensures in grind (arith, common_steps, w)

pub returns-in_err-check_data : goal.returns-in_err-check_data
unfolding write_refusal
returns-in_err-check_data c = λ cells. let w = wrong_data_is c.args.q c.args.len _ c.in_err-check_data.ensures in grind (arith, common_steps, w)
