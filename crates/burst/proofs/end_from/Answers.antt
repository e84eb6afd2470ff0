use native.Mathlib.Omega.{arith}
use Rattle.address.proofs.Steps.{one_shl}
use Rattle.burst.specs.Bursts.{end_from}
use Rattle.burst.proofs.end_from.Goals as goal

pub returns : goal.returns
unfolding end_from
returns c = rw (one_shl c.args.size 64 (omega arith), c.from.ensures)
