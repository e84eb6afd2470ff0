use native.Mathlib.Omega.{arith}
use lib.Pow.{pow_mono}
use Rattle.address.proofs.Steps.{one_shl}
use Rattle.burst.proofs.enables_of.Goals as goal

pub overflow_sub-result : goal.overflow_sub-result
overflow_sub-result c = rw (one_shl c.args.to 32 (omega arith), one_shl c.args.from 32 (omega arith)) (pow_mono c.requires.0)
