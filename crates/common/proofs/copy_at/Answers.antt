use Rattle.std.proofs.Common.{refl, add-one, arith}
use lib.ListN.{length-set}
use lib.Seq.{paste-zero, paste-suc}
use Rattle.common.proofs.copy_at.Goals as goal

pub loop-i-init : goal.loop-i-init
loop-i-init c = (refl, paste-zero c.args.dst.now c.args.at c.args.src.now)

pub loop-i-preserved : goal.loop-i-preserved
loop-i-preserved c =
    let a = c.args in
    let i = c.loop-i.i in (
      simp length-set c.loop-i.invariant.0,
      rw (c.loop-i.invariant.1, add-one i)
          (paste-suc a.dst.now a.at a.src.now i 0 (omega arith) (omega arith)),
    )
