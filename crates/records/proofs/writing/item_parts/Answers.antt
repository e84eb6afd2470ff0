use Rattle.records.proofs.Holding.{holds_end}
use Rattle.records.proofs.Laying.{lays_end}
use Rattle.records.proofs.writing.item_parts.Goals as goal

pub returns-in-End : goal.returns-in-End
returns-in-End c = rw (c.in-End.is, c.then_some.ensures) (lays_end c.in-End.n _ c.args.lent.now (holds_end c.in-End.n))
