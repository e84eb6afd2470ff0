use native.Mathlib.Omega.{arith}
use borrow.Author.Rules.{rules}
use Rattle.records.proofs.Files.{part_all, stops_more, stops_bad, stops_end, sized, goes}
use Rattle.records.proofs.file.verdict_of.Goals as goal

pub returns-in-More : goal.returns-in-More
returns-in-More c = stops_more c.args.s.now c.loop-size.events c.loop-size.at c.loop-size.invariant _ (part_all c.args.s.now c.loop-size.at) c.next.result c.next.ensures c.in-More.is

pub returns-in-Bad : goal.returns-in-Bad
returns-in-Bad c = stops_bad c.args.s.now c.loop-size.events c.loop-size.at c.loop-size.invariant _ (part_all c.args.s.now c.loop-size.at) c.next.result c.next.ensures c.in-Bad.fault c.in-Bad.is

pub returns-in-End : goal.returns-in-End
returns-in-End c = stops_end c.args.s.now c.loop-size.events c.loop-size.at c.loop-size.invariant _ (part_all c.args.s.now c.loop-size.at) c.next.result c.next.ensures c.in-End.is

pub overflow_add-at : goal.overflow_add-at
overflow_add-at c = let z = sized c.args.s.now c.loop-size.events c.loop-size.at c.loop-size.invariant _ (part_all c.args.s.now c.loop-size.at) c.next.result c.next.ensures c.in-Whole.field-0 c.in-Whole.size c.in-Whole.is in search (rules, z)

pub loop-size-smaller : goal.loop-size-smaller
loop-size-smaller c = omega (arith, sized c.args.s.now c.loop-size.events c.loop-size.at c.loop-size.invariant _ (part_all c.args.s.now c.loop-size.at) c.next.result c.next.ensures c.in-Whole.field-0 c.in-Whole.size c.in-Whole.is)

pub loop-size-preserved : goal.loop-size-preserved
loop-size-preserved c = goes c.args.s.now c.loop-size.events c.loop-size.at c.loop-size.invariant _ (part_all c.args.s.now c.loop-size.at) c.next.result c.next.ensures c.in-Whole.field-0 c.in-Whole.size c.in-Whole.is
