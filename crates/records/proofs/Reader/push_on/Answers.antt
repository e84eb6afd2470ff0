use mathlib.Core.Path.{sym, ◌∙◌}
use mathlib.Core.List.{[]}
use native.Mathlib.Omega.{arith}
use lib.ListN.{drop}
use Rattle.records.specs.Code.Meaning.{reader_of}
use Rattle.records.proofs.Onward.{stopped, halts, no_event}
use Rattle.records.proofs.Reader.push_on.Goals as goal

pub returns-then-not-is_reading : goal.returns-then-not-is_reading
returns-then-not-is_reading c =
    let r = reader_of c.loop-at.reader c.loop-at.held in
    let s = drop c.loop-at.at c.args.input.now in
    halts c.loop-at.at r s (stopped r s (sym c.is_reading.ensures ∙ c.if-not-is_reading.true)) ∙ sym c.loop-at.invariant

pub loop-at-preserved : goal.loop-at-preserved
loop-at-preserved c =
    c.loop-at.invariant
    ∙ no_event c.loop-at.at (reader_of c.loop-at.reader c.loop-at.held) _ c.args.input.now [] _ c.push-came.result.got (omega arith) (sym c.is_reading.ensures ∙ c.if-not-is_reading.false) (sym c.is_some.ensures ∙ c.if-is_some.false) (c.push-came.ensures.0 [])
