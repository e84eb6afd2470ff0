use mathlib.Core.Path.{◌≡◌, sym, ◌∙◌}
use mathlib.Core.Option.{none}
use native.Mathlib.Omega.{arith}
use borrow.Author.Tests.{eqb-true}
use lib.ListN.{length, take}
use Rattle.records.specs.Stream.{came, next_event}
use Rattle.records.specs.Code.Meaning.{reader_of}
use Rattle.records.proofs.Onward.{read_by, no_input, stopped, none_first, event_first}
use Rattle.records.proofs.Reader.read_on.Goals as goal
use Rattle.records.proofs.Reader.read_on.Goals.{then-is_empty-via-then-is_empty, then-is_empty-via-else-is_empty+then-not-is_reading}

pub returns-then-is_empty : goal.returns-then-is_empty
returns-then-is_empty c =
    let r = reader_of c.args.self c.args.held.now in
    let e : next_event r c.args.input.now ≡ came r none 0 = elim c.then-is_empty.branch [ then-is_empty-via-then-is_empty w ↦ no_input r c.args.input.now (omega (arith, eqb-true (length c.args.input.now) 0 (sym c.is_empty.ensures ∙ w.if-is_empty.true))) | then-is_empty-via-else-is_empty+then-not-is_reading w ↦ stopped r c.args.input.now (sym w.is_reading.ensures ∙ w.if-not-is_reading.true) ] in
    read_by c.args.self c.args.held.now c.args.input.now c.args.held.now _ c.if-held-lt-LONGEST.false (sym e)

pub returns-then-is_some : goal.returns-then-is_some
returns-then-is_some c = read_by c.args.self c.args.held.now c.args.input.now _ c.advance-first.result c.if-held-lt-LONGEST.false (event_first (reader_of c.args.self c.args.held.now) (reader_of c.advance-first.result.reader c.advance-first.new.held) c.args.input.now (take c.advance-first.result.used c.args.input.now) c.advance-first.new.held c.advance-first.result.got c.advance-first.result.used c.advance-first.ensures.0 c.advance-first.ensures.1 (sym c.is_some.ensures ∙ c.if-is_some.true))

pub returns : goal.returns
returns c = read_by c.args.self c.args.held.now c.args.input.now _ c.push_on.result c.if-held-lt-LONGEST.false (c.push_on.ensures ∙ sym (none_first (reader_of c.args.self c.args.held.now) (reader_of c.advance-first.result.reader c.advance-first.new.held) c.args.input.now (take c.advance-first.result.used c.args.input.now) c.advance-first.new.held c.advance-first.result.got c.advance-first.result.used c.advance-first.ensures.0 c.advance-first.ensures.1 (sym c.is_some.ensures ∙ c.if-is_some.false)))
