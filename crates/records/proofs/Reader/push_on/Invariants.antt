use mathlib.Core.Path.{◌≡◌}
use lib.ListN.{drop}
use Rattle.records.specs.Code.Steps.{later}
use Rattle.records.specs.Code.Meaning.{reader_of}
use Rattle.records.specs.Stream.{next_event}
use Rattle.records.proofs.Reader.push_on.Given as goal

-- the bytes up to here completed no event
abbrev pub invariant-loop-at : goal.invariant-loop-at
invariant-loop-at l =
    later l.from (next_event (reader_of l.fn.self l.initial.held) (drop l.from l.input))
    ≡ later l.at (next_event (reader_of l.reader l.held) (drop l.at l.input))
