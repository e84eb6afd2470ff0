use Rattle.records.specs.Code.Meaning.{captured}
use Rattle.parts.specs.Code.Struct.{answer_of}
use Rattle.replay.proofs.Turns.{does_one}
use Rattle.replay.proofs.play.told_in.Goals as goal

pub returns-clause-told : goal.returns-clause-told
returns-clause-told c =
    does_one _ _ (captured c.args.e c.args.bytes.now) (answer_of c.event_in-answer.result) c.args.rows.now _ c.args.at c.event_in-answer.ensures.stage (c.put_row.ensures c.args.bytes.now)
