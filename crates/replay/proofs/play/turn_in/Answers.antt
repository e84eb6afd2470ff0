use Rattle.records.specs.Code.Meaning.{reader_of}
use Rattle.replay.proofs.Turns.{turned}
use Rattle.replay.proofs.play.turn_in.Goals as goal

pub returns-clause-turned : goal.returns-clause-turned
returns-clause-turned c =
    let w = c.advance-came.ensures in
    turned (reader_of c.args.r c.args.held.now) _ _ _ _ c.args.input.now c.advance-came.result.used _ c.args.rows.now _ c.args.at w.0 w.1 c.completed_in-played.ensures.event
