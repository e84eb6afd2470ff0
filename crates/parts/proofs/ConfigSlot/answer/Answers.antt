use Rattle.parts.proofs.ConfigSlot.answer.Goals as goal

pub returns-in-Failed : goal.returns-in-Failed
returns-in-Failed c = rw c.in-Failed.is (c.failed.ensures c.args.payload.now)
