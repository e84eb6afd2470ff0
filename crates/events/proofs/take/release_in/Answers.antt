use Rattle.std.proofs.Common.{ap, lt-ltb, le-ltb}
use Rattle.parts.specs.Answers.{taken, response_of}
use Rattle.machine.specs.Bridge.{Bridge}
use Rattle.machine.specs.State.{answered, refused}
use Rattle.machine.specs.Take.{slot_freed, release_step}
use Rattle.machine.proofs.Tables.{slot_row, cause_cell, session_cell, put_state_lem}
use Rattle.events.proofs.Taking.{is_refused}
use Rattle.events.proofs.take.release_in.Goals as goal

pub returns-in-Err : goal.returns-in-Err
unfolding release_step refused
returns-in-Err c = λ cells. rw (← c.in-Err.ensures cells, is_refused c.in-Err.why, c.refuse.ensures.core cells, c.refuse.ensures.answer)

pub returns-then-slot-lt-CONFIG_SLOT : goal.returns-then-slot-lt-CONFIG_SLOT
unfolding release_step slot_freed
returns-then-slot-lt-CONFIG_SLOT c = λ cells. let b = c.args.b.now in let k = c.args.slot in
    rw (← c.in_default.ensures cells, lt-ltb _ _ c.if-slot-lt-CONFIG_SLOT.true, cause_cell b.slots k, session_cell b.slots k, c.taken.ensures, c.response_of.ensures)
    (ap (λ (x : Bridge). answered x (taken (response_of (slot_row b k).cause) 0 (record { session = (slot_row b k).session }))) (put_state_lem cells b k 0))

pub returns : goal.returns
unfolding release_step slot_freed
returns c = λ cells. rw (← c.in_default.ensures cells, le-ltb _ _ c.if-slot-lt-CONFIG_SLOT.false, c.taken-2.ensures, c.response_of-2.ensures, c.free-b.ensures)
