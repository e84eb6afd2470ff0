use Rattle.std.proofs.Common.{[], sym, length, arith}
use Rattle.refusals.specs.Refusals.{number_of}
use Rattle.machine.specs.State.{refused}
use Rattle.machine.specs.Code.Tables.{bridge_of}
use Rattle.machine.proofs.Refusals.{not_zero, write_ok, data_length, write_refused, write_done}
use Rattle.events.proofs.memory.write_in.Goals as goal

pub returns-in-Err-clause-step : goal.returns-in-Err-clause-step
unfolding refused
returns-in-Err-clause-step c = λ cells.
    let a = c.args in
    let why = c.in-Err.why in
    rw (c.refuse.ensures.core cells, c.refuse.ensures.answer)
    (write_refused (bridge_of cells a.b.now) a.q a.bytes.now a.area.now (number_of why) (c.in-Err.ensures cells) (not_zero why)).0

pub returns-in-Err-clause-area : goal.returns-in-Err-clause-area
returns-in-Err-clause-area c = λ cells.
    let a = c.args in
    let why = c.in-Err.why in
    (write_refused (bridge_of cells a.b.now) a.q a.bytes.now a.area.now (number_of why) (c.in-Err.ensures cells) (not_zero why)).1

pub write_pieces-sent-requires : goal.write_pieces-sent-requires
write_pieces-sent-requires c =
    let a = c.args in
    let ok = write_ok (bridge_of [] a.b.now) a.q (length a.bytes.now) (length a.area.now) (sym (c.in-Ok.ensures [])) in
    omega (arith, data_length a.q (length a.bytes.now) ok.bytes)

pub returns-in-Ok-clause-step : goal.returns-in-Ok-clause-step
returns-in-Ok-clause-step c = λ cells.
    let a = c.args in
    let w = c.write_pieces-sent in
    rw c.sent.ensures (write_done (bridge_of cells a.b.now) a.q a.bytes.now a.area.now w.new.area w.result (sym (c.in-Ok.ensures cells)) w.ensures.0 w.ensures.1).0

pub returns-in-Ok-clause-area : goal.returns-in-Ok-clause-area
returns-in-Ok-clause-area c = λ cells.
    let a = c.args in
    let w = c.write_pieces-sent in
    (write_done (bridge_of cells a.b.now) a.q a.bytes.now a.area.now w.new.area w.result (sym (c.in-Ok.ensures cells)) w.ensures.0 w.ensures.1).1
