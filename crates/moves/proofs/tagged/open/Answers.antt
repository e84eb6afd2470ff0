use Rattle.machine.specs.State.{opened}
use Rattle.std.proofs.Common.{set}
use Rattle.parts.specs.declared.State.{State}
use Rattle.machine.proofs.Tables.{put_tag}
use Rattle.moves.proofs.tagged.open.Goals as goal

pub returns : goal.returns
unfolding opened
returns c = λ cells.
    let b = c.args.b.now in
    let t = c.lowest-tag.result in
    let d : State = record { settings = b.settings; core = record { registers = b.core.registers; ticks = b.core.ticks; session = b.core.session; free = c.taken-b.result; config = b.core.config }; missing = set b.missing t c.args.p.missing; tags = b.tags; slots = b.slots } in
    rw (← c.lowest-tag.ensures, ← c.taken-b.ensures) (put_tag cells d t _)
