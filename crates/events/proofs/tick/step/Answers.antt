use Rattle.std.proofs.Common.{le-ltb}
use Rattle.machine.specs.Ticks.{ticked}
use Rattle.events.proofs.tick.step.Goals as goal

pub returns-then-not-is_quiet : goal.returns-then-not-is_quiet
unfolding ticked
returns-then-not-is_quiet c = λ cells. rw (le-ltb _ _ c.requires, ← c.next_tick-b.ensures) (c.expire_all.ensures cells)
