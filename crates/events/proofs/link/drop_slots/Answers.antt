use Rattle.std.proofs.Common.{refl, ◌∙◌, add-one}
use Rattle.machine.specs.Ticks.{drop_slots}
use Rattle.events.proofs.link.drop_slots.Goals as goal

pub loop-k-init : goal.loop-k-init
unfolding drop_slots
loop-k-init c = (refl, λ cells. refl)

pub loop-k-preserved : goal.loop-k-preserved
unfolding drop_slots
loop-k-preserved c =
    (c.drop_slot.auto.store ∙ c.loop-k.invariant.0, λ cells. rw (add-one, ← c.loop-k.invariant.1 cells) (c.drop_slot.ensures.tables cells))
