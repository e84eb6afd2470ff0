use Rattle.std.proofs.Common.{refl, sym, ◌∙◌, add-one}
use Rattle.machine.specs.Ticks.{expire, expire_to}
use Rattle.machine.proofs.Tables.{place_cell, sent_cell}
use Rattle.events.proofs.tick.expire_all.Goals as goal
use Rattle.events.proofs.tick.expire_all.Goals.{then-is_old, else-is_old}

pub loop-t-init : goal.loop-t-init
unfolding expire_to
loop-t-init c = (refl, λ cells. refl)

pub loop-t-preserved : goal.loop-t-preserved
unfolding expire_to expire
loop-t-preserved c =
    let t = c.loop-t.t in
    let tags = c.loop-t.b.tags in
    let inv = c.loop-t.invariant in
    elim c.if-is_old.branch [
      | then-is_old w ↦ (
        rw w.store-is (w.time_out.auto.store ∙ inv.0),
        λ cells. rw (w.b-is, w.store-is, add-one, ← inv.1 cells, place_cell tags t, sent_cell tags t, sym c.is_old.ensures ∙ w.if-is_old.true) (w.time_out.ensures cells),
      )
      | else-is_old w ↦ (
        rw w.store-is inv.0,
        λ cells. rw (w.b-is, w.store-is, add-one, ← inv.1 cells, place_cell tags t, sent_cell tags t, sym c.is_old.ensures ∙ w.if-is_old.false),
      )
    ]
