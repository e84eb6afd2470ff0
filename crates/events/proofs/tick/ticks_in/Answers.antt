use Rattle.std.proofs.Common.{◌≡◌, ◌+◌, ◌-◌, ◌≤◌, length, refl, sym, ap, ◌∙◌, arith, add-one}
use Rattle.machine.specs.Completions.{store_size, Held}
use Rattle.machine.specs.Ticks.{ticked, ticked_to}
use Rattle.machine.specs.Code.Tables.{held_of}
use Rattle.machine.proofs.Ticks.{then, quiet_ticks, short_ticks}
use Rattle.events.proofs.tick.ticks_in.Goals as goal

pub returns-then-store-lt-STORE_SIZE-clause-tables : goal.returns-then-store-lt-STORE_SIZE-clause-tables
returns-then-store-lt-STORE_SIZE-clause-tables c = λ cells. sym (short_ticks _ _ c.if-store-lt-STORE_SIZE.true)

pub loop-done-init : goal.loop-done-init
unfolding ticked_to
loop-done-init c = (refl, λ cells. refl)

pub returns-then-is_quiet-clause-tables : goal.returns-then-is_quiet-clause-tables
returns-then-is_quiet-clause-tables c = λ cells.
    let a = c.args in
    let done = c.loop-done.done in
    let inv = c.loop-done.invariant in
    let h = held_of cells c.loop-done.b c.loop-done.store in
    let first = held_of cells a.b.now a.store.now in
    let w : done + (a.times - done) ≡ a.times = omega (arith, c.loop-done-test.true) in
    let l : store_size ≤ length c.loop-done.store = omega (arith, inv.0, c.if-store-lt-STORE_SIZE.false) in
    rw c.tick_after-b.ensures.0
    (sym (quiet_ticks h l (c.is_quiet.ensures c.if-is_quiet.true) (a.times - done) c.tick_after-b.ensures.1)
    ∙ (ap (λ (x : Held). ticked_to x (a.times - done)) (inv.1 cells)
    ∙ (sym (then first done (a.times - done)) ∙ ap (ticked_to first) w)))

pub loop-done-preserved : goal.loop-done-preserved
unfolding ticked_to
loop-done-preserved c =
    let inv = c.loop-done.invariant in
    (c.step.auto.store ∙ inv.0, λ cells. rw add-one (c.step.ensures cells ∙ ap ticked (inv.1 cells)))
