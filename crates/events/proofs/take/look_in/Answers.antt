use Rattle.std.proofs.Common.{[], sym, lt-ltb, le-ltb, arith}
use native.Mathlib.Nat.{add-sub_cancel_left}
use Rattle.machine.specs.Take.{looked}
use Rattle.machine.proofs.Tables.{size_cell}
use Rattle.events.proofs.Taking.{is_refused, long_store}
use Rattle.events.proofs.take.look_in.Goals.{in_default-via-in-Ok+else-slot-lt-CONFIG_SLOT, in_default-via-in_default}
use Rattle.events.proofs.take.look_in.Goals as goal

pub slice_bounds-result-end : goal.slice_bounds-result-end
slice_bounds-result-end c = omega (arith, long_store _ _ (sym (c.in-Ok.ensures [])), c.within_slot-n.ensures.1, c.if-slot-lt-CONFIG_SLOT.true)

pub returns-in-Ok : goal.returns-in-Ok
unfolding looked
returns-in-Ok c = λ cells.
    rw (← c.in-Ok.ensures cells, lt-ltb _ _ c.if-slot-lt-CONFIG_SLOT.true, size_cell c.args.b.now.slots c.args.slot, ← c.within_slot-n.ensures.0, add-sub_cancel_left)

pub returns-in_default : goal.returns-in_default
unfolding looked
returns-in_default c = λ cells.
    elim c.in_default.branch [
      | in_default-via-in-Ok+else-slot-lt-CONFIG_SLOT w ↦ rw (← w.in-Ok.ensures cells, le-ltb _ _ w.if-slot-lt-CONFIG_SLOT.false)
      | in_default-via-in_default w ↦ rw (← w.in_default.ensures cells, is_refused w.in_default.field-0)
    ]
