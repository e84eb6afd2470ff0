use Rattle.std.proofs.Common.{set, get_or, ◌-◌}
use Rattle.parts.specs.declared.State.{State}
use Rattle.machine.specs.State.{counted}
use Rattle.machine.proofs.Tables.{place_cell, next_cell, put_place_next}
use Rattle.moves.proofs.tagged.count.Goals as goal

pub returns-clause-tables : goal.returns-clause-tables
unfolding counted
returns-clause-tables c = λ cells.
    let b = c.args.b.now in
    let t = c.args.t in
    let d : State = record { settings = b.settings; core = b.core; missing = set b.missing t (get_or b.missing t 0 - c.args.n); tags = b.tags; slots = b.slots } in
    rw (place_cell b.tags t, next_cell b.tags t, ← c.lower_after.ensures) (put_place_next cells d t _ _)
