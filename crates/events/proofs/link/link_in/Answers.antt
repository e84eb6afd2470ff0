use Rattle.std.proofs.Common.{◌≡◌, refl, sym, Bool, true, false, not, ◌&&◌, ◌||◌, le-ltb}
use Rattle.machine.specs.Ticks.{linked, link_lost}
use Rattle.events.proofs.link.link_in.Goals as goal

drops : (up link : Bool) → up || not link ≡ false → not up && link ≡ true
drops false true e = refl
drops false false e = sym e
drops true link e = sym e

pub returns-clause-tables : goal.returns-clause-tables
unfolding linked link_lost
returns-clause-tables c = λ cells.
    rw (le-ltb _ _ c.if-store-lt-STORE_SIZE.false, drops _ _ c.if-up-b.false, ← c.lose_link.ensures cells) (c.drop_slots.ensures cells)
