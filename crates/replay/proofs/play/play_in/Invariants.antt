use mathlib.Core.Path.{◌≡◌}
use mathlib.Core.List.{List, []}
use Prim.Native.Nat.{◌-◌}
use lib.ListN.{length}
use Rattle.records.specs.Code.Meaning.{reader_of}
use Rattle.replay.specs.Events.{Told}
use Rattle.replay.specs.Play.{playing, play}
use Rattle.replay.specs.Code.Tables.{stage_with, Going}
use Rattle.replay.proofs.play.play_in.Given as goal

abbrev pub invariant-loop-used : goal.invariant-loop-used
invariant-loop-used l =
    (length l.store ≡ length l.initial.store)
    × ((length l.area ≡ length l.initial.area)
    × ((length l.rows ≡ length l.initial.rows)
    × ((length l.held ≡ length l.initial.held)
    × ((l.b.cells ≡ l.initial.b.cells)
    × Going
    (play l.allowed (playing (reader_of l.initial.reader l.initial.held) (stage_with l.initial.b l.initial.store l.initial.area [])) l.input)
    (λ (told : List Told). playing (reader_of l.reader l.held) (stage_with l.b l.store l.area told))
    l.input l.allowed l.used l.played l.initial.rows l.rows))))

abbrev pub decreases-loop-used : goal.decreases-loop-used
decreases-loop-used l =
    length l.input - l.used
