-- The premises of the laws on whole files can be met: three calls on a file of one event, its end and a byte behind it.
use mathlib.Core.Path.{refl}
use mathlib.Core.Logic.{inl, inr}
use mathlib.Core.List.{List, [], ◌∷◌}
use Rattle.records.specs.Reading.{whole, next}
use Rattle.records.specs.Stream.{fresh, push}
use Rattle.replay.specs.Events.{Stage}
use Rattle.replay.specs.Play.{playing}
use Rattle.replay_laws.specs.Play.{Call, AllRead}

abbrev three : List Call
three =
    record { allowed = 1; block = 0x50 ∷ 0x00 ∷ [] }
    ∷ record { allowed = 2; block = 0x01 ∷ 0x80 ∷ 0x00 ∷ [] }
    ∷ record { allowed = 1; block = 0x00 ∷ 0x04 ∷ 0x00 ∷ 0x00 ∷ 0x00 ∷ 0x01 ∷ 0x80 ∷ [] }
    ∷ []

pub three_read : (g : Stage) → AllRead (playing fresh g) three
unfolding push next whole
three_read g = (inl refl, (inl refl, (inr refl, tt)))
