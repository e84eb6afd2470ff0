use Rattle.std.proofs.Common.{◌≡◌, ◌∙◌, [], ap}
use Rattle.verdict.specs.declared.Cause.TheVariants.{Poison}
use Rattle.parts.specs.Code.Struct.{places_of}
use Rattle.machine.specs.Bridge.{Bridge}
use Rattle.machine.specs.Code.Tables.{bridge_of}
use Rattle.moves.proofs.Failing.{missing_stays, place_stays}
use Rattle.moves.proofs.pieces.OpenPiece.poisoned.Goals as goal

pub advance-requires : goal.advance-requires
advance-requires c =
    let a = c.args in
    let f = c.fail.ensures [] in
    let m : c.fail.new.b.missing ≡ a.b.now.missing = ap (λ (x : Bridge). x.missing) f ∙ missing_stays a.self.slot.number _ Poison (bridge_of [] a.b.now) in
    let p : places_of c.fail.new.b.tags ≡ places_of a.b.now.tags = ap (λ (x : Bridge). x.place) f ∙ place_stays a.self.slot.number _ Poison (bridge_of [] a.b.now) in
    rw (m, p) c.requires
