-- The checksums that docs/TRAFFIC.md gives: of no bytes, and of "123456789".
use Rattle.std.specs.Prelude.{◌≡◌, [], ◌∷◌}
use Rattle.traffic_text.specs.Sums.{checksum}

pub record Checksums : Type 0 where
  pub of_none : checksum [] ≡ 0x00000001
  pub of_nine : checksum (49 ∷ 50 ∷ 51 ∷ 52 ∷ 53 ∷ 54 ∷ 55 ∷ 56 ∷ 57 ∷ []) ≡ 0x091e01de
