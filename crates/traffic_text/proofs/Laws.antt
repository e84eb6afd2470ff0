-- The checksums that docs/TRAFFIC.md gives.
use Rattle.std.proofs.Common.{refl}
use Rattle.traffic_text.specs.Sums.{low_to, high_to, checksum}
use Rattle.traffic_text.specs.Laws.{Checksums}

pub checksums : Checksums
unfolding low_to high_to checksum
checksums = record { of_none = refl; of_nine = refl }
