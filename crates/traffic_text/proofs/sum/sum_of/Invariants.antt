-- The sums of the bytes so far, and how large they can be.
use Rattle.std.proofs.Common.{◌≡◌, ◌+◌, ◌*◌, ◌≤◌}
use Rattle.traffic_text.specs.Sums.{low_to, high_to}
use Rattle.traffic_text.proofs.sum.sum_of.Given as goal

abbrev pub invariant-loop-x : goal.invariant-loop-x
invariant-loop-x l =
    record {
      low_bound : l.a ≤ 255 * l.x-index + 1;
      high_bound : l.b ≤ 16777216 * l.x-index;
      low : l.a ≡ low_to l.s l.x-index;
      high : l.b ≡ high_to l.s l.x-index;
    }
