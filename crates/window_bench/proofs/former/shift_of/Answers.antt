use Rattle.std.proofs.Common.{arith}
use Rattle.window_bench.proofs.former.shift_of.Goals as goal

pub bounds-base-k : goal.bounds-base-k
bounds-base-k c = let h = rw c.in-Some.is at c.find_window-f.ensures.1 in omega (arith, h)

pub bounds-target-k : goal.bounds-target-k
bounds-target-k c = let h = rw c.in-Some.is at c.find_window-f.ensures.1 in omega (arith, h)
