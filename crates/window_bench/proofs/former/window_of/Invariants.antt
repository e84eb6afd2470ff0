use Rattle.std.proofs.Common.{◌≡◌, ◌-◌, ◌≤◌}
use Rattle.address.specs.Windows.{window_of, first_from}
use Rattle.window_bench.proofs.former.window_of.Given as goal

-- The invariant: no window passed holds the address.
abbrev pub invariant-loop-i : goal.invariant-loop-i
invariant-loop-i l = (l.i ≤ l.n) × (window_of l.count l.base l.size l.a ≡ first_from l.base l.size l.a l.i (l.n - l.i))

abbrev pub decreases-loop-i : goal.decreases-loop-i
decreases-loop-i l = l.n - l.i
