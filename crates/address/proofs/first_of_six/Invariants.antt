use Rattle.std.proofs.Common.{◌≡◌, ◌-◌}
use Rattle.address.specs.Windows.{window_of, first_from}
use Rattle.address.proofs.first_of_six.Given as goal

-- The invariant: no entry passed holds the address.
abbrev pub invariant-loop-i : goal.invariant-loop-i
invariant-loop-i l = window_of 6 l.base l.size l.a ≡ first_from l.base l.size l.a l.i (6 - l.i)
