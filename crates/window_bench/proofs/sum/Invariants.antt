use Rattle.std.proofs.Common.{◌≡◌, ℕ}
use Rattle.window_bench.specs.Sums.{sum_to}
use Rattle.window_bench.proofs.sum.Given as goal

-- The invariant: the sum over the addresses passed.
abbrev pub invariant-loop-a : goal.invariant-loop-a
invariant-loop-a g l = (f : ℕ → ℕ) → ((a r : ℕ) → g.F.Fn.post l.of (a, tt) r → r ≡ f a) → l.sum ≡ sum_to f l.addresses l.a-index
