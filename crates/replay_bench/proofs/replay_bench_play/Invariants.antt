use Rattle.std.proofs.Common.{length}
use Rattle.replay_bench.proofs.replay_bench_play.Given as goal

abbrev pub decreases-loop-rest : goal.decreases-loop-rest
decreases-loop-rest l = length l.rest
