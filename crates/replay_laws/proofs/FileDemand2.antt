-- Demand 2 of the events that the definition of a file reads.
use Rattle.records.specs.File.{file}
use Rattle.replay.specs.Events.{played_all}
use Rattle.replay_laws.specs.FileDemand2.{FileDemand2}
use Rattle.replay_laws.proofs.Runs.{played_is_step, played_all_is_run}

pub file_demand2 : FileDemand2
file_demand2 = record {
  each = λ x first e rest h g i. played_is_step (played_all g first) i e;
  all = λ x g labels i. played_all_is_run g labels i (file x).events;
}
