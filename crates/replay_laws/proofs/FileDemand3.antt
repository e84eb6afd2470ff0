-- Demand 3 of the events that the definition of a file reads.
use Prim.Native.Nat.{ℕ, ◌+◌}
use mathlib.Core.Path.{◌≡◌, sym, ap, ◌∙◌}
use mathlib.Core.List.{List, [], ◌++◌}
use lib.ListN.{length}
use Rattle.trace.specs.Events.{start}
use Rattle.trace.proofs.Demand3.{demand3}
use Rattle.records.specs.Events.{Captured}
use Rattle.records.specs.File.{file}
use Rattle.replay.specs.Events.{stage}
use Rattle.replay_laws.specs.Runs.{traced_all}
use Rattle.replay_laws.specs.FileDemand3.{FromFile, FileDemand3}
use Rattle.replay_laws.proofs.Runs.{traced_append, played_all_is_run}

first_part : (area : List ℕ) (labels : ℕ → ℕ) (x : List ℕ) (first rest : List Captured) → first ++ rest ≡ (file x).events
    → FromFile (traced_all (length area) labels 0 first)
first_part area labels x first rest e = record {
  bytes = x;
  area = area;
  labels = labels;
  rest = traced_all (length area) labels (0 + length first) rest;
  read = sym (traced_append (length area) labels 0 first rest) ∙ ap (traced_all (length area) labels 0) e;
}

pub file_demand3 : FileDemand3
file_demand3 = record {
  played = λ s store area labels x first rest e.
      let r = played_all_is_run (stage (start s store) area []) labels 0 first in
      (r.held, r.told, first_part area labels x first rest e);
  bytes = λ s store long sent before q room later from. demand3.bytes s store long sent before q room later;
  read_deadline = λ s store long before q room later from. demand3.read_deadline s store long before q room later;
  config_deadline = λ s store long before a room later from. demand3.config_deadline s store long before a room later;
  read_okay = λ s store long sent before q room during from. demand3.read_okay s store long sent before q room during;
  config_okay = λ s store long sent before a room during from. demand3.config_okay s store long sent before a room during;
  local_okay = λ s store long before a room from. demand3.local_okay s store long before a room;
  alike = λ x y left right settings registers later from. demand3.alike x y left right settings registers later;
}
