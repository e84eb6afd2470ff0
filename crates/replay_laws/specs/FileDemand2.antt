-- 'Demands 2 and 3 hold for the event list the definition reads': demand 2, of the events of any file.
use Rattle.std.specs.Prelude.{ℕ, ◌≡◌, List, ◌∷◌, ◌++◌}
use Rattle.records.specs.Events.{Captured}
use Rattle.records.specs.File.{file}
use Rattle.replay.specs.Events.{Stage, played_all}
use Rattle.replay_laws.specs.Runs.{Runs, RunsAll}

pub record FileDemand2 : Type 0 where
  -- each event, on what those before it leave of any stage, does to bridge, store and area what demand 2's machine does, and answers so
  pub each :
      (x : List ℕ) (first : List Captured) (e : Captured) (rest : List Captured) → first ++ e ∷ rest ≡ (file x).events
      → (g : Stage) (i : ℕ) → Runs (played_all g first) i e
  -- and so do all of them in turn
  pub all : (x : List ℕ) (g : Stage) (labels : ℕ → ℕ) (i : ℕ) → RunsAll g labels i (file x).events
