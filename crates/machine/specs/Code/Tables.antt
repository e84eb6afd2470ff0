-- What the code's state means: the columns of a bridge, from its rows by tag and by slot, with the cells of the queued messages.
use Rattle.std.specs.Prelude.{ℕ, List}
use Rattle.parts.specs.declared.State.{State}
use Rattle.parts.specs.Code.Struct.{core_from, sents_of, owners_of, places_of, nexts_of, kinds_of, states_of, sizes_of, pieces_of, faults_of, causes_of, sessions_of}
use Rattle.machine.specs.Bridge.{Bridge}
use Rattle.machine.specs.Completions.{Held, held}

abbrev pub bridge_of : List ℕ → State → Bridge
bridge_of cells b =
    record {
      settings = b.settings;
      core = core_from b.core cells;
      missing = b.missing;
      sent = sents_of b.tags;
      owner = owners_of b.tags;
      place = places_of b.tags;
      next = nexts_of b.tags;
      kind = kinds_of b.tags;
      state = states_of b.slots;
      size = sizes_of b.slots;
      pieces = pieces_of b.slots;
      fault = faults_of b.slots;
      cause = causes_of b.slots;
      session = sessions_of b.slots;
    }

-- the same with the store
abbrev pub held_of : List ℕ → State → List ℕ → Held
held_of cells b store = held (bridge_of cells b) store
