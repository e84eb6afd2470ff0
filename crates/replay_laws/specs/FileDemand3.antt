-- 'Demands 2 and 3 hold for the event list the definition reads': demand 3, of the events of any file.
use Rattle.std.specs.Prelude.{ℕ, ◌≤◌, ◌≡◌, List, [], ◌∷◌, ◌++◌, length}
use Rattle.address.specs.declared.Settings.{Settings}
use Rattle.burst.specs.declared.Burst.{Burst}
use Rattle.machine.specs.State.{registers_of}
use Rattle.machine.specs.Config.{Access}
use Rattle.machine.specs.Completions.{store_size, Held}
use Rattle.trace.specs.Events.{read, config, Event, call, run, start}
use Rattle.trace.specs.Claims.{Left}
use Rattle.replay_laws.specs.ClaimsAt.{BytesAt, ReadDeadlineAt, ConfigDeadlineAt, ReadOkayAt, ConfigOkayAt, LocalOkayAt, AlikeAt}
use Rattle.records.specs.Events.{Captured}
use Rattle.records.specs.File.{file}
use Rattle.replay.specs.Events.{stage, played_all}
use Rattle.replay_laws.specs.Runs.{traced_all, told_all}

-- the events of `trace` that the definition reads from the bytes x, played with an area of so many bytes; whatever numbers of
-- requests the completions are given
abbrev pub file_events : ℕ → (ℕ → ℕ) → List ℕ → List Event
file_events room labels x = traced_all room labels 0 (file x).events

-- es is a first part of the events of some file
pub record FromFile (es : List Event) : Type 0 where
  pub bytes : List ℕ
  pub area : List ℕ
  pub labels : ℕ → ℕ
  pub rest : List Event
  pub read : es ++ rest ≡ file_events (length area) labels bytes

-- each claim of demand 3, at every point of such a list
pub record FileDemand3 : Type 0 where
  -- what a file's events leave of bridge and store, each in turn, is what such a list leaves, and they are answered as it is
  pub played :
      (s : Settings) (store area : List ℕ) (labels : ℕ → ℕ) (x : List ℕ) (first rest : List Captured)
      → first ++ rest ≡ (file x).events
      → let es = traced_all (length area) labels 0 first in
      let left = played_all (stage (start s store) area []) first in
      (left.held ≡ run (start s store) es) × (left.told ≡ told_all (length area) labels 0 (start s store) first) × FromFile es
  pub bytes :
      (s : Settings) (store : List ℕ) → store_size ≤ length store
      → (sent : ℕ → List (List ℕ)) (before : List Event) (q : Burst) (room : ℕ) (later : List Event)
      → FromFile (before ++ call (read q room) ∷ later)
      → BytesAt s store sent before q room later
  pub read_deadline :
      (s : Settings) (store : List ℕ) → store_size ≤ length store
      → (before : List Event) (q : Burst) (room : ℕ) (later : List Event)
      → FromFile (before ++ call (read q room) ∷ later)
      → ReadDeadlineAt s store before q room later
  pub config_deadline :
      (s : Settings) (store : List ℕ) → store_size ≤ length store
      → (before : List Event) (a : Access) (room : ℕ) (later : List Event)
      → FromFile (before ++ call (config a room) ∷ later)
      → ConfigDeadlineAt s store before a room later
  pub read_okay :
      (s : Settings) (store : List ℕ) → store_size ≤ length store
      → (sent : ℕ → List (List ℕ)) (before : List Event) (q : Burst) (room : ℕ) (during : List Event)
      → FromFile (before ++ call (read q room) ∷ during)
      → ReadOkayAt s store sent before q room during
  pub config_okay :
      (s : Settings) (store : List ℕ) → store_size ≤ length store
      → (sent : ℕ → List (List ℕ)) (before : List Event) (a : Access) (room : ℕ) (during : List Event)
      → FromFile (before ++ call (config a room) ∷ during)
      → ConfigOkayAt s store sent before a room during
  pub local_okay :
      (s : Settings) (store : List ℕ) → store_size ≤ length store
      → (before : List Event) (a : Access) (room : ℕ)
      → FromFile (before ++ call (config a room) ∷ [])
      → LocalOkayAt s store before a room
  -- two bridges that were left as demand 3 asks, by files or otherwise
  pub alike :
      (x y : Held) → Left x → Left y
      → x.bridge.settings ≡ y.bridge.settings
      → registers_of x.bridge ≡ registers_of y.bridge
      → (later : List Event) → FromFile later
      → AlikeAt x y later
