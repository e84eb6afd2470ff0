-- What a bridge, store and area mean, and what the turns of a replay tell each other.
use Rattle.std.specs.Prelude.{◌≡◌, List, ◌++◌, ℕ, suc, ◌-◌, ◌≤◌, ◌<◌, length, drop}
use Rattle.std.proofs.Math.Option.{Option}
use Rattle.std.proofs.lemmas.List.Edits.{sets}
use Rattle.bridge.specs.declared.Bridge as bridge
use Rattle.bridge.specs.View.{view_of}
use Rattle.machine.specs.Completions.{held}
use Rattle.machine.specs.Memory.{filled}
use Rattle.replay.specs.Events.{Told, Stage, stage, rows_of}
use Rattle.records.specs.Events.{Captured}
use Rattle.replay.specs.Play.{Playing, Played, more, counts, staged, play}

-- the stage of a bridge by value
abbrev pub stage_with : bridge.Bridge → List ℕ → List ℕ → List Told → Stage
stage_with b store area told = stage (held (view_of b) store) area told

-- an event or none, played from g to h; by what was told earlier
pub record Does (g h : List Told → Stage) (e : Option Captured) (played : ℕ) (rows later : List ℕ) (at : ℕ) : Type 0 where
  pub told : List Told
  pub stages : (earlier : List Told) → h (earlier ++ told) ≡ staged (g earlier) e
  pub counted : length told ≡ played
  pub events : counts e ≡ played
  pub rows_after : later ≡ sets rows at (rows_of told)

-- a turn reads some bytes and plays an event or none; before and after it, by what was told earlier
pub record Turned (before after : List Told → Playing) (input : List ℕ) (used played : ℕ) (rows later : List ℕ) (at : ℕ) : Type 0 where
  pub told : List Told
  pub plays :
      (earlier : List Told) (allowed : ℕ)
      → play (suc allowed) (before earlier) input
      ≡ more played used (play (suc allowed - played) (after (earlier ++ told)) (drop used input))
  pub counted : length told ≡ played
  pub single : played ≤ 1
  pub some : 0 < used
  pub there : used ≤ length input
  pub rows_after : later ≡ sets rows at (rows_of told)

-- in the midst of a call: all that it gives is what was played and what is still to play
pub record Going (all : Played) (now : List Told → Playing) (input : List ℕ) (allowed used played : ℕ) (rows later : List ℕ) : Type 0 where
  pub told : List Told
  pub goes : all ≡ more played used (play (allowed - played) (now told) (drop used input))
  pub counted : length told ≡ played
  pub within : played ≤ allowed
  pub there : used ≤ length input
  pub rows_after : later ≡ filled (rows_of told) rows

-- a call on an input: what it leaves is what `play` gives, and the rows of its events fill a prefix
pub record Plays (x : Played) (after : List Told → Playing) (used played : ℕ) (rows later : List ℕ) : Type 0 where
  pub leaves : x.after ≡ after x.after.stage.told
  pub reads : x.used ≡ used
  pub counts : x.played ≡ played
  pub rows_after : later ≡ filled (rows_of x.after.stage.told) rows
