-- One event of a capture, played: the definitions of the bridge's calls, on the store and the sending area that a player lends.
use Rattle.std.specs.Prelude.{ℕ, List, [], ◌∷◌, ◌++◌, true, false, cond, length}
use Rattle.refusals.specs.Responses.{code_of}
use Rattle.parts.specs.Answers.{Answer}
use Rattle.machine.specs.State.{Answered}
use Rattle.machine.specs.Memory.{read_step, read_area, write_step, write_area}
use Rattle.machine.specs.Config.{access_of, config_step, config_area}
use Rattle.machine.specs.Completions.{Held, held, completed, complete_step}
use Rattle.machine.specs.Ticks.{ticked, tick_step, linked, link_step}
use Rattle.machine.specs.Take.{release_step}
use Rattle.records.specs.Events as records
use Rattle.records.specs.Events.{Captured, read, write, config_read, config_write, completion, link, tick}

-- an event and what it answered
pub record Told : Type 0 where
  pub event : Captured
  pub answer : Answer

abbrev pub tells : Captured → Answer → Told
tells e a = record { event = e; answer = a }

-- the bridge with its store, the sending area, and what was answered so far
pub record Stage : Type 0 where
  pub held : Held
  pub area : List ℕ
  pub told : List Told

abbrev pub stage : Held → List ℕ → List Told → Stage
stage h area told = record { held = h; area = area; told = told }

-- the stage after a call
abbrev pub after : Stage → Captured → Held → List ℕ → Answer → Stage
after g e h area a = stage h area (g.told ++ tells e a ∷ [])

-- and after one that leaves the store
abbrev pub after_step : Stage → Captured → Answered → List ℕ → Stage
after_step g e r area = after g e (held r.bridge g.held.store) area r.answer

-- each event is the call of 01 that has its name. A take is a look and a release, 'two calls with one set of refusals': the look
-- changes nothing, and its bytes are those of the store
unfoldable pub played : Stage → Captured → Stage
played g (read q) =
    after_step g (read q) (read_step g.held.bridge q (length g.area)) (read_area g.held.bridge q g.area)
played g (write q d) =
    after_step g (write q d) (write_step g.held.bridge q d (length g.area)) (write_area g.held.bridge q d g.area)
played g (config_read offset) =
    after_step g (config_read offset) (config_step g.held.bridge (access_of offset false 0 0) (length g.area))
    (config_area g.held.bridge (access_of offset false 0 0) g.area)
played g (config_write offset strobes word) =
    after_step g (config_write offset strobes word)
    (config_step g.held.bridge (access_of offset true strobes word) (length g.area))
    (config_area g.held.bridge (access_of offset true strobes word) g.area)
played g (completion s) =
    after g (completion s) (completed g.held s) g.area (complete_step g.held.bridge g.held.store s).answer
played g (link up) =
    after g (link up) (linked up g.held) g.area (link_step up g.held.bridge g.held.store).answer
played g tick = after g tick (ticked g.held) g.area (tick_step g.held.bridge g.held.store).answer
played g (records.take slot) =
    after_step g (records.take slot) (release_step g.held.bridge (length g.held.store) slot) g.area

abbrev pub played_all : Stage → List Captured → Stage
played_all g [] = g
played_all g (e ∷ es) = played_all (played g e) es

-- ---- the row of numbers that tells an event's answer

-- which name it has: read, write, config, completion, link up, link down, tick, take
abbrev pub name_of : Captured → ℕ
name_of (read q) = 0
name_of (write q d) = 1
name_of (config_read offset) = 2
name_of (config_write offset strobes word) = 2
name_of (completion s) = 3
name_of (link up) = cond up 4 5
name_of tick = 6
name_of (records.take slot) = 7

-- name, refusal number, response, slot, how many bytes were sent, data word, session
abbrev pub row_of : Told → List ℕ
row_of t =
    name_of t.event
    ∷ t.answer.number
    ∷ code_of t.answer.response
    ∷ t.answer.slot
    ∷ t.answer.length
    ∷ t.answer.word
    ∷ t.answer.figures.session
    ∷ []

abbrev pub row_size : ℕ
row_size = 7

abbrev pub rows_of : List Told → List ℕ
rows_of [] = []
rows_of (t ∷ ts) = row_of t ++ rows_of ts
