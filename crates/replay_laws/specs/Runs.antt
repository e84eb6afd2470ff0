-- The events of a capture as the events of `trace`, so that demands 2 and 3 hold for 'the event list the definition reads'.
use Rattle.std.specs.Prelude.{ℕ, ◌+◌, ◌≡◌, List, [], ◌∷◌, ◌++◌, true, false, length}
use Rattle.machine.specs.Memory.{filled}
use Rattle.machine.specs.Config.{access_of}
use Rattle.machine.specs.Completions.{Held}
use Rattle.machine.specs.Take.{looked}
use Rattle.trace.specs.Events as trace
use Rattle.trace.specs.Events.{Event, call, run, step, Out}
use Rattle.records.specs.Events as records
use Rattle.records.specs.Events.{Captured, read, write, config_read, config_write, completion, link, tick}
use Rattle.replay.specs.Events.{Told, Stage, played, played_all}

-- an event of a capture: a take is a look and a release; sending calls are lent an area of so many bytes. A completion is given the
-- number of the request that it answers, which is no part of a capture and which `step` does not see
abbrev pub traced : ℕ → ℕ → Captured → List Event
traced room i (read q) = call (trace.read q room) ∷ []
traced room i (write q d) = call (trace.write q d room) ∷ []
traced room i (config_read offset) = call (trace.config (access_of offset false 0 0) room) ∷ []
traced room i (config_write offset strobes word) = call (trace.config (access_of offset true strobes word) room) ∷ []
traced room i (completion s) = trace.completion i s ∷ []
traced room i (link up) = trace.link up ∷ []
traced room i tick = trace.tick ∷ []
traced room i (records.take slot) = call (trace.look slot) ∷ call (trace.release slot) ∷ []

-- those of a list; `labels` gives the number for each event by its place, counted from i on
abbrev pub traced_all : ℕ → (ℕ → ℕ) → ℕ → List Captured → List Event
traced_all room labels i [] = []
traced_all room labels i (e ∷ es) = traced room (labels i) e ++ traced_all room labels (i + 1) es

-- ---- one event

-- what each event of a list shows, and all that they send
abbrev pub outs : Held → List Event → List Out
outs h [] = []
outs h (e ∷ es) = (step h e).out ∷ outs (step h e).after es

abbrev pub sent_by : List Out → List ℕ
sent_by [] = []
sent_by (o ∷ rest) = o.sent ++ sent_by rest

-- what is told of an event: the answer of the last
abbrev pub told_by : Captured → List Out → List Told
told_by e [] = []
told_by e (o ∷ []) = record { event = e; answer = o.answer } ∷ []
told_by e (o ∷ next ∷ rest) = told_by e (next ∷ rest)

-- an event that is played is `run` over its events of `trace`, in bridge, store, answer and area; the area keeps its length
pub record Runs (g : Stage) (i : ℕ) (e : Captured) : Type 0 where
  pub held : (played g e).held ≡ run g.held (traced (length g.area) i e)
  pub told : (played g e).told ≡ g.told ++ told_by e (outs g.held (traced (length g.area) i e))
  pub area : (played g e).area ≡ filled (sent_by (outs g.held (traced (length g.area) i e))) g.area
  pub room : length (played g e).area ≡ length g.area

abbrev pub PlayedIsStep : Type 0
PlayedIsStep = (g : Stage) (i : ℕ) (e : Captured) → Runs g i e

-- of a take only the release's answer is told: its look changes nothing, has the same number, and hands back the bytes of the slot
pub record Looks (h : Held) (slot : ℕ) : Type 0 where
  pub after : (step h (call (trace.look slot))).after ≡ h
  pub number :
      (step h (call (trace.look slot))).out.answer.number ≡ (step h (call (trace.release slot))).out.answer.number
  pub part : (step h (call (trace.look slot))).out.part ≡ looked h.bridge h.store slot

abbrev pub LookThenRelease : Type 0
LookThenRelease = (h : Held) (slot : ℕ) → Looks h slot

-- ---- a list

abbrev pub told_all : ℕ → (ℕ → ℕ) → ℕ → Held → List Captured → List Told
told_all room labels i h [] = []
told_all room labels i h (e ∷ es) =
    told_by e (outs h (traced room (labels i) e)) ++ told_all room labels (i + 1) (run h (traced room (labels i) e)) es

-- bridge, store and answers of a capture's events are those of `run`, whatever the numbers; the area's length is one for all
pub record RunsAll (g : Stage) (labels : ℕ → ℕ) (i : ℕ) (es : List Captured) : Type 0 where
  pub held : (played_all g es).held ≡ run g.held (traced_all (length g.area) labels i es)
  pub told : (played_all g es).told ≡ g.told ++ told_all (length g.area) labels i g.held es
  pub room : length (played_all g es).area ≡ length g.area

abbrev pub PlayedAllIsRun : Type 0
PlayedAllIsRun = (g : Stage) (labels : ℕ → ℕ) (i : ℕ) (es : List Captured) → RunsAll g labels i es
