-- Events as data, and lists of them from a fresh bridge. `step` is made of the very definitions that the contracts of the
-- bridge's methods cite.
use Rattle.std.specs.Prelude.{ℕ, List, [], ◌∷◌, Bool, true, false, cond, length, eqb}
use Rattle.std.proofs.Math.Option.{Option, none, some}
use Rattle.address.specs.declared.Settings.{Settings}
use Rattle.ecam.specs.Registers.{Registers}
use Rattle.burst.specs.declared.Burst.{Burst}
use Rattle.parts.specs.Answers.{Answer}
use Rattle.machine.specs.Bridge.{Bridge}
use Rattle.machine.specs.State.{new_bridge, registers_of}
use Rattle.machine.specs.Memory.{read_refusal, read_bytes, read_step, write_refusal, write_bytes, write_step}
use Rattle.machine.specs.Config.{Access, config_refusal, config_bytes, config_step}
use Rattle.machine.specs.Completions.{Held, held, completed, complete_step, plain}
use Rattle.machine.specs.Ticks.{ticked, tick_step, linked, link_step}
use Rattle.machine.specs.Messages.{message_step}
use Rattle.machine.specs.Take.{take_refusal, looked, release_step}

-- calls with their arguments, an error message from the link among them; of a lent sending area, its length. None of these brings
-- a completion, ticks or changes the link: a new such call is a case here, in `posts`, `releases` and `called`, in `asked_by`
-- (FarSide) and in `Methods`; time, the link and the pairing of completions do not see it
pub data Call : Type 0 where
  read : Burst → ℕ → Call
  write : Burst → List ℕ → ℕ → Call
  config : Access → ℕ → Call
  look : ℕ → Call
  release : ℕ → Call
  message : List ℕ → Call

-- posted: a write sends packets that nothing answers
abbrev pub posts : Call → Bool
posts (read q room) = false
posts (write q bytes room) = true
posts (config a room) = false
posts (look k) = false
posts (release k) = false
posts (message m) = false

-- 'taken means released': the slot that a call would free
abbrev pub releases : Call → Option ℕ
releases (read q room) = none
releases (write q bytes room) = none
releases (config a room) = none
releases (look k) = none
releases (release k) = some k
releases (message m) = none

-- The number beside a completion is no part of it: it names the request that the far side answers with it, and `step` does not
-- see it
pub data Event : Type 0 where
  call : Call → Event
  completion : ℕ → List ℕ → Event
  tick : Event
  link : Bool → Event

-- what an event shows: its answer, the bytes sent, and the look's bytes
pub record Out : Type 0 where
  pub answer : Answer
  pub sent : List ℕ
  pub part : List ℕ

-- the bridge with its store after an event, and what it shows
pub record Result : Type 0 where
  pub after : Held
  pub out : Out

abbrev pub shows : Held → Answer → List ℕ → List ℕ → Result
shows h a sent part = record { after = h; out = record { answer = a; sent = sent; part = part } }

-- an accepted call sends its bytes, a refused one none
abbrev pub sent_by : ℕ → List ℕ → List ℕ
sent_by number bytes = cond (eqb number 0) bytes []

-- a call leaves the store as it is: the bridge after it, and what it shows
pub record Called : Type 0 where
  pub bridge : Bridge
  pub out : Out

abbrev pub gives : Bridge → Answer → List ℕ → List ℕ → Called
gives b a sent part = record { bridge = b; out = record { answer = a; sent = sent; part = part } }

abbrev pub called : Held → Call → Called
called h (read q room) =
    gives (read_step h.bridge q room).bridge (read_step h.bridge q room).answer
    (sent_by (read_refusal h.bridge q room) (read_bytes h.bridge q)) []
called h (write q bytes room) =
    gives (write_step h.bridge q bytes room).bridge (write_step h.bridge q bytes room).answer
    (sent_by (write_refusal h.bridge q (length bytes) room) (write_bytes h.bridge.settings q bytes room)) []
called h (config a room) =
    gives (config_step h.bridge a room).bridge (config_step h.bridge a room).answer
    (sent_by (config_refusal h.bridge a room) (config_bytes h.bridge a)) []
called h (look k) =
    gives h.bridge (plain (take_refusal h.bridge (length h.store) k)) [] (looked h.bridge h.store k)
called h (release k) =
    gives (release_step h.bridge (length h.store) k).bridge (release_step h.bridge (length h.store) k).answer [] []
called h (message m) = gives (message_step h.bridge m).bridge (message_step h.bridge m).answer [] []

abbrev pub step : Held → Event → Result
step h (call c) = record { after = held (called h c).bridge h.store; out = (called h c).out }
step h (completion i s) = shows (completed h s) (complete_step h.bridge h.store s).answer [] []
step h tick = shows (ticked h) (tick_step h.bridge h.store).answer [] []
step h (link up) = shows (linked up h) (link_step up h.bridge h.store).answer [] []

-- 'Each gets the bridge, and .. the same [store] .. as the last left them'
abbrev pub run : Held → List Event → Held
run h [] = h
run h (e ∷ es) = run (step h e).after es

-- a fresh bridge, with any settings, and the store that it is lent; refused settings give the bridge that stands in their place
abbrev pub start : Settings → List ℕ → Held
start s store = held (new_bridge s).bridge store

-- what is seen of a list of events: what each shows, and the registers after it
pub record Seen : Type 0 where
  pub out : Out
  pub registers : Registers

abbrev pub seen : Held → List Event → List Seen
seen h [] = []
seen h (e ∷ es) =
    record { out = (step h e).out; registers = registers_of (step h e).after.bridge } ∷ seen (step h e).after es
