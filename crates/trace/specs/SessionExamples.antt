-- The examples of A2, on the bridge of the worked examples; and accesses whose numbers the claims of Sessions speak of.
use Rattle.std.specs.Prelude.{ℕ, ◌-◌, ◌^◌, ◌≡◌, List, [], ◌∷◌, ◌++◌, map, true, false}
use Rattle.address.specs.Settings.{example_settings}
use Rattle.parts.specs.Cores.{with_session}
use Rattle.machine.specs.State.{core_in, registers_of}
use Rattle.machine.specs.Memory.{area_size}
use Rattle.machine.specs.Config.{Access, access_of}
use Rattle.machine.specs.Completions.{Held, held}
use Rattle.trace.specs.Events.{read, write, config, look, release, Event, call, completion, tick, link, run, start, Seen, seen}
use Rattle.trace.specs.Example.{store, four, good}
use Rattle.trace.specs.Sessions.{up_at_end, ups, Reports, FewUps}

-- the number of an event's answer, and its session number
pub record Noted : Type 0 where
  pub number : ℕ
  pub session : ℕ

abbrev pub noted : ℕ → ℕ → Noted
noted n s = record { number = n; session = s }

abbrev pub noted_of : Seen → Noted
noted_of x = noted x.out.answer.number x.out.answer.figures.session

abbrev pub whiteboard : Held
whiteboard = start example_settings store

-- its counter at 4,294,967,295
abbrev pub at_last : Held
at_last = held (core_in (with_session (2 ^ 32 - 1) whiteboard.bridge.core) whiteboard.bridge) whiteboard.store

-- a local read of 130
abbrev pub local : Access
local = access_of 0x130 false 0 0

-- the good completion of a read of four bytes with tag 0
abbrev pub four_come : List ℕ
four_come = good 0 4 0x3C (1 ∷ 2 ∷ 3 ∷ 4 ∷ [])

-- ---- two lives

-- before the first life, and in it
abbrev pub first_life : List Event
first_life =
    call (config local area_size)
    ∷ call (release 8)
    ∷ link true
    ∷ call (read four area_size)
    ∷ completion 0 four_come
    ∷ []

-- what was kept is taken in the second
abbrev pub second_life : List Event
second_life =
    link false
    ∷ call (config local area_size)  -- with the link down: of the life that ended
    ∷ link true
    ∷ link true  -- repeated
    ∷ call (release 0)  -- of the first life
    ∷ call (release 8)
    ∷ call (release 0)  -- 14
    ∷ call (read four area_size)
    ∷ completion 1 four_come
    ∷ tick
    ∷ call (write four (1 ∷ 2 ∷ 3 ∷ 4 ∷ []) area_size)
    ∷ call (look 0)
    ∷ call (release 0)
    ∷ []

abbrev pub lives_shown : List Noted
lives_shown =
    noted 0 0
    ∷ noted 0 0
    ∷ noted 0 0
    ∷ noted 0 0
    ∷ noted 0 0
    ∷ noted 0 0
    ∷ noted 0 0
    ∷ noted 0 0
    ∷ noted 0 0
    ∷ noted 0 1
    ∷ noted 0 1
    ∷ noted 14 0
    ∷ noted 0 0
    ∷ noted 0 0
    ∷ noted 0 0
    ∷ noted 0 0
    ∷ noted 0 0
    ∷ noted 0 2
    ∷ []

-- ---- over the last value

abbrev pub turning : List Event
turning =
    call (config local area_size)
    ∷ link true
    ∷ call (read four area_size)
    ∷ completion 0 four_come
    ∷ call (release 8)
    ∷ call (release 0)
    ∷ []

abbrev pub turning_shown : List Noted
turning_shown =
    noted 0 0 ∷ noted 0 0 ∷ noted 0 0 ∷ noted 0 0 ∷ noted 0 4294967295 ∷ noted 0 0 ∷ []

-- ---- too short a store, in the first life, with an answer to take: 8 for the release, which reports 0, and for link events,
-- which do not count

abbrev pub short : Held
short = held (run whiteboard first_life).bridge []

abbrev pub refusals : List Event
refusals = call (release 0) ∷ link false ∷ link true ∷ []

pub record Examples : Type 0 where
  pub lives : map noted_of (seen whiteboard (first_life ++ second_life)) ≡ lives_shown
  pub wraps : map noted_of (seen at_last turning) ≡ turning_shown
  pub refused : map noted_of (seen short refusals) ≡ noted 8 0 ∷ noted 8 0 ∷ noted 8 0 ∷ []
  pub uncounted : (run short refusals).bridge.core.session ≡ 1

-- ---- accesses that the claims speak of: the local access before the first life; the read of the first life and the local access
-- after it, each taken in the second; two reads of the second life

abbrev pub begun : List Event
begun = call (config local area_size) ∷ call (release 8) ∷ link true ∷ []

abbrev pub ended : List Event
ended = first_life ++ link false ∷ []

abbrev pub again : List Event
again = ended ++ link true ∷ call (release 0) ∷ []

-- between two reads of the second life
abbrev pub meanwhile : List Event
meanwhile = call (read four area_size) ∷ tick ∷ link true ∷ []

pub record Reported : Type 0 where
  pub before : Reports whiteboard [] 0
  pub first : Reports whiteboard begun 1
  pub down : Reports whiteboard ended 1
  pub second : Reports whiteboard again 2
  -- the premises of equal numbers, where a repeated up lies between
  pub another : Reports whiteboard (again ++ meanwhile) 2
  pub few : FewUps again meanwhile
  pub none : ups (up_at_end false again) meanwhile ≡ 0
  pub up : (registers_of (run whiteboard again).bridge).link ≡ true
  pub still_up : (registers_of (run whiteboard (again ++ meanwhile)).bridge).link ≡ true
