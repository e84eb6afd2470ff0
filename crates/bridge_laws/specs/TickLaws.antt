-- What the definitions of ticks and the link promise together.
use Rattle.std.specs.Prelude.{ℕ, ◌<◌, ◌≡◌, ◌≢◌, Bool, length}
use Rattle.machine.specs.State.{slot_open}
use Rattle.machine.specs.Completions.{store_size, Held}
use Rattle.machine.specs.Ticks.{ticked, linked}
use Rattle.machine.specs.Take.{state_of}
use Rattle.bridge_laws.specs.CompletionLaws.{Unawaited, AnswerSame}

-- a refused tick or link event changes nothing: no counter steps
abbrev pub RefusedTick : Type 0
RefusedTick = (h : Held) → length h.store < store_size → ticked h ≡ h

abbrev pub RefusedLink : Type 0
RefusedLink = (up : Bool) (h : Held) → length h.store < store_size → linked up h ≡ h

-- 'finished answers stay until taken', under a tick: of a slot that no open tag's answer goes to
abbrev pub TickStays : Type 0
TickStays = (h : Held) (j : ℕ) → Unawaited j h.bridge → AnswerSame j h (ticked h)

-- and when the link goes up or down: of a slot in which no access is open
abbrev pub LinkStays : Type 0
LinkStays = (up : Bool) (h : Held) (j : ℕ) → state_of h.bridge j ≢ slot_open → AnswerSame j h (linked up h)
