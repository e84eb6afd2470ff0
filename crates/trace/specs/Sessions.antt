-- Session numbers (02, A2): an answer's number says in which life of the link its access was accepted.
use Rattle.std.specs.Prelude.{ℕ, ◌+◌, ◌%◌, ◌^◌, ◌≤◌, ◌<◌, ◌≡◌, List, [], ◌∷◌, ◌++◌, Bool, true, false, cond, ◌&&◌, not, length}
use Rattle.address.specs.declared.Settings.{Settings}
use Rattle.burst.specs.declared.Burst.{Burst}
use Rattle.machine.specs.State.{free_slot, registers_of, config_slot, no_figures, new_bridge}
use Rattle.machine.specs.Memory.{read_refusal}
use Rattle.machine.specs.Config.{Access, config_refusal}
use Rattle.machine.specs.Completions.{store_size, Held}
use Rattle.trace.specs.Events.{Call, read, config, release, Event, call, completion, tick, link, step, run, start}
use Rattle.trace.specs.Claims.{Answered, takes, Untaken, Steady}
use Rattle.trace.specs.Registers.{AlikeBy}

-- ---- lives of the link, by the events alone. The store is long enough in every claim, so no link event is refused; of one
-- that is, `LinkCounts` (bridge_laws) says that it does not count

-- whether the link is up after an event, by whether it was before
abbrev pub up_after : Bool → Event → Bool
up_after up (call c) = up
up_after up (completion i s) = up
up_after up tick = up
up_after up (link x) = x

-- 'how often a down link went up': 1 for an event that finds it down and brings it up
abbrev pub rises : Bool → Event → ℕ
rises up (call c) = 0
rises up (completion i s) = 0
rises up tick = 0
rises up (link x) = cond (x && not up) 1 0

-- in a list of events
abbrev pub up_at_end : Bool → List Event → Bool
up_at_end up [] = up
up_at_end up (e ∷ es) = up_at_end (up_after up e) es

abbrev pub ups : Bool → List Event → ℕ
ups up [] = 0
ups up (e ∷ es) = rises up e + ups (up_after up e) es

-- the life of the link after a list of events from a fresh bridge, whose link is down: 0 before the first; with the link down,
-- that of the life that ended
abbrev pub life : List Event → ℕ
life es = ups false es

-- the counter is the life mod 2^32, 'starting again at zero after its last value'; and the link is as the events say
pub record CountsLives (es : List Event) (h : Held) : Type 0 where
  pub link : (registers_of h.bridge).link ≡ up_at_end false es
  pub session : h.bridge.core.session ≡ life es % 2 ^ 32

abbrev pub RunCounts : Type 0
RunCounts =
    (s : Settings) (store : List ℕ) → store_size ≤ length store → (es : List Event) → CountsLives es (run (start s store) es)

-- ---- 'every kept answer'

-- an access that is accepted, and the slot that keeps its answer
pub data Keeps (h : Held) : Call → ℕ → Type 0 where
  reads : (q : Burst) (room : ℕ) → read_refusal h.bridge q room ≡ 0 → Keeps h (read q room) (free_slot h.bridge)
  configs : (a : Access) (room : ℕ) → config_refusal h.bridge a room ≡ 0 → Keeps h (config a room) config_slot

-- the session number that the release of slot k reports
abbrev pub reported : Held → ℕ → ℕ
reported h k = (step h (call (release k))).out.answer.figures.session

-- after the events of a list from h an access is accepted, and at some later point, whatever came, its answer is there and not
-- yet taken: its release reports n
pub record Reports (h : Held) (before : List Event) (n : ℕ) : Type 0 where
  pub access : Call
  pub slot : ℕ
  pub kept : Keeps (run h before) access slot
  pub later : List Event
  pub untaken : Untaken slot (step (run h before) (call access)).after later
  pub answered : Answered slot (run (step (run h before) (call access)).after later)
  pub number : reported (run (step (run h before) (call access)).after later) slot ≡ n

-- AN ANSWER'S NUMBER is that of the life in which its request was sent: over every run, local accesses too
abbrev pub SessionIsLife : Type 0
SessionIsLife =
    (s : Settings) (store : List ℕ) → store_size ≤ length store
    → (before : List Event) (n : ℕ) → Reports (start s store) before n → n ≡ life before % 2 ^ 32

-- 'fewer than 2^32 ups between' two points of a list
abbrev pub FewUps : List Event → List Event → Type 0
FewUps before between = ups (up_at_end false before) between < 2 ^ 32

-- THE SAME LIFE, equal numbers: where no down link went up between two accesses, their answers report the same
abbrev pub SameLifeIsEqual : Type 0
SameLifeIsEqual =
    (s : Settings) (store : List ℕ) → store_size ≤ length store
    → (before between : List Event) (n m : ℕ)
    → Reports (start s store) before n
    → Reports (start s store) (before ++ between) m
    → ups (up_at_end false before) between ≡ 0
    → n ≡ m

-- EQUAL NUMBERS, and fewer than 2^32 ups between: no down link went up between the two accesses
abbrev pub EqualIsSameLife : Type 0
EqualIsSameLife =
    (s : Settings) (store : List ℕ) → store_size ≤ length store
    → (before between : List Event) (n : ℕ)
    → Reports (start s store) before n
    → Reports (start s store) (before ++ between) n
    → FewUps before between
    → ups (up_at_end false before) between ≡ 0

-- so where the link was up at both, as it is where a request is sent, it did not drop between them
abbrev pub EqualIsNoDrop : Type 0
EqualIsNoDrop =
    (s : Settings) (store : List ℕ) → store_size ≤ length store
    → (before between : List Event) (n : ℕ)
    → Reports (start s store) before n
    → Reports (start s store) (before ++ between) n
    → FewUps before between
    → (registers_of (run (start s store) before).bridge).link ≡ true
    → (registers_of (run (start s store) (before ++ between)).bridge).link ≡ true
    → Steady between

-- ---- ONE RULE for the figures of answers: every call but an accepted release reports none, accepted or refused

pub record OnlyTaken : Type 0 where
  pub new : (s : Settings) → (new_bridge s).answer.figures ≡ no_figures
  pub others : (h : Held) (e : Event) → ((k : ℕ) → takes k h e ≡ false) → (step h e).out.answer.figures ≡ no_figures

-- ---- without 'apart from their session numbers' the last sentence of demand 3 is false: two bridges with other counters, alike
-- in all that its premise names, report other numbers

abbrev pub NumbersDiffer : Type 0
NumbersDiffer = AlikeBy ◌≡◌ (λ x. x) → ⊥
