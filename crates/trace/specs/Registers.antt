-- What every run's registers keep, and 'equal registers' of the third claim in the words of A1: 'the equal registers of demand 3
-- include the queue'.
use Rattle.std.specs.Prelude.{ℕ, ◌≤◌, ◌≡◌, List, map, length}
use Rattle.address.specs.declared.Settings.{Settings}
use Rattle.ecam.specs.Registers.{Registers}
use Rattle.ecam.specs.Laws.{Held as Kept, SameWords}
use Rattle.machine.specs.State.{registers_of}
use Rattle.machine.specs.Completions.{Held, store_size}
use Rattle.trace.specs.Events.{Event, run, start, Seen, seen}
use Rattle.trace.specs.Claims.{Left, seen_apart}

-- bus numbers of a byte, decode and mask of decode's bits alone, and never more than 32 messages queued
abbrev pub RunKeeps : Type 0
RunKeeps =
    (s : Settings) (store : List ℕ) → store_size ≤ length store → (es : List Event)
    → Kept (registers_of (run (start s store) es).bridge)

-- the words 018, 134, 138, 13C, 144, 148, 154 and the list of queued error messages
pub record EqualRegisters (r q : Registers) : Type 0 where
  pub words : SameWords r q
  pub queue : r.errors ≡ q.errors

-- two bridges left with the link down, every answer taken, equal settings and registers that are the same in some sense answer
-- all later events alike, by what is compared of each, and the registers stay equal
abbrev pub AlikeBy : (Registers → Registers → Type 0) → (Seen → Seen) → Type 0
AlikeBy same compared =
    (x y : Held) → Left x → Left y
    → x.bridge.settings ≡ y.bridge.settings
    → same (registers_of x.bridge) (registers_of y.bridge)
    → (later : List Event) → map compared (seen x later) ≡ map compared (seen y later)

-- so it is where the sense is 'equal registers'
abbrev pub AlikeByWords : Type 0
AlikeByWords = AlikeBy EqualRegisters seen_apart

-- and not where it is the words alone: two queues may differ in their second entry
abbrev pub QueueIsNeeded : Type 0
QueueIsNeeded = AlikeBy SameWords seen_apart → ⊥
