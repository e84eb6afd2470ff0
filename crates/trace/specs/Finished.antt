-- 'finished answers stay until taken' (01, 'Ticks and the link'): over every list of events, for each of the nine slots.
use Rattle.std.specs.Prelude.{ℕ, ◌≤◌, ◌≡◌, List, length}
use Rattle.address.specs.declared.Settings.{Settings}
use Rattle.machine.specs.Completions.{store_size, Held}
use Rattle.machine.specs.Take.{looked, release_step}
use Rattle.bridge_laws.specs.CompletionLaws.{AnswerSame}
use Rattle.trace.specs.Events.{Event, run, start}
use Rattle.trace.specs.Claims.{Answered, Untaken}

-- nothing that slot k holds differs, and a look and a release give what they would have given
pub record Stays (k : ℕ) (h x : Held) : Type 0 where
  pub same : AnswerSame k h x
  pub answered : Answered k x
  pub look : looked x.bridge x.store k ≡ looked h.bridge h.store k
  pub release :
      (release_step x.bridge (length x.store) k).answer ≡ (release_step h.bridge (length h.store) k).answer

-- whatever comes, completions, ticks and link events among them, but its release
abbrev pub FinishedStay : Type 0
FinishedStay =
    (s : Settings) (store : List ℕ) → store_size ≤ length store
    → (before : List Event) (k : ℕ) (later : List Event)
    → let h = run (start s store) before in
    Answered k h
    → Untaken k h later
    → Stays k h (run h later)
