-- 'the response of the first failed piece in address order'; 'If a poisoned piece fails again later, the first cause gives its
-- response' (01, 'Completions'): said over the failures of a read's pieces, as they are seen.
use Rattle.refusals.specs.declared.Refusal.{Refusal}
use Rattle.tlp.specs.declared.completion.Completion.{Completion}
use Rattle.std.specs.Prelude.{ℕ, zero, suc, ◌+◌, ◌-◌, ◌/◌, ◌≤◌, ◌≡◌, List, [], ◌∷◌, ◌++◌, cond, ◌&&◌, length, get_or, eqb, ltb, Result, Ok, Err}
use Rattle.std.proofs.Math.Option.{Option, none, some}
use Rattle.address.specs.declared.Settings.{Settings}
use Rattle.burst.specs.declared.Burst.{Burst}
use Rattle.machine.specs.Bridge.{Bridge}
use Rattle.verdict.specs.declared.Cause.{Cause}
use Rattle.verdict.specs.declared.Cause.TheVariants.{Poison, Timeout}
use Rattle.verdict.specs.declared.Verdict.{Verdict}
use Rattle.verdict.specs.declared.Verdict.TheVariants.{Unexpected, Good, Poisoned, Failed}
use Rattle.machine.specs.State.{tag_count, with_ticks, core_in, place_of, owner_of, free_slot, okay, response_of}
use Rattle.machine.specs.Memory.{read_refusal}
use Rattle.machine.specs.Verdict.{cause_response}
use Rattle.machine.specs.Completions.{store_size, Held, completion_of, verdict_of}
use Rattle.machine.specs.Ticks.{next_tick, is_old}
use Rattle.machine.specs.Take.{release_step}
use Rattle.trace.specs.Events.{read, Event, call, completion, tick, link, step, run, start}
use Rattle.trace.specs.Claims.{Answered, Untaken, Steady}

-- a failure: which piece of the burst, and why
pub record Failure : Type 0 where
  pub piece : ℕ
  pub cause : Cause

-- the piece at the lower address wins; of one piece the first cause does
abbrev pub better : Option Failure → Failure → Option Failure
better none f = some f
better (some g) f = cond (ltb f.piece g.piece) (some f) (some g)

-- of failures in the order in which they are seen, that of the first failed piece in address order
abbrev pub first_failed : Option Failure → List Failure → Option Failure
first_failed o [] = o
first_failed o (f ∷ fs) = first_failed (better o f) fs

abbrev pub response_by : Option Failure → ℕ
response_by none = okay
response_by (some f) = cause_response f.cause

-- ---- the failures of the read in slot k, whose pieces are cut at a limit from address a on

-- the piece at a place of the burst
abbrev pub piece_at_place : ℕ → ℕ → ℕ → ℕ
piece_at_place limit a p = (a + p) / limit - a / limit

module _ (limit a k : ℕ) where
  abbrev pub failing : ℕ → Cause → List Failure
  failing place why = record { piece = piece_at_place limit a place; cause = why } ∷ []

  abbrev pub verdict_fails : ℕ → Verdict → List Failure
  verdict_fails place Unexpected = []
  verdict_fails place (Good n) = []
  verdict_fails place (Poisoned n) = failing place Poison
  verdict_fails place (Failed why) = failing place why

  abbrev pub completion_fails : Bridge → Result Completion Refusal → List Failure
  completion_fails b (Ok c) =
      cond (eqb (owner_of b c.tag) k) (verdict_fails (place_of b c.tag) (verdict_of b c)) []
  completion_fails b (Err r) = []

  -- the tags below n that a tick closes
  unfoldable pub tick_fails : Bridge → ℕ → List Failure
  tick_fails b zero = []
  tick_fails b (suc n) = tick_fails b n ++ cond (is_old b n && eqb (owner_of b n) k) (failing (place_of b n) Timeout) []

  abbrev pub fails_by : Held → Event → List Failure
  fails_by h (call x) = []
  fails_by h (completion i s) = completion_fails h.bridge (completion_of s)
  fails_by h tick = tick_fails (core_in (with_ticks (next_tick h.bridge.core.ticks) h.bridge.core) h.bridge) tag_count
  fails_by h (link up) = []

  abbrev pub failures : Held → List Event → List Failure
  failures h [] = []
  failures h (e ∷ es) = fails_by h e ++ failures (step h e).after es

-- until it is taken, and while the link holds, a read's response so far is that of its first failed piece in address order
abbrev pub FirstFailure : Type 0
FirstFailure =
    (s : Settings) (store : List ℕ) → store_size ≤ length store
    → (before : List Event) (q : Burst) (room : ℕ) (later : List Event)
    → let h = run (start s store) before in
    read_refusal h.bridge q room ≡ 0
    → let k = free_slot h.bridge in
    let y = (step h (call (read q room))).after in
    Untaken k y later
    → Steady later
    → get_or (run y later).bridge.cause k 0
    ≡ response_by (first_failed none (failures h.bridge.settings.reads q.start.0 k y later))

-- and once it is answered, this is the response that a release gives
abbrev pub FirstFailureGives : Type 0
FirstFailureGives =
    (s : Settings) (store : List ℕ) → store_size ≤ length store
    → (before : List Event) (q : Burst) (room : ℕ) (later : List Event)
    → let h = run (start s store) before in
    read_refusal h.bridge q room ≡ 0
    → let k = free_slot h.bridge in
    let y = (step h (call (read q room))).after in
    let x = run y later in
    Untaken k y later
    → Steady later
    → Answered k x
    → (release_step x.bridge (length x.store) k).answer.response
    ≡ response_of (response_by (first_failed none (failures h.bridge.settings.reads q.start.0 k y later)))
