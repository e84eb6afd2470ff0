-- Each claim of demand 3 (`trace`), said of one list of events: of settings, a store and the events before and after a call.
use Rattle.std.specs.Prelude.{ℕ, ◌+◌, ◌≤◌, ◌<◌, ◌≡◌, true, false, length}
use mathlib.Core.List.{List, ◌∷◌, ◌++◌, map}
use Rattle.address.specs.declared.Settings.{Settings}
use Rattle.burst.specs.declared.Burst.{Burst}
use Rattle.burst.specs.Bursts.{length_of}
use Rattle.machine.specs.State.{free_slot}
use Rattle.machine.specs.Memory.{pieces_of, piece_of, read_refusal}
use Rattle.machine.specs.Config.{Access, route_of, goes_out, config_refusal}
use Rattle.machine.specs.Completions.{Held}
use Rattle.machine.specs.Take.{looked}
use Rattle.trace.specs.Events.{read, config, Event, call, step, run, start, seen}
use Rattle.trace.specs.FarSide.{requests, paired, FarSide}
use Rattle.trace.specs.Claims.{Answered, AnsweredOkay, Steady, Untaken, Until, any_good_word, good_bytes, seen_apart, sent_for, ticks}

abbrev pub BytesAt : Settings → List ℕ → (ℕ → List (List ℕ)) → List Event → Burst → ℕ → List Event → Type 0
BytesAt s store sent before q room later =
    FarSide sent (start s store) (before ++ call (read q room) ∷ later)
    → let h = run (start s store) before in
    read_refusal h.bridge q room ≡ 0
    → let k = free_slot h.bridge in
    let x = run (step h (call (read q room))).after later in
    Untaken k (step h (call (read q room))).after later
    → AnsweredOkay k x
    → (looked x.bridge x.store k ≡ sent_for sent (requests (start s store) before) h.bridge q)
    × (length (looked x.bridge x.store k) ≡ length_of q)

abbrev pub ReadDeadlineAt : Settings → List ℕ → List Event → Burst → ℕ → List Event → Type 0
ReadDeadlineAt s store before q room later =
    let h = run (start s store) before in
    read_refusal h.bridge q room ≡ 0
    → h.bridge.settings.limit ≤ ticks later
    → Until (Answered (free_slot h.bridge)) (free_slot h.bridge) (step h (call (read q room))).after later

abbrev pub ConfigDeadlineAt : Settings → List ℕ → List Event → Access → ℕ → List Event → Type 0
ConfigDeadlineAt s store before a room rest =
    let h = run (start s store) before in
    config_refusal h.bridge a room ≡ 0
    → h.bridge.settings.limit ≤ ticks rest
    → Until (Answered 8) 8 (step h (call (config a room))).after rest

abbrev pub ReadOkayAt : Settings → List ℕ → (ℕ → List (List ℕ)) → List Event → Burst → ℕ → List Event → Type 0
ReadOkayAt s store sent before q room during =
    FarSide sent (start s store) (before ++ call (read q room) ∷ during)
    → let h = run (start s store) before in
    read_refusal h.bridge q room ≡ 0
    → ticks during < h.bridge.settings.limit
    → Steady during
    → ((j : ℕ) → j < pieces_of h.bridge.settings.reads q
    → good_bytes h.bridge.settings.requester (paired (requests (start s store) before + j) during)
    ≡ (piece_of h.bridge.settings.reads q j).length)
    → Until (AnsweredOkay (free_slot h.bridge)) (free_slot h.bridge) (step h (call (read q room))).after during

abbrev pub ConfigOkayAt : Settings → List ℕ → (ℕ → List (List ℕ)) → List Event → Access → ℕ → List Event → Type 0
ConfigOkayAt s store sent before a room during =
    FarSide sent (start s store) (before ++ call (config a room) ∷ during)
    → let h = run (start s store) before in
    config_refusal h.bridge a room ≡ 0
    → goes_out (route_of h.bridge a) ≡ true
    → ticks during < h.bridge.settings.limit
    → Steady during
    → any_good_word h.bridge.settings.requester a.write (paired (requests (start s store) before) during) ≡ true
    → Until (AnsweredOkay 8) 8 (step h (call (config a room))).after during

abbrev pub LocalOkayAt : Settings → List ℕ → List Event → Access → ℕ → Type 0
LocalOkayAt s store before a room =
    let h = run (start s store) before in
    config_refusal h.bridge a room ≡ 0
    → goes_out (route_of h.bridge a) ≡ false
    → AnsweredOkay 8 (step h (call (config a room))).after

abbrev pub AlikeAt : Held → Held → List Event → Type 0
AlikeAt x y later = map seen_apart (seen x later) ≡ map seen_apart (seen y later)
