-- Demand 3: what is claimed of every whole list of events.
use Rattle.std.specs.Prelude.{ℕ, ◌+◌, ◌%◌, ◌*◌, ◌≤◌, ◌<◌, ◌≡◌, ◌⊎◌, Bool, true, false, cond, not, ◌&&◌, length, eqb, ltb, Result, Ok, Err}
use mathlib.Core.List.{List, [], ◌∷◌, ◌++◌, map, flat_map}
use Rattle.std.proofs.Math.Option.{Option, none, some}
use Rattle.refusals.specs.declared.Refusal.{Refusal}
use Rattle.tlp.specs.declared.completion.Completion.{Completion}
use Rattle.address.specs.declared.Settings.{Settings}
use Rattle.burst.specs.declared.Burst.{Burst}
use Rattle.burst.specs.Bursts.{length_of}
use Rattle.burst.specs.Pieces.{addresses}
use Rattle.parts.specs.Answers.{Answer}
use Rattle.parts.specs.declared.Figures.{Figures}
use Rattle.machine.specs.Bridge.{Bridge}
use Rattle.refusals.specs.declared.Response.TheVariants.{Okay}
use Rattle.machine.specs.State.{free_slot, registers_of}
use Rattle.machine.specs.Memory.{pieces_of, piece_of, read_refusal}
use Rattle.machine.specs.Config.{Access, route_of, goes_out, config_refusal}
use Rattle.machine.specs.Verdict.{useful, config_shape}
use Rattle.machine.specs.Completions.{store_size, Held, completion_of}
use Rattle.machine.specs.Take.{state_of, take_refusal, looked, release_step}
use Rattle.trace.specs.Events.{read, config, releases, Event, call, completion, tick, link, step, run, start, Seen, seen}
use Rattle.trace.specs.FarSide.{bytes_sent, requests, paired, carries, FarSide}

-- ---- answered and taken

-- 'a read is answered once a look at its slot would be accepted'
abbrev pub Answered : ℕ → Held → Type 0
Answered k h = take_refusal h.bridge (length h.store) k ≡ 0

-- and OKAY if that is what a release would give
pub record AnsweredOkay (k : ℕ) (h : Held) : Type 0 where
  pub answered : Answered k h
  pub okay : (release_step h.bridge (length h.store) k).answer.response ≡ Okay

-- 'taken means released': slot k is taken by the release of slot j, if any, where it is accepted
abbrev pub taken_by : ℕ → Held → Option ℕ → Bool
taken_by k h none = false
taken_by k h (some j) = eqb j k && eqb (take_refusal h.bridge (length h.store) j) 0

-- an event that takes slot k
abbrev pub takes : ℕ → Held → Event → Bool
takes k h (call c) = taken_by k h (releases c)
takes k h (completion i s) = false
takes k h tick = false
takes k h (link up) = false

-- no event of a list does
abbrev pub Untaken : ℕ → Held → List Event → Type 0
Untaken k h [] = Unit
Untaken k h (e ∷ es) = (takes k h e ≡ false) × Untaken k (step h e).after es

-- the access in slot k is open up to a point of the list, its end included, where P holds
abbrev pub Until : (Held → Type 0) → ℕ → Held → List Event → Type 0
Until P k h [] = P h
Until P k h (e ∷ es) = P h ⊎ ((state_of h.bridge k ≡ 1) × Until P k (step h e).after es)

-- ---- the first claim: a read answered OKAY holds the bytes sent for it

-- those that the lists of its requests send, in address order; the requests are numbered from i on
abbrev pub sent_for : (ℕ → List (List ℕ)) → ℕ → Bridge → Burst → List ℕ
sent_for sent i b q =
    flat_map (λ (j : ℕ). bytes_sent (piece_of b.settings.reads q j).length (sent (i + j)))
    (addresses 0 (pieces_of b.settings.reads q))

-- at any point after a read was accepted and before it is taken
abbrev pub Bytes : Type 0
Bytes =
    (s : Settings) (store : List ℕ) → store_size ≤ length store
    → (sent : ℕ → List (List ℕ)) (before : List Event) (q : Burst) (room : ℕ) (later : List Event)
    → FarSide sent (start s store) (before ++ call (read q room) ∷ later)
    → let h = run (start s store) before in
    read_refusal h.bridge q room ≡ 0
    → let k = free_slot h.bridge in
    let x = run (step h (call (read q room))).after later in
    Untaken k (step h (call (read q room))).after later
    → AnsweredOkay k x
    → (looked x.bridge x.store k ≡ sent_for sent (requests (start s store) before) h.bridge q)
    × (length (looked x.bridge x.store k) ≡ length_of q)

-- ---- the second claim: answered by the T-th tick

abbrev pub is_tick : Event → ℕ
is_tick (call c) = 0
is_tick (completion i s) = 0
is_tick tick = 1
is_tick (link up) = 0

abbrev pub ticks : List Event → ℕ
ticks [] = 0
ticks (e ∷ es) = is_tick e + ticks es

-- whatever the far side does: once the list has T ticks, the read has been answered
abbrev pub ReadDeadline : Type 0
ReadDeadline =
    (s : Settings) (store : List ℕ) → store_size ≤ length store
    → (before : List Event) (q : Burst) (room : ℕ) (later : List Event)
    → let h = run (start s store) before in
    read_refusal h.bridge q room ≡ 0
    → h.bridge.settings.limit ≤ ticks later
    → Until (Answered (free_slot h.bridge)) (free_slot h.bridge) (step h (call (read q room))).after later

abbrev pub ConfigDeadline : Type 0
ConfigDeadline =
    (s : Settings) (store : List ℕ) → store_size ≤ length store
    → (before : List Event) (a : Access) (room : ℕ) (rest : List Event)
    → let h = run (start s store) before in
    config_refusal h.bridge a room ≡ 0
    → h.bridge.settings.limit ≤ ticks rest
    → Until (Answered 8) 8 (step h (call (config a room))).after rest

abbrev pub is_down : Event → Bool
is_down (call c) = false
is_down (completion i s) = false
is_down tick = false
is_down (link up) = not up

-- no event of the list takes the link down
abbrev pub Steady : List Event → Type 0
Steady [] = Unit
Steady (e ∷ es) = (is_down e ≡ false) × Steady es

-- 'Demand 3's good takes the tag as open and those not yet sent as missing': a success with data in a list that `Sends`
-- allows states the bytes not yet sent as its count, so `c.count` stands for the missing; and its lower address is the next
-- address mod 128
abbrev pub is_good : ℕ → Completion → Bool
is_good requester c =
    eqb c.requester requester
    && carries c
    && not c.poisoned
    && ltb (4 * c.length) (c.lower % 4 + c.count + 4)

abbrev pub good_by : ℕ → Result Completion Refusal → ℕ
good_by requester (Ok c) = cond (is_good requester c) (useful c c.count) 0
good_by requester (Err r) = 0

-- the bytes of the good ones of a list of completions
abbrev pub good_bytes : ℕ → List (List ℕ) → ℕ
good_bytes requester [] = 0
good_bytes requester (s ∷ l) = good_by requester (completion_of s) + good_bytes requester l

-- 'OKAY if good completions for all its bytes came before that and any drop'
abbrev pub ReadOkay : Type 0
ReadOkay =
    (s : Settings) (store : List ℕ) → store_size ≤ length store
    → (sent : ℕ → List (List ℕ)) (before : List Event) (q : Burst) (room : ℕ) (during : List Event)
    → FarSide sent (start s store) (before ++ call (read q room) ∷ during)
    → let h = run (start s store) before in
    read_refusal h.bridge q room ≡ 0
    → ticks during < h.bridge.settings.limit
    → Steady during
    → ((j : ℕ) → j < pieces_of h.bridge.settings.reads q
    → good_bytes h.bridge.settings.requester (paired (requests (start s store) before + j) during)
    ≡ (piece_of h.bridge.settings.reads q j).length)
    → Until (AnsweredOkay (free_slot h.bridge)) (free_slot h.bridge) (step h (call (read q room))).after during

-- a good completion for a configuration access
abbrev pub is_good_word : ℕ → Bool → Result Completion Refusal → Bool
is_good_word requester writes (Ok c) =
    eqb c.requester requester && eqb c.status 0 && not c.poisoned && config_shape c writes
is_good_word requester writes (Err r) = false

-- one of a list is
abbrev pub any_good_word : ℕ → Bool → List (List ℕ) → Bool
any_good_word requester writes [] = false
any_good_word requester writes (s ∷ l) =
    cond (is_good_word requester writes (completion_of s)) true (any_good_word requester writes l)

abbrev pub ConfigOkay : Type 0
ConfigOkay =
    (s : Settings) (store : List ℕ) → store_size ≤ length store
    → (sent : ℕ → List (List ℕ)) (before : List Event) (a : Access) (room : ℕ) (during : List Event)
    → FarSide sent (start s store) (before ++ call (config a room) ∷ during)
    → let h = run (start s store) before in
    config_refusal h.bridge a room ≡ 0
    → goes_out (route_of h.bridge a) ≡ true
    → ticks during < h.bridge.settings.limit
    → Steady during
    → any_good_word h.bridge.settings.requester a.write (paired (requests (start s store) before) during) ≡ true
    → Until (AnsweredOkay 8) 8 (step h (call (config a room))).after during

-- an access that does not go out waits for no completion: it is answered OKAY at once
abbrev pub LocalOkay : Type 0
LocalOkay =
    (s : Settings) (store : List ℕ) → store_size ≤ length store
    → (before : List Event) (a : Access) (room : ℕ)
    → let h = run (start s store) before in
    config_refusal h.bridge a room ≡ 0
    → goes_out (route_of h.bridge a) ≡ false
    → AnsweredOkay 8 (step h (call (config a room))).after

-- ---- the third claim: two bridges alike

-- a bridge that a list of events leaves with the link down and every answer taken
pub record Left (h : Held) : Type 0 where
  pub settings : Settings
  pub store : List ℕ
  pub long : store_size ≤ length store
  pub events : List Event
  pub came : h ≡ run (start settings store) events
  pub down : (registers_of h.bridge).link ≡ false
  -- with the link down no slot is open, so free and taken are the same
  pub taken : (k : ℕ) → k < 9 → state_of h.bridge k ≡ 0

-- 'compares answers apart from their session numbers': what is seen, with 0 in their place; every other figure is passed on
abbrev pub figures_apart : Figures → Figures
figures_apart f = record { session = 0 }

abbrev pub answer_apart : Answer → Answer
answer_apart a =
    record {
      number = a.number;
      response = a.response;
      slot = a.slot;
      length = a.length;
      word = a.word;
      figures = figures_apart a.figures;
    }

abbrev pub seen_apart : Seen → Seen
seen_apart x =
    record {
      out = record { answer = answer_apart x.out.answer; sent = x.out.sent; part = x.out.part };
      registers = x.registers;
    }

-- the same number, response, slot, bytes sent, data word and look's bytes, and equal registers after, event by event; session
-- counters may differ, and with them the session numbers. There is no further answer: the interrupt line is a function of the
-- registers, and `take_number` gives the look's number
abbrev pub Alike : Type 0
Alike =
    (x y : Held) → Left x → Left y
    → x.bridge.settings ≡ y.bridge.settings
    → registers_of x.bridge ≡ registers_of y.bridge
    → (later : List Event) → map seen_apart (seen x later) ≡ map seen_apart (seen y later)

-- ---- DEMAND 3

pub record Demand3 : Type 0 where
  pub bytes : Bytes
  pub read_deadline : ReadDeadline
  pub config_deadline : ConfigDeadline
  pub read_okay : ReadOkay
  pub config_okay : ConfigOkay
  pub local_okay : LocalOkay
  pub alike : Alike
