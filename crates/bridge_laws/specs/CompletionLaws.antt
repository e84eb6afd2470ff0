-- What the definitions of completions promise together.
use Rattle.std.specs.Prelude.{ℕ, ◌+◌, ◌-◌, ◌*◌, ◌%◌, ◌≤◌, ◌<◌, ◌≡◌, ◌⊎◌, ◌≢◌, List, [], ◌∷◌, Bool, true, false, cond, length, get_or, drop, eqb, ltb, Result, Ok, Err}
use Rattle.burst.specs.Words.{lower_address}
use Rattle.refusals.specs.declared.Refusal.{Refusal}
use Rattle.refusals.specs.declared.Refusal.TheVariants.{Malformed}
use Rattle.tlp.specs.declared.completion.Completion.{Completion}
use Rattle.refusals.specs.Table.{refused_by, completion_order}
use Rattle.machine.specs.Bridge.{Bridge}
use Rattle.verdict.specs.declared.Verdict.{Verdict}
use Rattle.verdict.specs.declared.Verdict.TheVariants.{Unexpected, Good, Poisoned}
use Rattle.machine.specs.State.{tag_at, slot_at, slot_count, config_slot, raise, missing_of, owner_of, place_of, is_open, is_write}
use Rattle.machine.specs.Verdict.{useful, memory_verdict, config_verdict}
use Rattle.machine.specs.Completions.{store_size, Held, held, memory_completed, config_completed, next_address, verdict_of, completion_of, is_unexpected, complete_refusal, completed}

-- ---- what a completion leaves as it is

-- a byte of the store that is none of slot k's
abbrev pub Outside : ℕ → ℕ → Type 0
Outside k i = (i < 4096 * k) ⊎ (4096 * k + 4096 ≤ i)

-- two bridges are the same but for tag t, slot k, the registers and the free tags; a k of 8 or more is the configuration slot
pub record OnlyHere (k t : ℕ) (b x : Bridge) : Type 0 where
  pub settings : x.settings ≡ b.settings
  pub ticks : x.core.ticks ≡ b.core.ticks
  pub counter : x.core.session ≡ b.core.session
  pub config : k < slot_count → x.core.config ≡ b.core.config
  pub sent : x.sent ≡ b.sent
  pub owner : x.owner ≡ b.owner
  pub kind : x.kind ≡ b.kind
  pub size : x.size ≡ b.size
  pub session : x.session ≡ b.session
  pub tags : (u : ℕ) → u ≢ t → tag_at x u ≡ tag_at b u
  pub slots : (j : ℕ) → j ≢ k → slot_at x j ≡ slot_at b j

-- two stores are as long as each other, and the same but for slot k's bytes
pub record BytesOnly (k : ℕ) (s x : List ℕ) : Type 0 where
  pub room : length x ≡ length s
  pub bytes : (i : ℕ) → Outside k i → get_or x i 0 ≡ get_or s i 0

pub record Kept (k t : ℕ) (h x : Held) : Type 0 where
  pub here : OnlyHere k t h.bridge x.bridge
  pub store : BytesOnly k h.store x.store
  pub none : slot_count ≤ k → x.store ≡ h.store

-- a completion touches its own tag and its own slot alone: every other slot keeps its state, its response and its bytes
abbrev pub OwnSlotOnly : Type 0
OwnSlotOnly =
    (h : Held) (s : List ℕ) (c : Completion)
    → completion_of s ≡ Ok c
    → Kept (owner_of h.bridge c.tag) c.tag h (completed h s)

-- a malformed one changes nothing
abbrev pub MalformedKeeps : Type 0
MalformedKeeps = (h : Held) (s : List ℕ) → completion_of s ≡ Err Malformed → completed h s ≡ h

-- a refused one sets bit 21 where it is not expected, and changes nothing else
abbrev pub RefusedKeeps : Type 0
RefusedKeeps =
    (h : Held) (s : List ℕ)
    → complete_refusal h.bridge (length h.store) s ≢ 0
    → completed h s
    ≡ cond (eqb (complete_refusal h.bridge (length h.store) s) 13) (held (raise 21 h.bridge) h.store) h

-- an accepted one has a header, and its tag is open
pub record Accepted (b : Bridge) (s : List ℕ) : Type 0 where
  pub header : Completion
  pub reads : completion_of s ≡ Ok header
  pub expected : is_unexpected (verdict_of b header) ≡ false
  pub opened : is_open (missing_of b header.tag) (place_of b header.tag) ≡ true

abbrev pub AcceptedIsOpen : Type 0
AcceptedIsOpen = (b : Bridge) (room : ℕ) (s : List ℕ) → complete_refusal b room s ≡ 0 → Accepted b s

-- slot j's parts and its 4,096 bytes are the same
pub record SlotSame (j : ℕ) (h x : Held) : Type 0 where
  pub row : slot_at x.bridge j ≡ slot_at h.bridge j
  pub bytes : (i : ℕ) → i < 4096 → get_or x.store (4096 * j + i) 0 ≡ get_or h.store (4096 * j + i) 0

-- the slot that the answer of a tag's request goes to
abbrev pub slot_of : Bridge → ℕ → ℕ
slot_of b t = cond (ltb (owner_of b t) slot_count) (owner_of b t) config_slot

-- no open tag's answer goes to slot j, as when slot j is finished
abbrev pub Unawaited : ℕ → Bridge → Type 0
Unawaited j b = (t : ℕ) → is_open (missing_of b t) (place_of b t) ≡ true → slot_of b t ≢ j

-- what slot j holds is the same, for each of the nine: a read slot's parts and bytes, or the configuration slot
pub record AnswerSame (j : ℕ) (h x : Held) : Type 0 where
  pub slot : j < slot_count → SlotSame j h x
  pub config : j ≡ config_slot → x.bridge.core.config ≡ h.bridge.core.config
  -- and a store that is longer than the slots keeps the rest of its bytes
  pub room : length x.store ≡ length h.store
  pub beyond : (i : ℕ) → store_size ≤ i → get_or x.store i 0 ≡ get_or h.store i 0

-- 'finished answers stay until taken', under every completion: of a slot that no open tag's answer goes to. That a finished
-- slot of a run is such a one is part of `FinishedStay` (trace)
abbrev pub FinishedStays : Type 0
FinishedStays = (h : Held) (s : List ℕ) (j : ℕ) → Unawaited j h.bridge → AnswerSame j h (completed h s)

-- ---- when data is good

-- 'A completion is good when it is expected, has status 0 and EP 0', for a memory read
pub record IsGood (c : Completion) (missing next : ℕ) : Type 0 where
  pub status : c.status ≡ 0
  pub poisoned : c.poisoned ≡ false
  pub payload : c.payload ≡ true
  pub count : c.count ≡ missing
  pub lower : c.lower ≡ next % 128
  pub length : 4 * c.length < c.lower % 4 + missing + 4

-- exactly then, and with its useful bytes
abbrev pub GoodExactly : Type 0
GoodExactly =
    (c : Completion) (missing next : ℕ)
    → ((n : ℕ) → memory_verdict c missing next ≡ Good n → IsGood c missing next × (n ≡ useful c missing))
    × (IsGood c missing next → memory_verdict c missing next ≡ Good (useful c missing))

-- n useful bytes count down the missing ones of their tag, good or poisoned, and move its place and its next address on
pub record Counts (t n : ℕ) (b x : Bridge) : Type 0 where
  pub missing : missing_of x t ≡ missing_of b t - n
  pub place : place_of x t ≡ place_of b t + n
  pub next : t < length b.next → next_address x t ≡ lower_address (next_address b t + n)

abbrev pub CountsDown : Type 0
CountsDown =
    (h : Held) (t k skip n : ℕ) (payload : List ℕ)
    → t < length h.bridge.missing
    → t < length h.bridge.place
    → (v : Verdict)
    → (v ≡ Good n) ⊎ (v ≡ Poisoned n)
    → Counts t n h.bridge (memory_completed h t k skip payload v).bridge

-- ---- the order of its refusals

abbrev pub is_malformed : Result Completion Refusal → Bool
is_malformed (Ok c) = false
is_malformed (Err r) = true

abbrev pub is_not_expected : Bridge → Result Completion Refusal → Bool
is_not_expected b (Ok c) = is_unexpected (verdict_of b c)
is_not_expected b (Err r) = false

-- 'completion 8, 12, 13': the first number of the table's order whose test holds
abbrev pub CompletionOrder : Type 0
CompletionOrder =
    (b : Bridge) (room : ℕ) (s : List ℕ)
    → complete_refusal b room s
    ≡ refused_by completion_order
    (ltb room store_size ∷ is_malformed (completion_of s) ∷ is_not_expected b (completion_of s) ∷ [])

-- ---- what can come of a completion

-- its requester ID is ours
abbrev pub Ours : Bridge → Completion → Type 0
Ours b c = c.requester ≡ b.settings.requester

-- the bridge and store after it, and its number: one case a row, with the tests that lead to it
pub data Came (h : Held) (s : List ℕ) : Held → ℕ → Type 0 where
  short : length h.store < store_size → Came h s h 8
  malformed : store_size ≤ length h.store → completion_of s ≡ Err Malformed → Came h s h 12
  lost : (c : Completion)
      → store_size ≤ length h.store
      → completion_of s ≡ Ok c
      → verdict_of h.bridge c ≡ Unexpected
      → Came h s (held (raise 21 h.bridge) h.store) 13
  memory : (c : Completion) (v : Verdict)
      → store_size ≤ length h.store
      → completion_of s ≡ Ok c
      → Ours h.bridge c
      → is_open (missing_of h.bridge c.tag) (place_of h.bridge c.tag) ≡ true
      → owner_of h.bridge c.tag < 8
      → memory_verdict c (missing_of h.bridge c.tag) (next_address h.bridge c.tag) ≡ v
      → is_unexpected v ≡ false
      → Came h s (memory_completed h c.tag (owner_of h.bridge c.tag) (c.lower % 4) (drop 12 s) v) 0
  config : (c : Completion) (v : Verdict)
      → store_size ≤ length h.store
      → completion_of s ≡ Ok c
      → Ours h.bridge c
      → is_open (missing_of h.bridge c.tag) (place_of h.bridge c.tag) ≡ true
      → 8 ≤ owner_of h.bridge c.tag
      → config_verdict c (is_write h.bridge c.tag) ≡ v
      → is_unexpected v ≡ false
      → Came h s (held (config_completed h.bridge c.tag (drop 12 s) v) h.store) 0

-- there is no other case
abbrev pub CameOneWay : Type 0
CameOneWay = (h : Held) (s : List ℕ) → Came h s (completed h s) (complete_refusal h.bridge (length h.store) s)
