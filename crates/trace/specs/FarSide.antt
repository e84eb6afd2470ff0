-- The far side of demand 3, as values (01, 'Completions'): the requests that the bridge sends, what may be sent for each, and
-- how the completions that come are paired with them.
use Rattle.std.specs.Prelude.{ℕ, suc, ◌+◌, ◌-◌, ◌%◌, ◌≤◌, ◌<◌, ◌≡◌, Bool, true, false, cond, not, ◌&&◌, length, get_or, drop, eqb, Result, Ok, Err}
use mathlib.Core.List.{List, [], ◌∷◌, ◌++◌, map, Memᴰ}
use Rattle.tags.specs.Tags.{free_tags, lowest}
use Rattle.refusals.specs.declared.Refusal.{Refusal}
use Rattle.tlp.specs.declared.completion.Completion.{Completion}
use Rattle.burst.specs.declared.Burst.{Burst}
use Rattle.burst.specs.Pieces.{addresses}
use Rattle.machine.specs.Bridge.{Bridge}
use Rattle.machine.specs.State.{tag_count}
use Rattle.machine.specs.Memory.{pcie_of, pieces_of, piece_of, read_refusal}
use Rattle.machine.specs.Config.{route_of, goes_out, config_refusal}
use Rattle.machine.specs.Verdict.{useful}
use Rattle.machine.specs.Completions.{Held, completion_of, useful_bytes}
use Rattle.trace.specs.Events.{Call, read, write, config, look, release, message, Event, call, completion, tick, link, step}

-- ---- the requests sent; 'no memory write'

-- from a PCIe address on so many bytes; or a configuration word
pub data Wanted : Type 0 where
  bytes : ℕ → ℕ → Wanted
  word : Wanted

pub record Ask : Type 0 where
  pub tag : ℕ
  pub wanted : Wanted

-- the k-th request of an accepted read, with the k-th free tag
abbrev pub ask_of : Bridge → Burst → ℕ → Ask
ask_of b q k =
    record {
      tag = get_or (free_tags tag_count b.core.free) k 0;
      wanted =
          bytes (pcie_of b.settings.windows q (piece_of b.settings.reads q k).first) (piece_of b.settings.reads q k).length;
    }

-- the requests that a call sends; `Sent` ties them to its bytes
abbrev pub asked_by : Held → Call → List Ask
asked_by h (read q room) =
    cond (eqb (read_refusal h.bridge q room) 0)
    (map (ask_of h.bridge q) (addresses 0 (pieces_of h.bridge.settings.reads q))) []
asked_by h (write q bs room) = []
asked_by h (config a room) =
    cond (eqb (config_refusal h.bridge a room) 0 && goes_out (route_of h.bridge a))
    (record { tag = lowest tag_count h.bridge.core.free; wanted = word } ∷ []) []
asked_by h (look k) = []
asked_by h (release k) = []
asked_by h (message m) = []

-- no other event sends any
abbrev pub asked : Held → Event → List Ask
asked h (call c) = asked_by h c
asked h (completion i s) = []
asked h tick = []
asked h (link up) = []

-- how many requests a list of events sends: they are numbered in turn, from 0
abbrev pub requests : Held → List Event → ℕ
requests h [] = 0
requests h (e ∷ es) = length (asked h e) + requests (step h e).after es

-- ---- the list sent for a request

-- 'success with data' carries useful bytes, 'those not yet sent standing for the missing'; no other completion carries any
abbrev pub carries : Completion → Bool
carries c = eqb c.status 0 && c.payload

abbrev pub carried_by : ℕ → Result Completion Refusal → ℕ
carried_by n (Ok c) = cond (carries c) (useful c n) 0
carried_by n (Err r) = 0

abbrev pub carried : ℕ → List ℕ → ℕ
carried n s = carried_by n (completion_of s)

abbrev pub data_by : ℕ → List ℕ → Result Completion Refusal → List ℕ
data_by n payload (Ok c) = cond (carries c) (useful_bytes (c.lower % 4) (useful c n) payload) []
data_by n payload (Err r) = []

-- the bytes that a list of completions sends for n bytes
abbrev pub bytes_sent : ℕ → List (List ℕ) → List ℕ
bytes_sent n [] = []
bytes_sent n (s ∷ l) = data_by n (drop 12 s) (completion_of s) ++ bytes_sent (n - carried n s) l

abbrev pub When : Bool → Type 0 → Type 0
When true A = A
When false A = Unit

-- a failing status for a memory read. Whether 01 counts CRS as one there is open: here it ends nothing, so that the premise is
-- no stronger under either reading
abbrev pub fails : Completion → Bool
fails c = not (eqb c.status 0) && not (eqb c.status 2)

-- 'each success with data states as its count the bytes not yet sent and as its lower address the next address mod 128'
pub record States (a n : ℕ) (c : Completion) : Type 0 where
  pub count : c.count ≡ n
  pub lower : c.lower ≡ a % 128

abbrev pub InTurn : ℕ → ℕ → List (List ℕ) → Result Completion Refusal → Type 0
InTurn a n l (Ok c) = When (carries c) (States a n c) × When (fails c) (l ≡ [])
InTurn a n l (Err r) = Unit

-- a list sent for n bytes from address a on; 'nothing follows the last byte or a failing status'
abbrev pub Sends : ℕ → ℕ → List (List ℕ) → Type 0
Sends a n [] = Unit
Sends a n (s ∷ l) = (0 < n) × InTurn a n l (completion_of s) × Sends (a + carried n s) (n - carried n s) l

-- 'A configuration request has at most one completion'
abbrev pub Answers : Wanted → List (List ℕ) → Type 0
Answers (bytes a n) l = Sends a n l
Answers word l = length l ≤ 1

-- ---- the pairing

pub record Request : Type 0 where
  pub number : ℕ
  pub tag : ℕ

-- how many requests were sent in all, and those sent since the link last went down
pub record Wire : Type 0 where
  pub count : ℕ
  pub live : List Request

abbrev pub wire0 : Wire
wire0 = record { count = 0; live = [] }

abbrev pub sending : Wire → List Ask → Wire
sending w [] = w
sending w (a ∷ rest) = sending (record { count = suc w.count; live = record { number = w.count; tag = a.tag } ∷ w.live }) rest

-- 'sends nothing across a link drop'
abbrev pub dropping : Event → Wire → Wire
dropping (call c) w = w
dropping (completion i s) w = w
dropping tick w = w
dropping (link true) w = w
dropping (link false) w = record { count = w.count; live = [] }

abbrev pub wire_after : Wire → Held → Event → Wire
wire_after w h e = sending (dropping e w) (asked h e)

-- 'each completion that comes and is not malformed is paired .. with one earlier request .. of the same tag'
abbrev pub PairedBy : Wire → ℕ → Result Completion Refusal → Type 0
PairedBy w i (Ok c) = Memᴰ (record { number = i; tag = c.tag }) w.live
PairedBy w i (Err r) = Unit

abbrev pub Paired : Wire → Event → Type 0
Paired w (call c) = Unit
Paired w (completion i s) = PairedBy w i (completion_of s)
Paired w tick = Unit
Paired w (link up) = Unit

-- the completions that are paired with request i, in the order in which they come
abbrev pub readable : Result Completion Refusal → Bool
readable (Ok c) = true
readable (Err r) = false

abbrev pub paired_now : ℕ → Event → List (List ℕ) → List (List ℕ)
paired_now i (call c) l = l
paired_now i (completion j s) l = cond (eqb i j && readable (completion_of s)) (s ∷ l) l
paired_now i tick l = l
paired_now i (link up) l = l

abbrev pub paired : ℕ → List Event → List (List ℕ)
paired i [] = []
paired i (e ∷ es) = paired_now i e (paired i es)

-- 'some, in order, of a list sent for it': none is invented or doubled, any may be lost
pub data Some {A : Type 0} : List A → List A → Type 0 where
  none : Some [] []
  came : {x y : A} {l m : List A} → x ≡ y → Some l m → Some (x ∷ l) (y ∷ m)
  lost : {x : A} {l m : List A} → Some l m → Some l (x ∷ m)

-- ---- THE PREMISE, for lists `sent` by request number

module _ (sent : ℕ → List (List ℕ)) where
  -- requests numbered from i on get lists that answer them
  abbrev pub AllAnswered : ℕ → List Ask → Type 0
  AllAnswered i [] = Unit
  AllAnswered i (a ∷ rest) = Answers a.wanted (sent i) × AllAnswered (suc i) rest

  abbrev pub Along : Held → Wire → List Event → Type 0
  Along h w [] = Unit
  Along h w (e ∷ es) =
      Paired w e × AllAnswered w.count (asked h e) × Along (step h e).after (wire_after w h e) es

  pub record FarSide (h : Held) (es : List Event) : Type 0 where
    pub along : Along h wire0 es
    pub order : (i : ℕ) → Some (paired i es) (sent i)

-- a first part of a list that meets the premise meets it
abbrev pub FarFirst : Type 0
FarFirst = (sent : ℕ → List (List ℕ)) (h : Held) (es fs : List Event) → FarSide sent h (es ++ fs) → FarSide sent h es
