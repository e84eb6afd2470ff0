-- The streaming reader, byte by byte: it is fed a file in any parts.
use Rattle.std.specs.Prelude.{ℕ, ◌+◌, ◌-◌, ◌^◌, min, List, [], ◌∷◌, ◌++◌, Bool, true, false, cond}
use Rattle.std.proofs.Math.Option.{Option, none, some}
use Rattle.records.specs.declared.Phase.{Phase}
use Rattle.records.specs.declared.Phase.TheVariants.{Reading, Ended, Bad}
use Rattle.records.specs.Events.{Captured}
use Rattle.records.specs.Reading as reading
use Rattle.records.specs.Reading.{Next, next}

-- where the present record begins in the file, how many events came before it, and its bytes so far
pub record Reader : Type 0 where
  pub at : ℕ
  pub events : ℕ
  pub held : List ℕ
  pub phase : Phase

abbrev pub reader : ℕ → ℕ → List ℕ → Phase → Reader
reader at n held phase = record { at = at; events = n; held = held; phase = phase }

abbrev pub fresh : Reader
fresh = reader 0 0 [] Reading

abbrev pub is_reading : Phase → Bool
is_reading Reading = true
is_reading Ended = false
is_reading (Bad f) = false

-- both counts are of 64 bits and stay at their last value, so a count that an end states, of 32 bits, is never met by chance
abbrev pub capped : ℕ → ℕ
capped x = min x (2 ^ 64 - 1)

-- ---- one byte

pub record Pushed : Type 0 where
  pub reader : Reader
  pub event : Option Captured

abbrev pub pushed : Reader → Option Captured → Pushed
pushed r e = record { reader = r; event = e }

abbrev pub pushed_by : Reader → List ℕ → Next → Pushed
pushed_by r held reading.more = pushed (reader r.at r.events held Reading) none
pushed_by r held (reading.bad f) = pushed (reader r.at r.events [] (Bad f)) none
pushed_by r held reading.end = pushed (reader r.at r.events [] Ended) none
pushed_by r held (reading.event e size) =
    pushed (reader (capped (r.at + size)) (capped (r.events + 1)) [] Reading) (some e)

-- after the end or a fault nothing is read
unfoldable pub push : Reader → ℕ → Pushed
push r b =
    cond (is_reading r.phase) (pushed_by r (r.held ++ b ∷ []) (next r.events (r.held ++ b ∷ []))) (pushed r none)

-- ---- a list of bytes

pub record Fed : Type 0 where
  pub reader : Reader
  pub events : List Captured

abbrev pub fed : Reader → List Captured → Fed
fed r es = record { reader = r; events = es }

abbrev pub listed : Option Captured → List Captured
listed none = []
listed (some e) = e ∷ []

abbrev pub feed : Reader → List ℕ → Fed
feed r [] = fed r []
feed r (b ∷ s) = fed (feed (push r b).reader s).reader (listed (push r b).event ++ (feed (push r b).reader s).events)

-- several parts in turn
abbrev pub feed_all : Reader → List (List ℕ) → Fed
feed_all r [] = fed r []
feed_all r (s ∷ rest) = fed (feed_all (feed r s).reader rest).reader ((feed r s).events ++ (feed_all (feed r s).reader rest).events)

-- ---- up to one event

pub record Came : Type 0 where
  pub reader : Reader
  pub event : Option Captured
  -- how many bytes were read
  pub used : ℕ

abbrev pub came : Reader → Option Captured → ℕ → Came
came r e used = record { reader = r; event = e; used = used }

abbrev pub one_more : Came → Came
one_more c = came c.reader c.event (1 + c.used)

-- the event that a byte completed, or else what the rest gives
abbrev pub event_by : Reader → Came → Option Captured → Came
event_by r rest none = rest
event_by r rest (some e) = came r (some e) 0

-- the first event that these bytes complete, and the bytes up to it; without one all of them, but none after the end or a fault
abbrev pub next_event : Reader → List ℕ → Came
next_event r [] = came r none 0
next_event r (b ∷ s) =
    cond (is_reading r.phase) (one_more (event_by (push r b).reader (next_event (push r b).reader s) (push r b).event))
    (came r none 0)
