-- What the steps of the streaming reader tell each other.
use Rattle.std.specs.Prelude.{ℕ, ◌+◌, ◌≤◌, ◌<◌, ◌≡◌, List, [], ◌∷◌, true, cond, length, take, ltb, None, Some, Result, Err, IsOkAnd}
use Rattle.std.specs.Prelude as code
use Rattle.std.proofs.Math.Option.{Option, none, some}
use Rattle.refusals.specs.declared.Refusal.{Refusal}
use Rattle.refusals.specs.declared.Refusal.TheVariants.{TooShort}
use Rattle.refusals.specs.Table.{too_short}
use Rattle.refusals.specs.Refusals.{number_in}
use Rattle.records.specs.declared.Reader.{Reader}
use Rattle.records.specs.declared.Found.{Found}
use Rattle.records.specs.declared.Found.TheVariants as found
use Rattle.records.specs.declared.Phase.{Phase}
use Rattle.records.specs.declared.Phase.TheVariants.{Reading, Ended, Bad}
use Rattle.records.specs.declared.stream.Got.{Got}
use Rattle.records.specs.declared.stream.Got.TheVariants.{Here, Kept}
use Rattle.records.specs.declared.stream.Came.{Came}
use Rattle.records.specs.Events.{Captured}
use Rattle.records.specs.Stream as stream
use Rattle.records.specs.Stream.{is_reading, capped, pushed, push, next_event}
use Rattle.records.specs.Code.Meaning.{captured, most_held, reader_of}

-- the event that was completed, with the bytes that were read at hand
abbrev pub event_of : List ℕ → List ℕ → code.Option Got → Option Captured
event_of bytes buffer None = none
event_of bytes buffer (Some (Here e)) = some (captured e bytes)
event_of bytes buffer (Some (Kept e size)) = some (captured e (take size buffer))

-- the reader behind an event's record
abbrev pub moved_on : Reader → ℕ → Reader
moved_on r size =
    record { at = capped (r.at + size); events = capped (r.events + 1); have = 0; phase = Reading }

abbrev pub came : Reader → ℕ → code.Option Got → Came
came r used got = record { reader = r; used = used; got = got }

abbrev pub stays : Reader → ℕ → Phase → Reader
stays r have phase = record { at = r.at; events = r.events; have = have; phase = phase }

-- what one byte comes to, the last of so many of a record, by what they begin with
abbrev pub settled : Reader → ℕ → Found → Came
settled r have found.More = came (stays r have Reading) 1 None
settled r have (found.Bad f) = came (stays r 0 (Bad f)) 1 None
settled r have found.End = came (stays r 0 Ended) 1 None
settled r have (found.Whole e size) = came (moved_on r size) 1 (Some (Kept e size))

-- what a call came to
abbrev pub came_of : List ℕ → List ℕ → Came → stream.Came
came_of input buffer c =
    stream.came (reader_of c.reader buffer) (event_of (take c.used input) buffer c.got) c.used

-- some bytes, one at least, of which none but the last can complete an event, end the file or be a fault
pub data Steps : stream.Reader → List ℕ → stream.Reader → Option Captured → Type 0 where
  last :
      {r q : stream.Reader} {b : ℕ} {e : Option Captured} → is_reading r.phase ≡ true → push r b ≡ pushed q e
      → Steps r (b ∷ []) q e
  then :
      {r p q : stream.Reader} {b : ℕ} {s : List ℕ} {e : Option Captured} → is_reading r.phase ≡ true
      → push r b ≡ pushed p none → Steps p s q e
      → Steps r (b ∷ s) q e

-- ---- a call of the reader

-- with so many bytes read before
abbrev pub later : ℕ → stream.Came → stream.Came
later n c = stream.came c.reader c.event (n + c.used)

-- a buffer that cannot hold the longest record is refused, and nothing is read: the caller keeps its reader, and the buffer is as
-- it was
pub record ReadOn (r : Reader) (before input after : List ℕ) (x : Result Came Refusal) : Type 0 where
  pub number : number_in x ≡ cond (ltb (length before) (most_held + 1)) too_short 0
  pub refused : length before < most_held + 1 → (x ≡ Err TooShort) × (after ≡ before)
  pub read :
      most_held + 1 ≤ length before
      → IsOkAnd x (λ c. came_of input after c ≡ next_event (reader_of r before) input)
