-- Records written and read, both ways (02, A5; readings C5, C6 and C7).
use Rattle.std.specs.Prelude.{ℕ, ◌+◌, ◌*◌, ◌/◌, ◌%◌, ◌^◌, ◌<◌, ◌≡◌, true, length, take}
use mathlib.Core.List.{List, [], ◌∷◌, ◌++◌, flat_map}
use Rattle.tlp.specs.Bytes.{bytes, number}
use Rattle.tlp.specs.Laws.{Bytes}
use Rattle.records.specs.declared.Fault.TheVariants.{Count}
use Rattle.records.specs.Events.{Captured, config_read, read, write, config_write, completion, link, tick}
use Rattle.records.specs.Events as events
use Rattle.records.specs.Writing as writing
use Rattle.records.specs.Writing.{Item, holds, record_of, end_record, write_refusal}
use Rattle.records.specs.Reading.{bad, end, event, next}
use Rattle.records.specs.File.{ended, cut, file}

-- ---- C5: written, then read

abbrev pub ReadsBack : Type 0
ReadsBack =
    (e : Captured) → holds e ≡ true → (n : ℕ) (z : List ℕ) → next n (record_of e ++ z) ≡ event e (length (record_of e))

-- an end record is right after as many events as it states, and after no other number
pub record EndReadsBack (n : ℕ) : Type 0 where
  pub right : (z : List ℕ) → next n (end_record n ++ z) ≡ end
  pub wrong : (m : ℕ) (z : List ℕ) → (m ≡ n → ⊥) → next m (end_record n ++ z) ≡ bad Count

abbrev pub EndsReadBack : Type 0
EndsReadBack = (n : ℕ) → n < 2 ^ 32 → EndReadsBack n

abbrev pub AllHold : List Captured → Type 0
AllHold [] = Unit
AllHold (e ∷ es) = (holds e ≡ true) × AllHold es

abbrev pub records_of : List Captured → List ℕ
records_of es = flat_map record_of es

-- a file of such records is read as their events, with its end and without
pub record FileReadsBack (es : List Captured) : Type 0 where
  pub whole :
      length es < 2 ^ 32 → (z : List ℕ)
      → file (records_of es ++ end_record (length es) ++ z) ≡ record { events = es; verdict = ended (length es) }
  pub unended : file (records_of es) ≡ record { events = es; verdict = cut (length es) }

abbrev pub FilesReadBack : Type 0
FilesReadBack = (es : List Captured) → AllHold es → FileReadsBack es

-- ---- C6: read, then written

-- 'both ignored in a read, written 0': of a configuration read's 72 bits the 36 of strobes and data; in front of them stand the
-- offset and the write flag, behind them 7 bits of padding
abbrev pub offset_alone : List ℕ → List ℕ
offset_alone s = take 3 s ++ bytes 9 (number s 3 9 / 2 ^ 43 * 2 ^ 43 + number s 3 9 % 2 ^ 7)

abbrev pub canonical : Captured → List ℕ → List ℕ
canonical (read q) s = s
canonical (write q d) s = s
canonical (config_read offset) s = offset_alone s
canonical (config_write offset strobes word) s = s
canonical (completion packet) s = s
canonical (link up) s = s
canonical tick s = s
canonical (events.take slot) s = s

-- of bytes, what is read can be held, and is written as the bytes that were read
abbrev pub WritesBack : Type 0
WritesBack =
    (n : ℕ) (s : List ℕ) (e : Captured) (size : ℕ)
    → Bytes s
    → next n s ≡ event e size
    → (holds e ≡ true) × (record_of e ≡ canonical e (take size s))

-- ---- C7: 12 exactly

-- bytes that read as an item; nothing reads as a message
abbrev pub ReadsAs : Item → List ℕ → Type 0
ReadsAs (writing.event e) s = (n : ℕ) × (size : ℕ) × (next n s ≡ event e size)
ReadsAs (writing.end n) s = next n s ≡ end
ReadsAs (writing.message m) s = ⊥

-- the bytes that a caller lends are bytes
abbrev pub Lent : Item → Type 0
Lent (writing.event e) = Bytes (events.plain_of e)
Lent (writing.end n) = Unit
Lent (writing.message m) = Unit

pub record RefusedExactly (i : Item) (room : ℕ) : Type 0 where
  pub refused : write_refusal i room ≡ 12 → (s : List ℕ) → Bytes s → ReadsAs i s → ⊥
  pub only : ((s : List ℕ) → Bytes s → ReadsAs i s → ⊥) → write_refusal i room ≡ 12

abbrev pub TwelveExactly : Type 0
TwelveExactly = (i : Item) (room : ℕ) → Lent i → RefusedExactly i room
