-- A capture: its bytes give events and a verdict.
use Rattle.std.specs.Prelude.{ℕ, zero, suc, ◌+◌, List, [], ◌∷◌, length, drop}
use Rattle.records.specs.declared.Fault.{Fault}
use Rattle.records.specs.Events.{Captured}
use Rattle.records.specs.Reading as reading
use Rattle.records.specs.Reading.{Next, next}

-- 'end 1 of 1'; 'cut after 1', also inside a record; a fault, and 'the record's byte offset'
pub data Verdict : Type 0 where
  ended : ℕ → Verdict
  cut : ℕ → Verdict
  bad : Fault → ℕ → Verdict

pub record File : Type 0 where
  pub events : List Captured
  pub verdict : Verdict

abbrev pub no_events : Verdict → File
no_events v = record { events = []; verdict = v }

abbrev pub with_event : Captured → File → File
with_event e f = record { events = e ∷ f.events; verdict = f.verdict }

-- what the bytes begin with, after n events and `at` bytes; `rest` gives the file behind a record of so many bytes
abbrev pub file_by : ℕ → ℕ → (ℕ → File) → Next → File
file_by n at rest reading.more = no_events (cut n)
file_by n at rest (reading.bad f) = no_events (bad f at)
file_by n at rest reading.end = no_events (ended n)
file_by n at rest (reading.event e size) = with_event e (rest size)

-- record by record while they hold events; each has 3 bytes or more, so as many turns as there are bytes are enough
abbrev pub file_from : ℕ → ℕ → ℕ → List ℕ → File
file_from zero n at s = no_events (cut n)
file_from (suc turns) n at s = file_by n at (λ (size : ℕ). file_from turns (n + 1) (at + size) (drop size s)) (next n s)

-- 'Bytes after an end record are not read', nor after a fault
abbrev pub file : List ℕ → File
file s = file_from (length s) 0 0 s
