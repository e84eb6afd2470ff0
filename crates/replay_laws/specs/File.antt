-- What a file's verdict says of its bytes (02, A5).
use Rattle.std.specs.Prelude.{ℕ, ◌≤◌, ◌≡◌, List, ◌++◌, length, drop}
use Rattle.records.specs.Reading as reading
use Rattle.records.specs.Reading.{next}
use Rattle.records.specs.File.{Verdict, ended, cut, bad, file}

-- 'Bytes after an end record are not read', nor after a fault
abbrev pub Stopped : Verdict → Type 0
Stopped (ended n) = Unit
Stopped (cut n) = ⊥
Stopped (bad f at) = Unit

abbrev pub BehindIsNotRead : Type 0
BehindIsNotRead = (x z : List ℕ) → Stopped (file x).verdict → file (x ++ z) ≡ file x

-- 'end n of n' and 'cut after n' state the number of events; a fault stands at 'the record's byte offset', after so many events
abbrev pub Stated : List ℕ → ℕ → Verdict → Type 0
Stated x events (ended n) = events ≡ n
Stated x events (cut n) = events ≡ n
Stated x events (bad f at) = (at ≤ length x) × (next events (drop at x) ≡ reading.bad f)

abbrev pub VerdictStates : Type 0
VerdictStates = (x : List ℕ) → Stated x (length (file x).events) (file x).verdict
