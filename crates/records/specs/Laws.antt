-- What `next` promises to a reader that gets its bytes little by little.
use Rattle.std.specs.Prelude.{ℕ, ◌≤◌, ◌<◌, ◌≡◌, List, ◌++◌, length, take}
use Rattle.records.specs.declared.Fault.TheVariants.{Kind, Length, Padding, Count}
use Rattle.records.specs.Layout.{head_size}
use Rattle.records.specs.Events.{Captured}
use Rattle.records.specs.Reading.{Next, more, bad, end, event, size_in, next}

-- the longest record has 4,115 bytes: with all but one of them the last may still be missing, with all it is judged
abbrev pub MoreIsShort : Type 0
MoreIsShort = (n : ℕ) (s : List ℕ) → next n s ≡ more → length s ≤ 4114

-- what is judged stays so, whatever follows
abbrev pub JudgedStays : Type 0
JudgedStays = (n : ℕ) (s z : List ℕ) → (next n s ≡ more → ⊥) → next n (s ++ z) ≡ next n s

-- a record of an event has its head and is all there
abbrev pub WholeIsThere : Type 0
WholeIsThere = (n : ℕ) (s : List ℕ) (e : Captured) (size : ℕ) → next n s ≡ event e size → (3 ≤ size) × (size ≤ length s)

-- how many bytes tell what is found: 'A kind is judged on its first byte, a length on the first three, then padding (the zero bits
-- too) and count on the whole record'; an end and an event too
abbrev pub known_at : List ℕ → Next → ℕ
known_at s more = 0
known_at s (bad Kind) = 1
known_at s (bad Length) = head_size
known_at s (bad Padding) = size_in s
known_at s (bad Count) = size_in s
known_at s end = size_in s
known_at s (event e size) = size

-- they are there; with what follows them left out the same is found, and with any byte less of them nothing is known
pub record Known (n : ℕ) (s : List ℕ) (k : ℕ) : Type 0 where
  pub there : k ≤ length s
  pub alone : next n (take k s) ≡ next n s
  pub part : (j : ℕ) → j < k → next n (take j s) ≡ more

abbrev pub KnownThen : Type 0
KnownThen = (n : ℕ) (s : List ℕ) → Known n s (known_at s (next n s))
