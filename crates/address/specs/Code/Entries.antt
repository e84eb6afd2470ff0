-- The number by which the code says which of the six entries it found.
use Rattle.std.specs.Prelude.{ℕ, Option, Some, None}

-- the entry's own number, and 6 for none
abbrev pub entry_number : Option ℕ → ℕ
entry_number (Some i) = i
entry_number None = 6
