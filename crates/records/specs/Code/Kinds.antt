-- The kinds of records, by the numbers that they have in their first four bits.
use Rattle.std.specs.Prelude.{ℕ, ◌≡◌, ◌≤◌, Option, None, Some}
use Rattle.records.specs.declared.kind.Kind.{Kind}
use Rattle.records.specs.declared.kind.Kind.TheVariants.{End, Read, Write, Config, Completion, Link, Tick, Take}
use Rattle.records.specs.Layout.{kinds}

abbrev pub kind_number : Kind → ℕ
kind_number End = 0
kind_number Read = 1
kind_number Write = 2
kind_number Config = 3
kind_number Completion = 4
kind_number Link = 5
kind_number Tick = 6
kind_number Take = 7

-- the kind of a number, or none where the table has no row
abbrev pub IsKind : Option Kind → ℕ → Type 0
IsKind None n = kinds ≤ n
IsKind (Some k) n = kind_number k ≡ n
