-- A packet that is too short has no header.
use mathlib.Core.Path.{◌≡◌}
use mathlib.Core.List.{List}
use Prim.Native.Nat.{ℕ, ◌<◌}
use native.Mathlib.Omega.{arith}
use borrow.Author.Tests.{ne_eqb}
use lib.ListN.{length}
use Rattle.std.specs.Prelude.{Err}
use Rattle.refusals.specs.declared.Refusal.TheVariants.{Malformed}
use Rattle.tlp.specs.Completion.{completion_reserved, read_completion}

-- a reader that wants 12 bytes finds no header in fewer
pub read_short : (s : List ℕ) → length s < 12 → read_completion s ≡ Err Malformed
unfolding read_completion completion_reserved
read_short s h = rw (ne_eqb (length s) 12 (λ e. omega arith))
