-- The first offset past n bus bits, as the code has it.
use mathlib.Core.Path.{◌≡◌}
use mathlib.Core.Bool.{false}
use Prim.Native.Nat.{ℕ, ◌+◌, ◌*◌, ◌%◌, ◌^◌, ◌≤◌, ◌<◌}
use native.Mathlib.Nat.{lt_of_lt_of_le}
use native.Mathlib.Omega.{arith}
use lib.Pow.{pow_mono}
use borrow.Author.Tests.{lt-leb}
use Rattle.std.proofs.lemmas.Nat.{one_shl}
use Rattle.ecam.specs.Route.{out_of_range}

pub shifted : (n o : ℕ) → n < 44 → (1 * 2 ^ (20 + n)) % 2 ^ 64 ≡ 2 ^ (20 + n)
shifted n o h = one_shl (20 + n) 64 (omega arith)

pub all_below : (n o : ℕ) → o < 2 ^ 64 → 44 ≤ n → out_of_range n o ≡ false
all_below n o h l = lt-leb _ _ (lt_of_lt_of_le h (pow_mono {i = 64} {j = 20 + n} (omega arith)))
