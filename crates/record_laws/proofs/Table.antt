-- What every row of the table of layouts has.
use mathlib.Core.Path.{◌≡◌, ap, ◌∙◌}
use mathlib.Core.Bool.{true}
use Prim.Native.Nat.{ℕ, ◌+◌, ◌*◌, ◌^◌, ◌≤◌, ◌<◌}
use native.Mathlib.Omega.{arith}
use Rattle.records.specs.Layout.{Layout, layout_of, bits_of, field_bytes, spare_bits, length_fits}
use Rattle.records.proofs.Table.{fine, body_least, body_most}
use Rattle.record_laws.proofs.Numbers.{byte_bits}

-- the fields and their padding are whole bytes
padded_bits : (l : Layout) → 8 * field_bytes l ≡ bits_of l.fields + spare_bits l
padded_bits l = omega arith

pub padded_unit : (l : Layout) → 256 ^ field_bytes l ≡ 2 ^ (bits_of l.fields + spare_bits l)
padded_unit l = byte_bits (field_bytes l) ∙ ap (λ (k : ℕ). 2 ^ k) (padded_bits l)

-- a body whose length fits its kind has a length of two bytes, and holds its fields
pub body_small : (kind body : ℕ) → length_fits (layout_of kind) body ≡ true → body < 2 ^ 16
body_small kind body e = omega (arith, body_most (layout_of kind) body e, (fine kind).most)

pub body_holds : (kind body : ℕ) → length_fits (layout_of kind) body ≡ true → field_bytes (layout_of kind) ≤ body
body_holds kind body e = omega (arith, body_least (layout_of kind) body e, (fine kind).fields)
