-- Bytes in the store (01, 'Completions').
use Rattle.std.specs.Prelude.{ℕ, ◌*◌, List, take, drop, replicate}
use Rattle.std.proofs.Math.Seq.{paste}
use Rattle.parts.specs.Sizes.{slot_size}

-- the first n bytes of slot k are zero
abbrev pub zeroed : ℕ → ℕ → List ℕ → List ℕ
zeroed k n store = paste store (slot_size * k) (replicate n 0) n

-- the useful bytes stand in the payload from lower mod 4 on
abbrev pub useful_bytes : ℕ → ℕ → List ℕ → List ℕ
useful_bytes skip n payload = take n (drop skip payload)
