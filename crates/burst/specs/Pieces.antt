-- The cut of n bytes from address a on 'at every multiple of the read or write limit, in address order' (01, 'Memory
-- bursts'): a piece is what lies in one block of l bytes, and the blocks are counted from that of the first byte.
use Rattle.std.specs.Prelude.{ℕ, zero, suc, ◌+◌, ◌-◌, ◌*◌, ◌/◌, ◌≤◌, min, max, List, [], ◌∷◌, map}
use Rattle.burst.specs.declared.Piece.{Piece}

-- from the block of the first byte to that of the last
unfoldable pub piece_count : ℕ → ℕ → ℕ → ℕ
piece_count l a n = (a + n - 1) / l - a / l + 1

-- where the k-th piece starts: at the first byte, or at its block
unfoldable pub piece_first : ℕ → ℕ → ℕ → ℕ
piece_first l a k = max a ((a / l + k) * l)

-- where it ends: behind the last byte, or at the next block
unfoldable pub piece_end : ℕ → ℕ → ℕ → ℕ → ℕ
piece_end l a n k = min (a + n) ((a / l + k + 1) * l)

unfoldable pub piece_at : ℕ → ℕ → ℕ → ℕ → Piece
piece_at l a n k = record { first = piece_first l a k; length = piece_end l a n k - piece_first l a k }

-- the n numbers from a on
unfoldable pub addresses : ℕ → ℕ → List ℕ
addresses a zero = []
addresses a (suc n) = a ∷ addresses (suc a) n

-- the pieces, in address order
unfoldable pub pieces : ℕ → ℕ → ℕ → List Piece
pieces l a n = map (piece_at l a n) (addresses 0 (piece_count l a n))

-- the addresses of a piece's bytes
abbrev pub bytes_of : Piece → List ℕ
bytes_of p = addresses p.first p.length

-- a piece lies among the n bytes from a on
pub record Within (a n : ℕ) (p : Piece) : Type 0 where
  pub starts : a ≤ p.first
  pub ends : p.first + p.length ≤ a + n
