-- What a step of a write does; only contracts of inner functions cite it.
use Rattle.std.specs.Prelude.{ℕ, ◌+◌, List, cond, length, leb, ◌≡◌}
use Rattle.std.proofs.Math.Seq.{paste}

-- a packet p is put into an area from a place on, if the area can hold it: where the next one goes, and the area after
pub record Put (area : List ℕ) (at : ℕ) (p : List ℕ) (next : ℕ) (after : List ℕ) : Type 0 where
  pub next_at : next ≡ cond (leb (at + length p) (length area)) (at + length p) at
  pub area_after : after ≡ cond (leb (at + length p) (length area)) (paste area at p (length p)) area
