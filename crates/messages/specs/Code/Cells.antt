-- The queue that an array of cells holds, in a circle: `count` entries, the oldest in the cell `first` mod 32.
use Rattle.std.specs.Prelude.{ℕ, zero, suc, ◌+◌, ◌%◌, List, [], ◌∷◌, cond, get_or, set, leb, Option, Some, None}
use Rattle.messages.specs.Queue.{depth}
use Rattle.messages.specs.declared.queue.Ring.{Ring}

abbrev pub entries : ℕ → ℕ → List ℕ → List ℕ
entries first zero cells = []
entries first (suc n) cells = get_or cells (first % depth) 0 ∷ entries (suc first) n cells

abbrev pub queue_of : Ring → List ℕ → List ℕ
queue_of r cells = entries r.first r.count cells

-- the cells after an entry has come: the one behind the newest has it; a full queue's stay
abbrev pub cells_after : Ring → List ℕ → ℕ → List ℕ
cells_after r cells e = cond (leb depth r.count) cells (set cells ((r.first % depth + r.count) % depth) e)

-- the oldest entry, where there is one
abbrev pub first : List ℕ → Option ℕ
first [] = None
first (e ∷ q) = Some e
