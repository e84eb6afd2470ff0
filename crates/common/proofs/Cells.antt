-- A list read cell by cell.
use mathlib.Core.Path.{◌≡◌, sym, ap, ◌∙◌}
use mathlib.Core.List.{List, [], ◌∷◌}
use Prim.Native.Nat.{ℕ, zero, suc, ◌+◌}
use native.Mathlib.Nat.{add-zero, add-suc, suc-add}
use native.Mathlib.Omega.{arith}
use lib.ListN.{length, get_or, drop}
use lib.Seq.{drop-cons, drop-length}

-- the n cells from place k on
abbrev pub cells : List ℕ → ℕ → ℕ → List ℕ
cells s k zero = []
cells s k (suc n) = get_or s k 0 ∷ cells s (suc k) n

pub cells_drop : (s : List ℕ) (k n : ℕ) → k + n ≡ length s → cells s k n ≡ drop k s
cells_drop s k zero e = rw (sym (add-zero k) ∙ e) (sym (drop-length s))
cells_drop s k (suc n) e =
    let h : suc k + n ≡ length s = suc-add k n ∙ (sym (add-suc k n) ∙ e) in
    ap (λ (t : List ℕ). get_or s k 0 ∷ t) (cells_drop s (suc k) n h) ∙ sym (drop-cons s k 0 (omega arith))

-- a list of known length is its cells
pub cells_all : (n : ℕ) (s : List ℕ) → length s ≡ n → cells s 0 n ≡ s
cells_all n s e = cells_drop s 0 n (omega arith)
