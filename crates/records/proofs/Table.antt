-- What every row of the table of layouts has.
use mathlib.Core.Path.{◌≡◌}
use mathlib.Core.Bool.{true}
use mathlib.Core.List.{List, [], ◌∷◌}
use Prim.Native.Nat.{ℕ, zero, suc, ◌≤◌}
use native.Mathlib.Omega.{arith}
use borrow.Author.Tests.{leb-true}
use lib.Dec.{leb}
use lib.ListN.{get_or}
use Rattle.common.proofs.Tests.{and_left, and_right}
use Rattle.records.specs.Layout.{Layout, row, layouts, layout_of, field_bytes, length_fits}

-- the longest body, and the fields in the shortest
pub record Fine (l : Layout) : Type 0 where
  pub most : l.most ≤ 4112
  pub fields : field_bytes l ≤ l.least

abbrev AllFine : List Layout → Type 0
AllFine [] = Unit
AllFine (l ∷ ls) = Fine l × AllFine ls

fine_at : (ls : List Layout) (d : Layout) (kind : ℕ) → AllFine ls → Fine d → Fine (get_or ls kind d)
fine_at [] d kind a f = f
fine_at (l ∷ ls) d zero a f = a.0
fine_at (l ∷ ls) d (suc kind) a f = fine_at ls d kind a.1 f

pub fine : (kind : ℕ) → Fine (layout_of kind)
fine kind =
    let none : Fine (row [] 0 0) = omega arith in
    let all : AllFine layouts = omega arith in
    fine_at layouts (row [] 0 0) kind all none

-- a length that fits
pub body_least : (l : Layout) (body : ℕ) → length_fits l body ≡ true → l.least ≤ body
body_least l body f = leb-true l.least body (and_left (leb l.least body) (leb body l.most) f)

pub body_most : (l : Layout) (body : ℕ) → length_fits l body ≡ true → body ≤ l.most
body_most l body f = leb-true body l.most (and_right (leb l.least body) (leb body l.most) f)
