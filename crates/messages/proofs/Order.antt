-- The laws of queues, and what an entry shows.
use Prim.Native.Nat.{ℕ, zero, suc, ◌+◌, ◌≤◌, ◌<◌}
use native.Mathlib.Omega.{arith}
use mathlib.Core.Path.{◌≡◌, refl, sym, ap, ◌∙◌}
use mathlib.Core.List.{List, [], ◌∷◌, ◌++◌}
use mathlib.Core.Bool.{Bool, true, false, cond}
use lib.ListN.{length, drop}
use lib.Dec.{eqb, leb}
use borrow.Author.Tests.{le-leb, lt-leb, leb-false}
use Rattle.messages.specs.Queue.{push, pop}
use Rattle.messages.specs.Layout.{err_cor, err_non_fatal, code_of, type_of, entry_of}
use Rattle.messages.specs.Laws.{push_all, InOrder, RemovedInOrder, NeverMore, PopNoMore, PopEmpty, DropsNewest, RoomForNext, EntryShows}

pub apart : false ≡ true → ⊥
apart e = let z : ◌≡◌ {A = ℕ} 0 1 = ap (λ (b : Bool). cond b 1 0) e in omega arith

append_nil : (q : List ℕ) → q ++ [] ≡ q
append_nil [] = refl
append_nil (x ∷ q) = ap (λ (l : List ℕ). x ∷ l) (append_nil q)

append_one : (q es : List ℕ) (e : ℕ) → (q ++ e ∷ []) ++ es ≡ q ++ e ∷ es
append_one [] es e = refl
append_one (x ∷ q) es e = ap (λ (l : List ℕ). x ∷ l) (append_one q es e)

append_length : (q : List ℕ) (e : ℕ) → length (q ++ e ∷ []) ≡ suc (length q)
append_length [] e = refl
append_length (x ∷ q) e = ap suc (append_length q e)

pushed : (q : List ℕ) (e : ℕ) → length q < 32 → push q e ≡ q ++ e ∷ []
pushed q e h = rw (lt-leb 32 (length q) h)

all_pushed : (q es : List ℕ) → length q + length es ≤ 32 → push_all q es ≡ q ++ es
all_pushed q [] h = sym (append_nil q)
all_pushed q (e ∷ es) h =
    ap (λ (l : List ℕ). push_all l es) (pushed q e (omega (arith, h)))
    ∙ (all_pushed (q ++ e ∷ []) es (omega (arith, h, append_length q e)) ∙ append_one q es e)

pub in_order_lem : InOrder
in_order_lem es h = all_pushed [] es (omega (arith, h))

drop_nil : (n : ℕ) → drop {A = ℕ} n [] ≡ []
drop_nil zero = refl
drop_nil (suc n) = refl

pub removed_in_order : RemovedInOrder
removed_in_order zero q = refl
removed_in_order (suc n) [] = removed_in_order n [] ∙ drop_nil n
removed_in_order (suc n) (x ∷ q) = removed_in_order n q

pub never_more : NeverMore
never_more q e h = by (leb 32 (length q)) refl
  where
    by : (b : Bool) → leb 32 (length q) ≡ b → length (cond b q (q ++ e ∷ [])) ≤ 32
    by true p = h
    by false p = omega (arith, append_length q e, leb-false 32 (length q) p)

pub pop_no_more : PopNoMore
pop_no_more [] h = h
pop_no_more (x ∷ q) h = omega (arith, h)

pub pop_empty : PopEmpty
pop_empty = refl

pub drops_newest : DropsNewest
drops_newest q e h = rw (le-leb 32 (length q) h)

pub room_for_next : RoomForNext
room_for_next q x d e h =
    ap (λ (l : List ℕ). push (pop l) e) (drops_newest (x ∷ q) d (omega (arith, h))) ∙ pushed q e (omega (arith, h))

type_small : (c : ℕ) → type_of c ≤ 2
type_small c = by (eqb c err_cor) (eqb c err_non_fatal)
  where
    by : (a b : Bool) → cond a 0 (cond b 1 2) ≤ 2
    by true b = omega arith
    by false true = omega arith
    by false false = omega arith

pub entry_shows : EntryShows
unfolding entry_of
entry_shows s h =
    let t = type_small (code_of s) in
    record {
      requester = omega (arith, h, t);
      type = omega (arith, h, t);
      valid = omega (arith, h, t);
    }
