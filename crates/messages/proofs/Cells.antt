-- The queue in its cells: where an entry is put, and what it leaves.
use Prim.Native.Nat.{ℕ, zero, suc, ◌+◌, ◌-◌, ◌%◌, ◌≤◌, ◌<◌}
use native.Mathlib.Omega.{arith}
use mathlib.Core.Path.{◌≡◌, refl, sym, ap, ◌∙◌}
use mathlib.Core.List.{List, [], ◌∷◌, ◌++◌}
use lib.ListN.{length, get_or, set}
use lib.Dec.{eqb, leb}
use lib.Seq.{get_or-set_same, get_or-set_other}
use borrow.Author.Tests.{ne_eqb, le-leb, lt-leb}
use Rattle.std.specs.Prelude.{Some, None}
use Rattle.std.proofs.lemmas.List.{get_or_read}
use Rattle.messages.specs.Queue.{is_empty, is_full, push, pop}
use Rattle.messages.specs.Code.Cells.{entries, first}

-- as many as there are said to be
pub entries_length : (f n : ℕ) (cells : List ℕ) → length (entries f n cells) ≡ n
entries_length f zero cells = refl
entries_length f (suc n) cells = ap suc (entries_length (suc f) n cells)

-- only the place mod 32 counts
pub entries_mod : (f g n : ℕ) (cells : List ℕ) → f % 32 ≡ g % 32 → entries f n cells ≡ entries g n cells
entries_mod f g zero cells e = refl
entries_mod f g (suc n) cells e =
    ap (λ (i : ℕ). get_or cells i 0 ∷ entries (suc f) n cells) e
    ∙ ap (λ (q : List ℕ). get_or cells (g % 32) 0 ∷ q) (entries_mod (suc f) (suc g) n cells (omega (arith, e)))

-- the newest stands last
pub entries_last : (f n : ℕ) (cells : List ℕ) → entries f (suc n) cells ≡ entries f n cells ++ get_or cells ((f + n) % 32) 0 ∷ []
entries_last f zero cells = ap (λ (i : ℕ). get_or cells (i % 32) 0 ∷ []) (omega arith)
entries_last f (suc n) cells =
    ap (λ (q : List ℕ). get_or cells (f % 32) 0 ∷ q)
    (entries_last (suc f) n cells ∙ ap (λ (i : ℕ). entries (suc f) n cells ++ get_or cells (i % 32) 0 ∷ []) (omega arith))

-- what is put behind the entries leaves them
pub entries_kept : (f k d : ℕ) (cells : List ℕ) (x : ℕ) → k + d < 32 → entries f k (set cells ((f + k + d) % 32) x) ≡ entries f k cells
entries_kept f zero d cells x h = refl
entries_kept f (suc k) d cells x h =
    ap (λ (y : ℕ). y ∷ entries (suc f) k (set cells ((f + suc k + d) % 32) x))
    (get_or-set_other cells ((f + suc k + d) % 32) (f % 32) x 0 (λ e. omega (arith, e, h)))
    ∙ ap (λ (q : List ℕ). get_or cells (f % 32) 0 ∷ q)
    (ap (λ (i : ℕ). entries (suc f) k (set cells (i % 32) x)) (omega arith) ∙ entries_kept (suc f) k d cells x (omega (arith, h)))

-- an entry is put behind the newest
pub entries_put : (f n : ℕ) (cells : List ℕ) (x : ℕ) → n < 32 → length cells ≡ 32 → entries f (suc n) (set cells ((f + n) % 32) x) ≡ entries f n cells ++ x ∷ []
entries_put f n cells x h l =
    entries_last f n (set cells ((f + n) % 32) x)
    ∙ ap (λ (y : ℕ). entries f n (set cells ((f + n) % 32) x) ++ y ∷ []) (get_or-set_same cells ((f + n) % 32) x 0 (omega (arith, l)))
    ∙ ap (λ (q : List ℕ). q ++ x ∷ []) (ap (λ (i : ℕ). entries f n (set cells (i % 32) x)) (omega arith) ∙ entries_kept f n 0 cells x (omega (arith, h)))

-- ---- empty, full

pub empty_is : (f n : ℕ) (cells : List ℕ) → eqb n 0 ≡ is_empty (entries f n cells)
empty_is f zero cells = refl
empty_is f (suc n) cells = ne_eqb (suc n) 0 (λ e. omega (arith, e))

pub full_is : (f n : ℕ) (cells : List ℕ) → leb 32 n ≡ is_full (entries f n cells)
full_is f n cells = ap (leb 32) (sym (entries_length f n cells))

-- ---- as the code does it

pub first_none : (f n : ℕ) (cells : List ℕ) → n ≡ 0 → None ≡ first (entries f n cells)
first_none f zero cells h = refl
first_none f (suc n) cells h = absurd (omega (arith, h))

pub first_some : (f n : ℕ) (cells : List ℕ) (x : ℕ) → (n ≡ 0 → ⊥) → x ≡ get_or cells (f % 32) x → f % 32 < length cells → Some x ≡ first (entries f n cells)
first_some f zero cells x h e l = absurd (h refl)
first_some f (suc n) cells x h e l = ap Some (get_or_read cells (f % 32) x l e 0)

pub pop_none : (f n : ℕ) (cells : List ℕ) → n ≡ 0 → entries f n cells ≡ pop (entries f n cells)
pop_none f zero cells h = refl
pop_none f (suc n) cells h = absurd (omega (arith, h))

pub pop_some : (f n : ℕ) (cells : List ℕ) → (n ≡ 0 → ⊥) → entries (f % 32 + 1) (n - 1) cells ≡ pop (entries f n cells)
pop_some f zero cells h = absurd (h refl)
pop_some f (suc n) cells h =
    let less : suc n - 1 ≡ n = omega arith in
    rw less (entries_mod (f % 32 + 1) (suc f) n cells (omega arith))

pub push_full : (f n : ℕ) (cells : List ℕ) (x : ℕ) → 32 ≤ n → entries f n cells ≡ push (entries f n cells) x
push_full f n cells x h = rw (entries_length f n cells, le-leb 32 n h)

pub push_some : (f n : ℕ) (cells : List ℕ) (x : ℕ) → n < 32 → length cells ≡ 32
    → entries f (n + 1) (set cells ((f % 32 + n) % 32) x) ≡ push (entries f n cells) x
push_some f n cells x h l =
    let at : (f % 32 + n) % 32 ≡ (f + n) % 32 = omega arith in
    let more : n + 1 ≡ suc n = omega arith in
    rw (entries_length f n cells, lt-leb 32 n h, at, more) (entries_put f n cells x h l)
