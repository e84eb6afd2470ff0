-- The numbers of a cut: which blocks of l bytes the n bytes from a on reach.
use mathlib.Core.Path.{◌≡◌, ap, ◌∙◌}
use Prim.Native.Nat.{ℕ, ◌+◌, ◌-◌, ◌*◌, ◌/◌, ◌%◌, ◌≤◌, ◌<◌, min}
use native.Mathlib.Omega.{arith}
use native.Mathlib.Nat.{div-add-mod', mod-lt, mul-le-mul_right, le-div_iff_mul-le, div-mul-le_self, lt-div-mul-add, mul-add-div_right, div-zero}
use Rattle.burst.specs.declared.Piece.{Piece}
use Rattle.burst.specs.Pieces.{piece_count, piece_first, piece_end, piece_at}

pub piece_eq : (f g x y : ℕ) → f ≡ g → x ≡ y → ◌≡◌ {A = Piece} (record { first = f; length = x }) (record { first = g; length = y })
piece_eq f g x y p q = rw (p, q)

-- division keeps the order
pub div_mono : (l x y : ℕ) → 0 < l → x ≤ y → x / l ≤ y / l
div_mono l x y h g = (le-div_iff_mul-le {k = l} {x = x / l} {y = y} h).1 (omega (arith, div-mul-le_self x l))

-- what is known of the block of the first byte
pub record Start (l a : ℕ) : Type 0 where
  pub split : a / l * l + a % l ≡ a
  pub low : a % l < l

pub start_of : (l a : ℕ) → 0 < l → Start l a
start_of l a h = record { split = div-add-mod' a l; low = mod-lt a h }

-- the blocks below the count start before the end, from the second on behind the start
pub reached : (l a n k : ℕ) → 0 < l → 0 < n → k < piece_count l a n → (a / l + k) * l < a + n
unfolding piece_count
reached l a n k h g c =
    let m : a / l ≤ (a + n - 1) / l = div_mono l a (a + n - 1) h (omega arith) in
    let q : a / l + k ≤ (a + n - 1) / l = omega arith in
    let r = (le-div_iff_mul-le {k = l} {x = a / l + k} {y = a + n - 1} h).0 q in
    omega arith

-- the block at the count starts behind the end
pub passed : (l a n : ℕ) → 0 < l → a + n ≤ (a / l + piece_count l a n) * l
unfolding piece_count
passed l a n h =
    let m : a / l ≤ (a + n) / l = div_mono l a (a + n) h (omega arith) in
    let t : a + n - 1 < (a + n - 1) / l * l + l = lt-div-mul-add h in
    let q = mul-le-mul_right l (le_of (a / l) ((a + n - 1) / l)) in
    omega arith
  where
    -- the last block, counted from the first
    le_of : (x y : ℕ) → y + 1 ≤ x + (y - x + 1)
    le_of x y = omega arith

-- a piece behind the first
pub record Later (l a n k : ℕ) : Type 0 where
  pub split : a / l * l + a % l ≡ a
  pub low : a % l < l
  pub block : l ≤ k * l
  pub reach : a / l * l + k * l < a + n

pub later : (l a n k : ℕ) → 0 < l → 0 < k → k < piece_count l a n → Later l a n k
unfolding piece_count
later l a n k h g c =
    let s = start_of l a h in
    let b : l ≤ k * l = omega (arith, mul-le-mul_right l g) in
    let q : a / l + k ≤ (a + n - 1) / l = omega arith in
    let r = (le-div_iff_mul-le {k = l} {x = a / l + k} {y = a + n - 1} h).0 q in
    record { split = s.split; low = s.low; block = b; reach = omega arith }

-- the count, from the first byte's place in its block on
pub count_by_place : (l a n : ℕ) → 0 < l → 0 < n → piece_count l a n ≡ (a % l + (n - 1)) / l + 1
unfolding piece_count
count_by_place l a n h g =
    let e : a + n - 1 ≡ a / l * l + (a % l + (n - 1)) = omega (arith, div-add-mod' a l) in
    let f : (a + n - 1) / l ≡ a / l + (a % l + (n - 1)) / l = ap (λ (x : ℕ). x / l) e ∙ mul-add-div_right h (a / l) (a % l + (n - 1)) in
    omega arith

pub count_no_limit : (a n : ℕ) → piece_count 0 a n ≡ 1
unfolding piece_count
count_no_limit a n = rw (div-zero (a + n - 1), div-zero a)

pub count_no_bytes : (l a : ℕ) → 0 < l → piece_count l a 0 ≡ 1
unfolding piece_count
count_no_bytes l a h = let m : (a + 0 - 1) / l ≤ a / l = div_mono l (a + 0 - 1) a h (omega arith) in omega arith

-- ## The pieces as the code has them

-- the first piece
pub head_first : (l a : ℕ) → 0 < l → a ≡ piece_first l a 0
unfolding piece_first
head_first l a h = let s = start_of l a h in omega arith

pub head_length : (l a n : ℕ) → 0 < l → min n (l - a % l) ≡ piece_end l a n 0 - piece_first l a 0
unfolding piece_first piece_end
head_length l a n h = let s = start_of l a h in omega arith

-- a later one
pub later_first : (l a n k : ℕ) → Later l a n k → a + (k * l - a % l) ≡ piece_first l a k
unfolding piece_first
later_first l a n k x = omega arith

pub later_length : (l a n k : ℕ) → Later l a n k → min (n - (k * l - a % l)) l ≡ piece_end l a n k - piece_first l a k
unfolding piece_first piece_end
later_length l a n k x = omega arith

-- with no limit there is one, which is empty
pub no_limit : (a n k : ℕ) → ◌≡◌ {A = Piece} (record { first = a; length = 0 }) (piece_at 0 a n k)
unfolding piece_at piece_first piece_end
no_limit a n k = piece_eq a _ 0 _ (omega arith) (omega arith)
