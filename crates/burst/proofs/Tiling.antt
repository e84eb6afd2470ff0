-- The tiling law. The places of the cut are a, the multiples of l behind it, and a + n; the k-th piece lies between the
-- k-th and the next.
use mathlib.Core.Path.{◌≡◌, sym, ap, ◌∙◌}
use mathlib.Core.List.{List, ◌∷◌, ◌++◌, map, flat_map}
use Prim.Native.Nat.{ℕ, zero, suc, ◌+◌, ◌-◌, ◌*◌, ◌/◌, ◌≤◌, ◌<◌, min, max}
use native.Mathlib.Omega.{arith}
use Rattle.burst.specs.Pieces.{piece_count, piece_first, piece_end, piece_at, addresses, pieces, bytes_of}
use Rattle.burst.specs.Laws.{PiecesTile, PieceNotEmpty, PieceWithin}
use Rattle.burst.proofs.Cut.{start_of, passed, reached, later}

addresses_append : (m a n : ℕ) → addresses a (m + n) ≡ addresses a m ++ addresses (a + m) n
unfolding addresses
addresses_append zero a n =
    let e : 0 + n ≡ n = omega arith in
    let f : a ≡ a + 0 = omega arith in
    ap (addresses a) e ∙ ap (λ (x : ℕ). addresses x n) f
addresses_append (suc m) a n =
    let e : suc m + n ≡ suc (m + n) = omega arith in
    let f : suc a + m ≡ a + suc m = omega arith in
    ap (addresses a) e
    ∙ ap (◌∷◌ a) (addresses_append m (suc a) n)
    ∙ ap (λ (x : ℕ). a ∷ (addresses (suc a) m ++ addresses x n)) f

-- a piece starts before the end
first_within : (l a n k : ℕ) → 0 < l → k < piece_count l a n → piece_first l a k ≤ a + n
unfolding piece_first
first_within l a n zero h c = let s = start_of l a h in omega arith
first_within l a n (suc k) h c = let x = later l a n (suc k) h (omega arith) c in omega arith

-- the k-th place of the cut
place : ℕ → ℕ → ℕ → ℕ → ℕ
place l a n k = min (a + n) (max a ((a / l + k) * l))

first_place : (l a n k : ℕ) → 0 < l → k < piece_count l a n → piece_first l a k ≡ place l a n k
unfolding place piece_first
first_place l a n k h c = let f = first_within l a n k h c in omega arith

end_place : (l a n k : ℕ) → 0 < l → piece_end l a n k ≡ place l a n (suc k)
unfolding place piece_end
end_place l a n k h = let s = start_of l a h in omega arith

places_grow : (l a n k : ℕ) → place l a n k ≤ place l a n (suc k)
unfolding place
places_grow l a n k = omega arith

last_place : (l a n : ℕ) → 0 < l → place l a n (piece_count l a n) ≡ a + n
unfolding place
last_place l a n h = omega (arith, passed l a n h)

head_place : (l a n : ℕ) → 0 < l → place l a n 0 ≡ a
unfolding place
head_place l a n h = let s = start_of l a h in omega arith

place_within : (l a n k : ℕ) → place l a n k ≤ a + n
unfolding place
place_within l a n k = omega arith

-- the bytes of a piece are those from its place of the cut to the next
piece_bytes : (l a n k : ℕ) → 0 < l → k < piece_count l a n → bytes_of (piece_at l a n k) ≡ addresses (place l a n k) (place l a n (suc k) - place l a n k)
unfolding piece_at
piece_bytes l a n k h c = rw (first_place l a n k h c, end_place l a n k h)

-- the m pieces from the k-th on are the rest
tiles : (l a n : ℕ) → 0 < l → (m k : ℕ) → k + m ≡ piece_count l a n → flat_map bytes_of (map (piece_at l a n) (addresses k m)) ≡ addresses (place l a n k) (a + n - place l a n k)
unfolding flat_map addresses
tiles l a n h zero k e =
    let f : k ≡ piece_count l a n = omega arith in
    let g : a + n - place l a n k ≡ 0 = omega (arith, ap (place l a n) f, last_place l a n h) in
    sym (ap (addresses (place l a n k)) g)
tiles l a n h (suc m) k e =
    let p = place l a n k in
    let q = place l a n (suc k) in
    let r = piece_bytes l a n k h (omega arith) in
    let t = tiles l a n h m (suc k) (omega arith) in
    let d : q - p + (a + n - q) ≡ a + n - p = omega (arith, places_grow l a n k, place_within l a n (suc k)) in
    let j : q ≡ p + (q - p) = omega (arith, places_grow l a n k) in
    ap (λ (x : List ℕ). x ++ flat_map bytes_of (map (piece_at l a n) (addresses (suc k) m))) r
    ∙ ap (λ (x : List ℕ). addresses p (q - p) ++ x) t
    ∙ ap (λ (x : ℕ). addresses p (q - p) ++ addresses x (a + n - q)) j
    ∙ sym (addresses_append (q - p) p (a + n - q))
    ∙ ap (addresses p) d

pub pieces_tile : PiecesTile
unfolding pieces
pieces_tile l a n h =
    let e : a + n - place l a n 0 ≡ n = omega (arith, head_place l a n h) in
    tiles l a n h (piece_count l a n) 0 (omega arith)
    ∙ ap (addresses (place l a n 0)) e
    ∙ ap (λ (x : ℕ). addresses x n) (head_place l a n h)

pub piece_not_empty : PieceNotEmpty
unfolding piece_at piece_first piece_end
piece_not_empty l a n k h g c =
    let s = start_of l a h in
    omega (arith, reached l a n k h g c)

first_from_lem : (l a k : ℕ) → a ≤ piece_first l a k
unfolding piece_first
first_from_lem l a k = omega arith

pub piece_within : PieceWithin
unfolding piece_at piece_end
piece_within l a n k h c =
    let f = first_within l a n k h c in
    record { starts = first_from_lem l a k; ends = omega arith }
