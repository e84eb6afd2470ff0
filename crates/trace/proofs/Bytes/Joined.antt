-- The pieces of a burst: no byte lies in two of them, and their bytes, joined, are the burst's.
use Prim.Native.Nat.{ℕ, zero, suc, ◌+◌, ◌-◌, ◌/◌, ◌<◌}
use mathlib.Core.Path.{◌≡◌, refl, sym, ap, ◌∙◌}
use mathlib.Core.List.{List, [], ◌∷◌, ◌++◌, map, map-append, flat_map}
use native.Mathlib.Omega.{arith}
use native.Mathlib.Nat.{add-zero}
use lib.ListN.{length, get_or}
use Rattle.burst.specs.declared.Piece.{Piece}
use Rattle.burst.specs.Pieces.{piece_count, piece_at, addresses, pieces, bytes_of}
use Rattle.burst.proofs.Pieces.{piece_in_block}
use Rattle.burst.proofs.Tiling.{pieces_tile, piece_within}

-- a list that has at each place what f gives for its address
listed : (f : ℕ → ℕ) (a n : ℕ) (s : List ℕ) → length s ≡ n → ((y : ℕ) → y < n → get_or s y 0 ≡ f (a + y)) → s ≡ map f (addresses a n)
unfolding addresses
listed f a zero [] e g = refl
listed f a zero (x ∷ s) e g = absurd (omega arith)
listed f a (suc n) [] e g = absurd (omega arith)
listed f a (suc n) (x ∷ s) e g =
    let z : x ≡ f a = g 0 (omega arith) ∙ ap f (add-zero a) in
    let r = listed f (suc a) n s (omega arith) (λ y h. let q : a + suc y ≡ suc a + y = omega arith in g (suc y) (omega arith) ∙ ap f q) in
    ap (λ (v : ℕ). v ∷ s) z ∙ ap (λ (v : List ℕ). f a ∷ v) r

-- what f gives for the bytes of pieces in turn
map_pieces : (f : ℕ → ℕ) (p : ℕ → Piece) (part : ℕ → List ℕ) (s n : ℕ) → ((j : ℕ) → j < s + n → map f (bytes_of (p j)) ≡ part j)
    → map f (flat_map bytes_of (map p (addresses s n))) ≡ flat_map part (addresses s n)
unfolding flat_map addresses
map_pieces f p part s zero h = refl
map_pieces f p part s (suc n) h =
    let rest = flat_map bytes_of (map p (addresses (suc s) n)) in
    map-append f (bytes_of (p s)) rest
    ∙ (ap (λ (v : List ℕ). v ++ map f rest) (h s (omega arith))
    ∙ ap (λ (v : List ℕ). part s ++ v) (map_pieces f p part (suc s) n (λ j l. h j (omega arith))))

-- n bytes from a on, cut at multiples of l
module _ (l a n : ℕ) (pos : 0 < l) where
  pub one_piece : (i j x y : ℕ) → x < (piece_at l a n i).length → y < (piece_at l a n j).length → (piece_at l a n i).first + x ≡ (piece_at l a n j).first + y → i ≡ j
  one_piece i j x y f g e =
      let p = piece_in_block l a n i pos ((piece_at l a n i).first + x) (omega arith) (omega arith) in
      let q = piece_in_block l a n j pos ((piece_at l a n j).first + y) (omega arith) (omega arith) in
      let z = ap (λ (v : ℕ). v / l) e in
      omega arith

  -- a list that has the bytes of each part at the part's piece
  pub joined : (part : ℕ → List ℕ) (s : List ℕ) → length s ≡ n → ((j : ℕ) → j < piece_count l a n → length (part j) ≡ (piece_at l a n j).length)
      → ((j x : ℕ) → j < piece_count l a n → x < (piece_at l a n j).length → get_or s ((piece_at l a n j).first - a + x) 0 ≡ get_or (part j) x 0)
      → s ≡ flat_map part (addresses 0 (piece_count l a n))
  unfolding pieces
  joined part s e w g =
      let f : ℕ → ℕ = λ y. get_or s (y - a) 0 in
      let at : (u v : ℕ) → u ≡ v → get_or s u 0 ≡ get_or s v 0 = λ u v z. ap (λ (y : ℕ). get_or s y 0) z in
      listed f a n s e (λ y h. at y (a + y - a) (omega arith))
      ∙ (ap (map f) (sym (pieces_tile l a n pos))
      ∙ map_pieces f (piece_at l a n) part 0 (piece_count l a n) (λ j h.
      let k : j < piece_count l a n = omega arith in
      let i = piece_within l a n j pos k in
      sym (listed f (piece_at l a n j).first (piece_at l a n j).length (part j) (w j k) (λ x m. sym (g j x k m) ∙ at ((piece_at l a n j).first - a + x) ((piece_at l a n j).first + x - a) (omega arith)))))
