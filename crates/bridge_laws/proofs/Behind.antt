-- A burst behind its window: its bytes, and the requests of its pieces.
use mathlib.Core.Path.{◌≡◌, refl, sym, ap, ◌∙◌}
use mathlib.Core.Bool.{Bool, true}
use mathlib.Core.List.{List, [], ◌∷◌, ◌++◌, map, flat_map}
use Prim.Native.Nat.{ℕ, zero, suc, ◌+◌, ◌-◌, ◌*◌, ◌/◌, ◌%◌, ◌^◌, ◌≤◌, ◌<◌}
use native.Mathlib.Nat.{mod-lt}
use native.Mathlib.Omega.{arith}
use native.Mathlib.Decide.{dec_lt}
use borrow.Author.Tests.{leb-true, lt-ltb, le-leb, eq-eqb, ne_eqb}
use lib.ListN.{get_or}
use lib.Dec.{ltb, leb, eqb}
use Rattle.std.specs.Prelude.{Option, Some, None}
use Rattle.common.proofs.Tests.{and_right, and_left}
use Rattle.common.proofs.Tests as tests
use Rattle.tlp.specs.Request.{valid_enables, valid_target, valid_request}
use Rattle.tlp.specs.Laws.{ValidRequest}
use Rattle.address.specs.declared.Settings.{Settings}
use Rattle.address.specs.declared.Windows.{Windows}
use Rattle.address.specs.Windows.{axi, window_of, found_number, holds, translated, holds_at}
use Rattle.address.specs.Settings.{settings_right, settings_number, windows_right}
use Rattle.address.specs.Laws.{Limit}
use Rattle.address.proofs.Laws as address
use Rattle.burst.specs.declared.Burst.{Burst}
use Rattle.burst.specs.declared.Piece.{Piece}
use Rattle.burst.specs.Bursts.{length_of}
use Rattle.burst.specs.Pieces.{Within, piece_count, piece_at, pieces, addresses, bytes_of}
use Rattle.burst.specs.Words.{word_address, word_count, first_enables, last_enables}
use Rattle.burst.proofs.Pieces.{accepted_covers, burst_in_window}
use Rattle.burst.proofs.Tiling.{pieces_tile, piece_not_empty, piece_within}
use Rattle.burst.proofs.Words.{piece_words, limit_words, enables_right, same_words}
use Rattle.machine.specs.Memory.{window_for, index_of, pcie_of, memory_request, piece_request}
use Rattle.bridge_laws.specs.MemoryLaws.{Routed, Covered, RowBehind, LowBitsBehind, bytes_behind, TilesBehind, PieceRequestValid, PacketWhole}
use Rattle.packets.proofs.Packets.{packet_valid}

map_join : (f : ℕ → ℕ) (x y : List ℕ) → map f (x ++ y) ≡ map f x ++ map f y
map_join f [] y = refl
map_join f (a ∷ x) y = ap (◌∷◌ (f a)) (map_join f x y)

-- ---- numbers of a header

enables : (m l f : ℕ) → 0 < m → (m ≡ 1 → l ≡ 0) → (1 < m → 0 < l) → 0 < f → Dec (1 < m) → valid_enables m l f ≡ true
enables m l f h one more g (yes y) =
    let a : m ≡ 1 → ⊥ = λ e. omega arith in
    let b : l ≡ 0 → ⊥ = λ e. omega (arith, more y) in
    let c : f ≡ 0 → ⊥ = λ e. omega arith in
    rw (ne_eqb m 1 a, lt-ltb 1 m y, ne_eqb l 0 b, ne_eqb f 0 c)
enables m l f h one more g (no y) =
    let a : m ≡ 1 = omega (arith, y) in
    rw (eq-eqb m 1 a, eq-eqb l 0 (one a))

words_some : (a n : ℕ) → 0 < n → 0 < word_count a n
unfolding word_count
words_some a n h = omega arith

fours : (a : ℕ) → eqb (a / 4 * 4 % 4) 0 ≡ true
fours a = let e : a / 4 * 4 % 4 ≡ 0 = omega arith in eq-eqb _ _ e

words_below : (a : ℕ) → a < 2 ^ 64 → a / 4 * 4 < 2 ^ 64
words_below a h = omega arith

requester_right : (s : Settings) → settings_number s ≡ 0 → ltb s.requester (2 ^ 16) ≡ true
unfolding settings_right
requester_right s e = let f = address.accepted s e in search (and_left, and_right)

-- ---- the window

pub is_at : (f : Option ℕ) → found_number f ≡ 0 → f ≡ Some (index_of f)
is_at (Some i) e = refl
is_at None e = let z : ⊥ = omega arith in absurd z

module _ (s : Settings) (q : Burst) (r : Routed s q) where
  abbrev w : Windows
  w = s.windows

  abbrev i : ℕ
  i = index_of (window_for w q)

  right : windows_right w ≡ true
  right = address.accepted_windows s r.settings

  pub inside : (x : ℕ) → Covered q x → (i < w.count) × (holds_at w i (axi x) ≡ true)
  inside x c =
      let e : window_of w.count w.base w.size (axi x) ≡ Some i = burst_in_window q r.burst w right x c.0 c.1 ∙ is_at (window_for w q) r.window in
      address.found_holds w (axi x) i e

  first_covered : Covered q q.start.0
  first_covered = let v = accepted_covers q r.burst in (omega arith, omega (arith, v.some))

  offset : (x : ℕ) → Covered q x → pcie_of w q x ≡ get_or w.target i 0 + (x - get_or w.base i 0)
  unfolding pcie_of
  offset x c = let h = inside x c in address.keeps_offset w right (axi x) i h.0 h.1

  low_bits : (x : ℕ) → Covered q x → pcie_of w q x % 4096 ≡ x % 4096
  unfolding pcie_of
  low_bits x c = let h = inside x c in address.keeps_low_bits w right (axi x) i h.0 h.1

  below : (x : ℕ) → pcie_of w q x < 2 ^ 64
  unfolding pcie_of translated
  below x = mod-lt _ (omega arith)

  base_below : (x : ℕ) → Covered q x → get_or w.base i 0 ≤ x
  unfolding holds
  base_below x c = leb-true _ _ (and_left _ _ (inside x c).1)

  row : (x : ℕ) → Covered q x → pcie_of w q x ≡ pcie_of w q q.start.0 + (x - q.start.0)
  row x c = omega (arith, offset x c, offset q.start.0 first_covered, base_below q.start.0 first_covered, c.0)

  -- ---- the pieces

  module _ (l : ℕ) (limit : Limit l) where
    abbrev a : ℕ
    a = q.start.0

    abbrev n : ℕ
    n = length_of q

    abbrev at : ℕ → Piece
    at k = piece_at l a n k

    pub piece_inside : (k : ℕ) → k < piece_count l a n → Within a n (at k)
    piece_inside k h = piece_within l a n k (limit_words l limit).0 h

    pub piece_some : (k : ℕ) → k < piece_count l a n → 0 < (at k).length
    piece_some k h = piece_not_empty l a n k (limit_words l limit).0 (accepted_covers q r.burst).some h

    -- its bytes are the burst's, the first one too
    pub byte_covered : (k : ℕ) → k < piece_count l a n → (x : ℕ) → (at k).first ≤ x → x < (at k).first + (at k).length → Covered q x
    byte_covered k h x f g = let i = piece_inside k h in (omega arith, omega arith)

    pub piece_covered : (k : ℕ) → k < piece_count l a n → Covered q (at k).first
    piece_covered k h = let o = piece_some k h in byte_covered k h (at k).first (omega arith) (omega arith)

    -- an address of the burst, put behind the window
    abbrev to : ℕ → ℕ
    to x = pcie_of w q a + (x - a)

    moved : (m x : ℕ) → a ≤ x → addresses (to x) m ≡ map to (addresses x m)
    unfolding addresses
    moved zero x h = refl
    moved (suc m) x h =
        let e : suc (to x) ≡ to (suc x) = omega arith in
        ap (◌∷◌ (to x)) (ap (λ (y : ℕ). addresses y m) e ∙ moved m (suc x) (omega arith))

    joins : (m k : ℕ) → k + m ≡ piece_count l a n → flat_map (bytes_behind s q) (map at (addresses k m)) ≡ map to (flat_map bytes_of (map at (addresses k m)))
    unfolding flat_map addresses
    joins zero k e = refl
    joins (suc m) k e =
        let c = piece_covered k (omega arith) in
        let f : bytes_behind s q (at k) ≡ map to (bytes_of (at k)) = ap (λ (y : ℕ). addresses y (at k).length) (row (at k).first c) ∙ moved (at k).length (at k).first c.0 in
        ap (λ (x : List ℕ). x ++ flat_map (bytes_behind s q) (map at (addresses (suc k) m))) f
        ∙ ap (λ (x : List ℕ). map to (bytes_of (at k)) ++ x) (joins m (suc k) (omega arith))
        ∙ sym (map_join to (bytes_of (at k)) (flat_map bytes_of (map at (addresses (suc k) m))))

    tiles : flat_map (bytes_behind s q) (pieces l a n) ≡ addresses (pcie_of w q a) n
    unfolding pieces
    tiles =
        let c = limit_words l limit in
        let z : to a ≡ pcie_of w q a = omega arith in
        joins (piece_count l a n) 0 (omega arith)
        ∙ ap (map to) (pieces_tile l a n c.0)
        ∙ sym (moved n a (omega arith))
        ∙ ap (λ (x : ℕ). addresses x n) z

    -- ---- their requests

    valid : (k : ℕ) → k < piece_count l a n → (write : Bool) (tag : ℕ) → tag < 256 → ValidRequest (piece_request write s q tag (at k))
    unfolding valid_request valid_target memory_request word_address
    valid k h write tag t =
        let c = limit_words l limit in
        let x = (at k).first in
        let m = (at k).length in
        let y = pcie_of w q x in
        let o = piece_some k h in
        let d = same_words y x m (low_bits x (piece_covered k h)) in
        let p = piece_words l a n k c.0 c.1 in
        let e = enables_right y m o in
        let u : 0 < word_count y m = words_some y m o in
        let g : word_count y m ≤ 1024 = omega (arith, d.0, p, c.2) in (
          tests.holds (leb 1 (word_count y m)) (leb (word_count y m) 1024 ∷ ltb s.requester (2 ^ 16) ∷ ltb tag 256 ∷ ltb (last_enables y m) 16 ∷ ltb (first_enables y m) 16 ∷ valid_enables (word_count y m) (last_enables y m) (first_enables y m) ∷ eqb (y / 4 * 4 % 4) 0 ∷ [])
              (le-leb _ _ u, (le-leb _ _ g, (requester_right s r.settings, (lt-ltb _ _ t, (lt-ltb _ _ e.last, (lt-ltb _ _ e.first, (enables (word_count y m) (last_enables y m) (first_enables y m) u e.one e.more e.some (dec_lt 1 (word_count y m)), (fours y, tt)))))))),
          words_below y (below x),
        )

pub row_behind : RowBehind
row_behind s q r x c = row s q r x c

pub low_bits_behind : LowBitsBehind
low_bits_behind s q r x c = low_bits s q r x c

pub tiles_behind : TilesBehind
tiles_behind s q r l limit = tiles s q r l limit

pub piece_request_valid : PieceRequestValid
piece_request_valid s q r l limit k h write tag t = valid s q r l limit k h write tag t

pub packet_whole : PacketWhole
packet_whole r payload v = packet_valid r payload v.0
