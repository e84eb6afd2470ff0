-- The laws on words and byte enables.
use mathlib.Core.Path.{◌≡◌, refl, sym, ap, ◌∙◌}
use mathlib.Core.List.{List, ◌++◌}
use mathlib.Core.Bool.{Bool, true, false, cond, ◌&&◌}
use Prim.Native.Nat.{ℕ, zero, suc, ◌+◌, ◌-◌, ◌*◌, ◌/◌, ◌%◌, ◌^◌, ◌≤◌, ◌<◌, min}
use native.Mathlib.Omega.{arith}
use native.Mathlib.Decide.{dec_lt}
use native.Mathlib.Nat.{mul-mod_left}
use lib.ListN.{length, get_or, replicate, length-append, length-replicate, get_or-append}
use lib.Seq.{get_or-append-add}
use lib.Pow.{pow-add, pow_pos, pow_mono, pow-lt, mod-mod-pow}
use lib.Dec.{leb, ltb, eqb}
use borrow.Author.Tests.{leb-true, ltb-true, eqb-true, le-leb, lt-leb, lt-ltb, le-ltb}
use Rattle.address.specs.Settings.{each, each_from}
use Rattle.address.specs.Laws.{Limit}
use Rattle.address.proofs.Steps.{same_test, and_left, and_right, each_at}
use Rattle.burst.specs.Bursts.{page_end, length_of}
use Rattle.burst.specs.Pieces.{piece_count, piece_first, piece_end, piece_at}
use Rattle.burst.specs.Words.{word_address, word_count, enables, first_enables, last_enables, wanted, words_of, words_before}
use Rattle.burst.specs.Laws.{PieceWords, LimitWords, WordsMeet, WordsEnd, WordsBefore, WordsAddUp, RoomForAll, WordsInPage, WordsHold, FirstEnablesMark, LastEnablesMark, BetweenWanted, EnablesRight, SameWords, WordsLength, WordsBytes}
use Rattle.burst.proofs.Cut.{start_of, passed, reached, later, head_first}
use Rattle.burst.proofs.Pieces.{blocks_of, accepted_covers, pieces_in_page}
use Rattle.burst.proofs.Tiling.{piece_within}

-- ## Words of pieces

-- the words of the bytes from f up to e end at the next multiple of 4
words_end : (f e : ℕ) → f ≤ e → word_address f + 4 * word_count f (e - f) ≡ (e + 3) / 4 * 4
unfolding word_address word_count
words_end f e h = omega arith

-- a multiple of l is one of 4, where l is
fours : (l x : ℕ) → l % 4 ≡ 0 → x * l ≡ 4 * (x * (l / 4))
fours l x h =
    let e : l ≡ 4 * (l / 4) = omega arith in
    ap (λ (y : ℕ). x * y) e ∙ omega arith

pub piece_words : PieceWords
unfolding piece_at piece_first piece_end word_count
piece_words l a n k h g =
    let p = fours l (a / l + k) g in
    let q = fours l (a / l + k + 1) g in
    omega arith

limit_fours : (l : ℕ) → Limit l → l % 4 ≡ 0
limit_fours l c =
    let e : c.exponent ≡ c.exponent - 2 + 2 = omega (arith, c.least) in
    ap (λ (x : ℕ). x % 4) (c.power ∙ ap (◌^◌ 2) e ∙ pow-add 2 (c.exponent - 2) 2) ∙ mul-mod_left (2 ^ (c.exponent - 2)) 4

pub limit_words : LimitWords
limit_words l c = let b = blocks_of l c in (b.some, limit_fours l c, omega (arith, b.most))

-- where two neighbours meet
meet_first : (l a n k : ℕ) → 0 < l → k + 1 < piece_count l a n → piece_first l a (k + 1) ≡ (a / l + (k + 1)) * l
unfolding piece_first
meet_first l a n k h c = let x = later l a n (k + 1) h (omega arith) c in omega arith

meet_end : (l a n k : ℕ) → 0 < l → k + 1 < piece_count l a n → piece_end l a n k ≡ (a / l + (k + 1)) * l
unfolding piece_end
meet_end l a n k h c = let x = later l a n (k + 1) h (omega arith) c in omega arith

meet_below : (l a n k : ℕ) → 0 < l → piece_first l a k ≤ (a / l + (k + 1)) * l
unfolding piece_first
meet_below l a n k h = let s = start_of l a h in omega arith

-- a multiple of 4 is its own word's address, and no word goes beyond it
round_four : (x y : ℕ) → x ≡ 4 * y → (x + 3) / 4 * 4 ≡ word_address x
unfolding word_address
round_four x y e = omega arith

pub words_meet : WordsMeet
unfolding piece_at
words_meet l a n k h g c =
    let f = piece_first l a k in
    let e = (a / l + (k + 1)) * l in
    ap (λ (x : ℕ). word_address f + 4 * word_count f (x - f)) (meet_end l a n k h c)
    ∙ words_end f e (meet_below l a n k h)
    ∙ round_four e ((a / l + (k + 1)) * (l / 4)) (fours l (a / l + (k + 1)) g)
    ∙ ap word_address (sym (meet_first l a n k h c))

pub words_end_all : WordsEnd
unfolding piece_at word_address word_count piece_first piece_end
words_end_all l a n k h g e =
    let s = start_of l a h in
    let p = passed l a n h in
    let f : (a / l + piece_count l a n) * l ≡ (a / l + k + 1) * l = ap (λ (x : ℕ). (a / l + x) * l) (sym e) ∙ omega arith in
    let r = reached l a n k h g (omega arith) in
    omega arith

pub words_in_page : WordsInPage
unfolding word_address word_count
words_in_page a n h = omega arith

pub words_before_lem : WordsBefore
unfolding words_before piece_at
words_before_lem l a n zero h g c = omega (arith, ap word_address (head_first l a h))
words_before_lem l a n (suc k) h g c =
    let e : suc k ≡ k + 1 = omega arith in
    let b = words_before_lem l a n k h g (omega arith) in
    let m = words_meet l a n k h g (omega arith) in
    omega (arith, ap (λ (x : ℕ). word_address (piece_first l a x)) e)

-- there is a last piece
last_piece : (l a n : ℕ) → piece_count l a n ≡ suc (piece_count l a n - 1)
unfolding piece_count
last_piece l a n = omega arith

words_up_to : (l a n k : ℕ) → 0 < l → l % 4 ≡ 0 → 0 < n → piece_count l a n ≡ suc k → words_before l a n (suc k) ≡ word_count a n
unfolding words_before
words_up_to l a n k h g f e =
    let b = words_before_lem l a n k h g (omega arith) in
    let m = words_end_all l a n k h f (omega arith) in
    omega arith

pub words_add_up : WordsAddUp
words_add_up l a n h g f =
    ap (words_before l a n) (last_piece l a n) ∙ words_up_to l a n (piece_count l a n - 1) h g f (last_piece l a n)

-- the words before a piece are in the page
words_room : (l a n : ℕ) → 0 < l → l % 4 ≡ 0 → 0 < n → a + n ≤ page_end a → (k : ℕ) → k ≤ piece_count l a n → Dec (k < piece_count l a n) → 4 * words_before l a n k ≤ 4096
unfolding word_address
words_room l a n h g f p k c (yes m) =
    let b = words_before_lem l a n k h g m in
    let w = piece_within l a n k h m in
    omega arith
words_room l a n h g f p k c (no m) =
    let e : k ≡ piece_count l a n = omega (arith, m) in
    let b : words_before l a n k ≡ word_count a n = ap (words_before l a n) e ∙ words_add_up l a n h g f in
    omega (arith, words_in_page a n p)

pub room_for_all : RoomForAll
room_for_all b e l c k h =
    let x = accepted_covers b e in
    let r = blocks_of l c in
    let p = pieces_in_page l b.start.0 (length_of b) c x.some x.page in
    let w = words_room l b.start.0 (length_of b) r.some (limit_fours l c) x.some x.page k h (dec_lt k (piece_count l b.start.0 (length_of b))) in
    omega arith

-- the two sides of a test of the bytes wanted
wanted_so : (a n x : ℕ) → wanted a n x ≡ true → (a ≤ x) × (x < a + n)
wanted_so a n x e = (leb-true a x (and_left (leb a x) _ e), ltb-true x (a + n) (and_right (leb a x) _ e))

so_wanted : (a n x : ℕ) → a ≤ x → x < a + n → wanted a n x ≡ true
so_wanted a n x h g = rw (le-leb a x h) (lt-ltb x (a + n) g)

pub words_hold : WordsHold
unfolding word_address word_count
words_hold a n x e = let h = wanted_so a n x e in (omega arith, omega arith)

pub between_wanted : BetweenWanted
unfolding word_address word_count
between_wanted a n j i h g k = so_wanted a n (a / 4 * 4 + 4 * j + i) (omega arith) (omega arith)

-- ## Enables

-- every mask of a word, by computing
abbrev marks : ℕ → ℕ → ℕ → Bool
marks from to i = eqb (enables from to / 2 ^ i % 2) (cond (leb from i && ltb i to) 1 0)

all_marks : each 5 (λ from. each 5 (λ to. each 4 (marks from to))) ≡ true
unfolding each_from
all_marks = refl

mark : (from to i : ℕ) → from ≤ 4 → to ≤ 4 → i < 4 → enables from to / 2 ^ i % 2 ≡ cond (leb from i && ltb i to) 1 0
mark from to i h g k =
    let r = each_at (λ f. each 5 (λ t. each 4 (marks f t))) 0 5 all_marks from (omega arith) (omega arith) in
    let s = each_at (λ t. each 4 (marks from t)) 0 5 r to (omega arith) (omega arith) in
    eqb-true _ _ (each_at (marks from to) 0 4 s i (omega arith) (omega arith))

-- the test of a bit and that of a byte come to the same
pub first_enables_mark : FirstEnablesMark
unfolding first_enables word_address
first_enables_mark a n i k =
    let f = a % 4 in
    let t = min 4 (a % 4 + n) in
    let x = a / 4 * 4 + i in
    mark f t i (omega arith) (omega arith) k
    ∙ ap (λ (b : Bool). cond b 1 0)
    (same_test (leb f i && ltb i t) (wanted a n x)
    (λ e. so_wanted a n x (omega (arith, leb-true f i (and_left (leb f i) _ e))) (omega (arith, ltb-true i t (and_right (leb f i) _ e))))
    (λ e. let w = wanted_so a n x e in rw (le-leb f i (omega arith)) (lt-ltb i t (omega arith))))

last_so : (a n : ℕ) → 1 < word_count a n → last_enables a n ≡ enables 0 ((a % 4 + n + 3) % 4 + 1)
unfolding last_enables
last_so a n h = rw (lt-leb (word_count a n) 1 h)

pub last_enables_mark : LastEnablesMark
unfolding word_address word_count
last_enables_mark a n i k h =
    let t = (a % 4 + n + 3) % 4 + 1 in
    let x = a / 4 * 4 + 4 * ((a % 4 + n + 3) / 4 - 1) + i in
    ap (λ (y : ℕ). y / 2 ^ i % 2) (last_so a n h)
    ∙ mark 0 t i (omega arith) (omega arith) k
    ∙ ap (λ (b : Bool). cond b 1 0)
    (same_test (leb 0 i && ltb i t) (wanted a n x)
    (λ e. so_wanted a n x (omega arith) (omega (arith, ltb-true i t (and_right (leb 0 i) _ e))))
    (λ e. let w = wanted_so a n x e in rw (le-leb 0 i (omega arith)) (lt-ltb i t (omega arith))))

below_16 : (from to : ℕ) → to ≤ 4 → enables from to < 16
below_16 from to h = omega (arith, pow_mono {i = to} {j = 4} h, pow_pos from)

last_below : (a n : ℕ) (t : Bool) → cond t 0 (enables 0 ((a % 4 + n + 3) % 4 + 1)) < 16
last_below a n true = omega arith
last_below a n false = below_16 0 ((a % 4 + n + 3) % 4 + 1) (omega arith)

pub enables_right : EnablesRight
unfolding first_enables last_enables
enables_right a n h = record {
  first = below_16 (a % 4) (min 4 (a % 4 + n)) (omega arith);
  last = last_below a n (leb (word_count a n) 1);
  some = omega (arith, pow-lt {i = a % 4} {j = min 4 (a % 4 + n)} (omega arith));
  one = λ e. rw (le-leb (word_count a n) 1 (omega arith));
  more = λ g. rw (lt-leb (word_count a n) 1 g) (omega (arith, pow-lt {i = 0} {j = (a % 4 + n + 3) % 4 + 1} (omega arith)));
}

-- what the low 12 bits say
low_two : (a b : ℕ) → a % 4096 ≡ b % 4096 → a % 4 ≡ b % 4
low_two a b e = sym (mod-mod-pow a 10 2) ∙ ap (λ (x : ℕ). x % 4) e ∙ mod-mod-pow b 10 2

low_seven : (a b : ℕ) → a % 4096 ≡ b % 4096 → a % 128 ≡ b % 128
low_seven a b e = sym (mod-mod-pow a 5 7) ∙ ap (λ (x : ℕ). x % 128) e ∙ mod-mod-pow b 5 7

pub same_words : SameWords
unfolding first_enables last_enables word_count
same_words a b n e =
    let f = low_two a b e in (
      ap (λ (x : ℕ). (x + n + 3) / 4) f,
      ap (λ (x : ℕ). enables x (min 4 (x + n))) f,
      ap (λ (x : ℕ). cond (leb ((x + n + 3) / 4) 1) 0 (enables 0 ((x + n + 3) % 4 + 1))) f,
      low_seven a b e,
    )

-- ## The words' bytes

zeros_at : (n i : ℕ) → ◌≡◌ {A = ℕ} (get_or (replicate n 0) i 0) 0
zeros_at zero i = refl
zeros_at (suc n) zero = refl
zeros_at (suc n) (suc i) = zeros_at n i

pub words_length : WordsLength
unfolding words_of word_count
words_length a bytes =
    let p = 4 * ((a % 4 + length bytes + 3) / 4) - (a % 4 + length bytes) in
    length-append (replicate (a % 4) 0 ++ bytes) (replicate p 0)
    ∙ omega (arith, length-append (replicate (a % 4) 0) bytes, length-replicate {A = ℕ} (a % 4) 0, length-replicate {A = ℕ} p 0)

-- the words in three parts: zeros, the bytes, zeros
module _ (f p : ℕ) (s : List ℕ) where
  parts : List ℕ
  parts = replicate f 0 ++ s ++ replicate p 0

  front : length (replicate f 0 ++ s) ≡ f + length s
  front = length-append (replicate f 0) s ∙ ap (λ (k : ℕ). k + length s) (length-replicate {A = ℕ} f 0)

  part_before : (i : ℕ) → i < f → get_or parts i 0 ≡ 0
  unfolding parts
  part_before i h =
      get_or-append (replicate f 0 ++ s) (replicate p 0) 0 i (omega (arith, front))
      ∙ get_or-append (replicate f 0) s 0 i (omega (arith, length-replicate {A = ℕ} f 0))
      ∙ zeros_at f i

  part_in : (i : ℕ) → i < length s → get_or parts (f + i) 0 ≡ get_or s i 0
  unfolding parts
  part_in i h =
      get_or-append (replicate f 0 ++ s) (replicate p 0) 0 (f + i) (omega (arith, front))
      ∙ ap (λ (k : ℕ). get_or (replicate f 0 ++ s) (k + i) 0) (sym (length-replicate {A = ℕ} f 0))
      ∙ get_or-append-add (replicate f 0) s i 0

  part_behind : (i : ℕ) → get_or parts (f + length s + i) 0 ≡ 0
  unfolding parts
  part_behind i =
      ap (λ (k : ℕ). get_or (replicate f 0 ++ s ++ replicate p 0) (k + i) 0) (sym front)
      ∙ get_or-append-add (replicate f 0 ++ s) (replicate p 0) i 0
      ∙ zeros_at p i

pub words_bytes : WordsBytes
unfolding words_of word_address parts
words_bytes a s x h = by (dec_lt x a) (dec_lt x (a + length s))
  where
    by : Dec (x < a) → Dec (x < a + length s) → get_or (words_of a s) (x - a / 4 * 4) 0 ≡ cond (wanted a (length s) x) (get_or s (x - a) 0) 0
    by (yes l) d =
        rw (lt-leb a x l) (part_before (a % 4) (4 * word_count a (length s) - (a % 4 + length s)) s (x - a / 4 * 4) (omega arith))
    by (no l) (yes m) =
        let e : x - a / 4 * 4 ≡ a % 4 + (x - a) = omega (arith, l) in
        rw (le-leb a x (omega (arith, l)), lt-ltb x (a + length s) m, e) (part_in (a % 4) (4 * word_count a (length s) - (a % 4 + length s)) s (x - a) (omega (arith, l)))
    by (no l) (no m) =
        let e : x - a / 4 * 4 ≡ a % 4 + length s + (x - (a + length s)) = omega (arith, l, m) in
        rw (le-leb a x (omega (arith, l)), le-ltb x (a + length s) (omega (arith, m)), e) (part_behind (a % 4) (4 * word_count a (length s) - (a % 4 + length s)) s (x - (a + length s)))
