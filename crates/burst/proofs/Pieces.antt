-- The laws on accepted bursts, and on where pieces lie and how many there are.
use mathlib.Core.Path.{◌≡◌, refl, sym, ap, ◌∙◌}
use mathlib.Core.Bool.{Bool, true, false, cond}
use Prim.Native.Nat.{ℕ, zero, suc, ◌+◌, ◌-◌, ◌*◌, ◌/◌, ◌%◌, ◌^◌, ◌≤◌, ◌<◌, min}
use native.Mathlib.Omega.{arith}
use native.Mathlib.Nat.{div-eq_of_lt-le, mul-div_cancel, div-lt_iff_lt-mul, le-div_iff_mul-le}
use lib.Pow.{pow-add, pow_mono, pow_pos, mod-mod-pow}
use Rattle.address.specs.Windows.{axi, translated_at}
use Rattle.address.specs.Laws.{Limit}
use Rattle.address.proofs.Laws.{page_in_one_window, keeps_low_bits}
use Rattle.burst.specs.declared.Burst.{Burst}
use Rattle.burst.specs.Bursts.{end_of, page_end, burst_right, burst_number, length_of}
use Rattle.burst.specs.Pieces.{piece_count, piece_first, piece_end, piece_at}
use Rattle.burst.specs.Laws.{AcceptedCovers, PastTheTop, BurstInPage, BurstInWindow, PieceInBlock, PieceAtMostLimit, SameCut, SamePlaceBehind, PiecesInPage}
use Rattle.burst.proofs.Covers.{burst_accepted, number_right}
use Rattle.burst.proofs.Cut.{start_of, count_by_place, count_no_bytes}

-- ## Bursts

length_right : (b : Burst) → burst_right b ≡ true → length_of b ≡ end_of b - b.start.0
unfolding length_of
length_right b r = rw r

pub accepted_covers : AcceptedCovers
accepted_covers b e =
    let r = number_right b e in
    let x = burst_accepted b r in
    let l = length_right b r in
    record { some = omega arith; most = omega arith; ends = omega arith; page = omega arith }

past_so : (b : Burst) → b.start.0 < 2 ^ 64 → 2 ^ 64 < end_of b → (t : Bool) → burst_right b ≡ t → ◌≡◌ {A = ℕ} (cond t 0 3) 3
past_so b h g true e = let x = burst_accepted b e in absurd (omega arith)
past_so b h g false e = refl

pub past_the_top : PastTheTop
unfolding burst_number
past_the_top b h g = past_so b h g (burst_right b) refl

pub burst_in_page : BurstInPage
burst_in_page b e x h g = let c = accepted_covers b e in omega arith

pub burst_in_window : BurstInWindow
burst_in_window b e w r x h g = page_in_one_window w r (axi x) b.start (burst_in_page b e x h g)

-- ## Pieces

pub piece_in_block : PieceInBlock
unfolding piece_at piece_first piece_end
piece_in_block l a n k h x f g =
    let b : (a / l + k) * l ≤ x = omega arith in
    let t : x < (a / l + k + 1) * l = omega arith in
    div-eq_of_lt-le {k = a / l + k} l b t

pub piece_at_most_limit : PieceAtMostLimit
unfolding piece_at piece_first piece_end
piece_at_most_limit l a n k = omega arith

-- a piece by the first address's place in its block
first_by_place : (l a k : ℕ) → 0 < l → piece_first l a k ≡ a + (k * l - a % l)
unfolding piece_first
first_by_place l a zero h = let s = start_of l a h in omega arith
first_by_place l a (suc k) h = let s = start_of l a h in omega arith

length_by_place : (l a n k : ℕ) → 0 < l → piece_end l a n k - piece_first l a k ≡ min n ((k + 1) * l - a % l) - (k * l - a % l)
unfolding piece_end
length_by_place l a n k h = let s = start_of l a h in let f = first_by_place l a k h in omega arith

same_count : (l a b n : ℕ) → 0 < l → a % l ≡ b % l → piece_count l a n ≡ piece_count l b n
same_count l a b zero h e = count_no_bytes l a h ∙ sym (count_no_bytes l b h)
same_count l a b (suc n) h e =
    count_by_place l a (suc n) h (omega arith)
    ∙ ap (λ (x : ℕ). (x + (suc n - 1)) / l + 1) e
    ∙ sym (count_by_place l b (suc n) h (omega arith))

pub same_cut : SameCut
unfolding piece_at
same_cut l a b n h e = (
  same_count l a b n h e,
  λ k. (
    length_by_place l a n k h ∙ ap (λ (x : ℕ). min n ((k + 1) * l - x) - (k * l - x)) e ∙ sym (length_by_place l b n k h),
    offset a k ∙ ap (λ (x : ℕ). k * l - x) e ∙ sym (offset b k),
  ),
)
  where
    offset : (x k : ℕ) → piece_first l x k - x ≡ k * l - x % l
    offset x k = let f = first_by_place l x k h in omega arith

-- ## The limits of the settings

-- the page is some blocks, 32 at most
pub record Blocks (l : ℕ) : Type 0 where
  pub blocks : ℕ
  pub one : 0 < blocks
  pub few : blocks ≤ 32
  pub fill : blocks * l ≡ 4096
  pub some : 0 < l
  pub least : 128 ≤ l
  pub most : l ≤ 4096

pub blocks_of : (l : ℕ) → Limit l → Blocks l
blocks_of l c =
    let e : 12 - c.exponent + c.exponent ≡ 12 = omega arith in
    let g : 128 ≤ l = rw c.power (pow_mono {i = 7} {j = c.exponent} c.least) in
    record {
      blocks = 2 ^ (12 - c.exponent);
      one = pow_pos (12 - c.exponent);
      few = pow_mono {i = 12 - c.exponent} {j = 5} (omega arith);
      fill = ap (λ (x : ℕ). 2 ^ (12 - c.exponent) * x) c.power ∙ sym (pow-add 2 (12 - c.exponent) c.exponent) ∙ ap (◌^◌ 2) e;
      some = omega arith;
      least = g;
      most = rw c.power (pow_mono {i = c.exponent} {j = 12} c.most);
    }

in_page : (l a n : ℕ) → Blocks l → 0 < n → a + n ≤ page_end a → (piece_count l a n ≤ 4096 / l) × (4096 / l ≤ 32)
unfolding piece_count
in_page l a n b h g =
    let m = b.blocks in
    let p = a / 4096 in
    let f : p * (m * l) ≡ p * 4096 = ap (λ (x : ℕ). p * x) b.fill in
    let d : 4096 / l ≡ m = ap (λ (x : ℕ). x / l) (sym b.fill) ∙ mul-div_cancel m b.some in
    let u = (le-div_iff_mul-le {k = l} {x = p * m} {y = a} b.some).1 (omega (arith, b.fill)) in
    let v = (div-lt_iff_lt-mul {k = l} {x = a + n - 1} {y = p * m + m} b.some).1 (omega (arith, b.fill)) in
    (omega (arith, b.one), omega (arith, b.few))

pub pieces_in_page : PiecesInPage
pieces_in_page l a n c h g = in_page l a n (blocks_of l c) h g

-- a number's place in a block is that of its place in the page
place_in_page : (l x : ℕ) → Limit l → x % 4096 % l ≡ x % l
place_in_page l x c =
    let e : 12 - c.exponent + c.exponent ≡ 12 = omega arith in
    ap (λ (y : ℕ). x % 4096 % y) c.power
    ∙ ap (λ (y : ℕ). x % 2 ^ y % 2 ^ c.exponent) (sym e)
    ∙ mod-mod-pow x (12 - c.exponent) c.exponent
    ∙ ap (λ (y : ℕ). x % y) (sym c.power)

pub same_place_behind : SamePlaceBehind
same_place_behind l c w r a i h g =
    sym (place_in_page l (translated_at w i a).0 c)
    ∙ ap (λ (y : ℕ). y % l) (keeps_low_bits w r a i h g)
    ∙ place_in_page l a.0 c
