-- The laws on settings, windows and translation.
use Rattle.std.proofs.Common.{◌≡◌, ℕ, zero, suc, ◌+◌, ◌-◌, ◌*◌, ◌/◌, ◌%◌, ◌^◌, ◌<◌, ◌≤◌, min, max, Bool, true, false, cond, eqb, ltb, leb, Option, Some, None, List, get_or, sym, refl, ap, ◌∙◌, mul-le-mul_right, mod-eq_of_lt, div-add-mod', arith, pow_mono, pow-add, ltb-true, lt-ltb, eqb-true, le-leb, leb-false, leb-true}
use mathlib.Core.Bool.{false≢true}
use native.Mathlib.Nat.{lt_of_mul-lt-mul_left, mod_self}
use native.Mathlib.Decide.{dec_lt, ℕ_discrete}
use lib.Pow.{mod-mod-pow}
use Rattle.address.specs.declared.AxiAddress.{AxiAddress}
use Rattle.address.specs.declared.Windows.{Windows}
use Rattle.address.specs.declared.Settings.{Settings}
use Rattle.address.specs.Windows.{axi, holds, first_from, window_of, translated, holds_at}
use Rattle.address.specs.Settings.{between, each, power_of_two, each_from, window_right, apart, right_at, apart_at, windows_right, settings_right, settings_number, power_among}
use Rattle.address.specs.Laws.{ExampleAccepted, AcceptedWindows, Limit, AcceptedReads, AcceptedWrites, FoundHolds, NothingHolds, AtMostOneHolds, OverlapShares, HolderFound, PageInOneWindow, WindowEnds, KeepsOffset, KeepsLowBits, KeepsOrder, StaysDistinct}
use Rattle.address.proofs.Steps.{same_test, and_left, and_right, each_at, power_found}

-- ## Settings

pub example_accepted : ExampleAccepted
unfolding settings_number settings_right windows_right each_from window_right apart power_among
example_accepted = refl

accepted_so : (s : Settings) (t : Bool) → settings_right s ≡ t → ◌≡◌ {A = ℕ} (cond t 0 1) 0 → settings_right s ≡ true
accepted_so s true h g = h
accepted_so s false h g = absurd (omega arith)

pub accepted : (s : Settings) → settings_number s ≡ 0 → settings_right s ≡ true
unfolding settings_number
accepted s e = accepted_so s (settings_right s) refl e

pub accepted_windows : AcceptedWindows
unfolding settings_right
accepted_windows s e = and_left (windows_right s.windows) _ (accepted s e)

limit_of : (l n : ℕ) → n ≤ 6 → power_among 7 n l ≡ true → Limit l
limit_of l n h e =
    let p = power_found 7 n l e in
    record { exponent = p.exponent; least = p.least; most = omega arith; power = p.is }

accepted_limits : (s : Settings) → settings_number s ≡ 0 → (power_among 7 6 s.reads ≡ true) × (power_among 7 4 s.writes ≡ true)
unfolding settings_right
accepted_limits s e =
    let e₁ = and_right (windows_right s.windows) _ (accepted s e) in
    let e₂ = and_right (between 1 8 s.bits) _ e₁ in
    let e₃ = and_right (power_of_two 7 12 s.reads) _ e₂ in
    (and_left (power_of_two 7 12 s.reads) _ e₂, and_left (power_of_two 7 10 s.writes) _ e₃)

pub accepted_reads : AcceptedReads
accepted_reads s e = limit_of s.reads 6 (omega arith) (accepted_limits s e).0

pub accepted_writes : AcceptedWrites
accepted_writes s e =
    let h = (accepted_limits s e).1 in
    let p = power_found 7 4 s.writes h in (
      limit_of s.writes 4 (omega arith) h,
      rw p.is (pow_mono {i = p.exponent} {j = 10} (omega arith)),
    )

-- ## One window

pub record RightWindow (base size target : ℕ) : Type 0 where
  pub exponent : ℕ
  pub least : 12 ≤ exponent
  pub most : exponent ≤ 40
  pub power : size ≡ 2 ^ exponent
  pub based : base % size ≡ 0
  pub targeted : target % size ≡ 0
  pub base64 : base < 2 ^ 64
  pub target64 : target < 2 ^ 64

pub right_window : (base size target : ℕ) → window_right base size target ≡ true → RightWindow base size target
unfolding window_right
right_window base size target e =
    let p = power_found 12 29 size (and_left _ _ e) in
    let e₂ = and_right (power_of_two 12 40 size) _ e in
    let e₃ = and_right (eqb (base % size) 0) _ e₂ in
    let e₄ = and_right (eqb (target % size) 0) _ e₃ in
    let e₅ = and_right (ltb base (2 ^ 64)) _ e₄ in
    record {
      exponent = p.exponent;
      least = p.least;
      most = omega arith;
      power = p.is;
      based = eqb-true (base % size) 0 (and_left (eqb (base % size) 0) _ e₂);
      targeted = eqb-true (target % size) 0 (and_left (eqb (target % size) 0) _ e₃);
      base64 = ltb-true base (2 ^ 64) (and_left (ltb base (2 ^ 64)) _ e₄);
      target64 = ltb-true target (2 ^ 64) (and_left (ltb target (2 ^ 64)) _ e₅);
    }

-- a multiple of a power from 2^12 on is one of 4,096
paged : (k x : ℕ) → 12 ≤ k → x % 2 ^ k ≡ 0 → x % 4096 ≡ 0
paged k x h e =
    let f : k - 12 + 12 ≡ k = omega arith in
    sym (mod-mod-pow x (k - 12) 12) ∙ ap (λ (n : ℕ). x % 2 ^ n % 4096) f ∙ ap (λ (n : ℕ). n % 4096) e

-- a multiple of p that is below another has room for p more
room : (p m x : ℕ) → x < m * p → x % p ≡ 0 → x + p ≤ m * p
room p m x h e =
    let q : x / p * p ≡ x = omega (arith, div-add-mod' x p) in
    let l : x / p < m = lt_of_mul-lt-mul_left p (omega arith) in
    omega (arith, mul-le-mul_right p l)

below_top : (k x : ℕ) → k ≤ 64 → x < 2 ^ 64 → x % 2 ^ k ≡ 0 → x + 2 ^ k ≤ 2 ^ 64
below_top k x h l e =
    let f : 64 - k + k ≡ 64 = omega arith in
    let g : 2 ^ (64 - k) * 2 ^ k ≡ 2 ^ 64 = sym (pow-add 2 (64 - k) k) ∙ ap (◌^◌ 2) f in
    rw g at (room (2 ^ k) (2 ^ (64 - k)) x (rw g l) e)

held : (base size : ℕ) (a : AxiAddress) → holds base size a ≡ true → (base ≤ a.0) × (a.0 - base < size)
unfolding holds
held base size a e = (leb-true base a.0 (and_left _ _ e), ltb-true (a.0 - base) size (and_right (leb base a.0) _ e))

holding : (base size : ℕ) (a : AxiAddress) → base ≤ a.0 → a.0 - base < size → holds base size a ≡ true
unfolding holds
holding base size a h g = rw (le-leb base a.0 h) (lt-ltb (a.0 - base) size g)

-- ## The table

module _ (w : Windows) (r : windows_right w ≡ true) where
  count_six : w.count ≤ 6
  unfolding windows_right
  count_six = leb-true w.count 6 (and_right (leb 1 w.count) _ (and_left _ _ r))

  rows : (each w.count (right_at w.base w.size w.target) ≡ true) × (each w.count (λ j. each j (apart_at w.base w.size j)) ≡ true)
  unfolding windows_right
  rows =
      let e₁ = and_right (between 1 6 w.count) _ r in
      let e₂ = and_right (each w.count (right_at w.base w.size w.target)) _ e₁ in
      (and_left (each w.count (right_at w.base w.size w.target)) _ e₁, and_left (each w.count (λ j. each j (apart_at w.base w.size j))) _ e₂)

  pub window_at : (i : ℕ) → i < w.count → RightWindow (get_or w.base i 0) (get_or w.size i 0) (get_or w.target i 0)
  window_at i h =
      right_window (get_or w.base i 0) (get_or w.size i 0) (get_or w.target i 0)
      (each_at (right_at w.base w.size w.target) 0 w.count rows.0 i (omega arith) (omega arith))

  apart_at_lem : (i j : ℕ) → i < j → j < w.count → apart_at w.base w.size j i ≡ true
  apart_at_lem i j h g =
      each_at (apart_at w.base w.size j) 0 j
      (each_at (λ k. each k (apart_at w.base w.size k)) 0 w.count rows.1 j (omega arith) (omega arith)) i (omega arith)
      (omega arith)

  pub window_ends_at : (i : ℕ) → i < w.count → (get_or w.base i 0 + get_or w.size i 0 ≤ 2 ^ 64) × (get_or w.target i 0 + get_or w.size i 0 ≤ 2 ^ 64)
  window_ends_at i h =
      let x = window_at i h in
      let k : x.exponent ≤ 64 = omega arith in (
        rw x.power (below_top x.exponent (get_or w.base i 0) k x.base64 (rw x.power at x.based)),
        rw x.power (below_top x.exponent (get_or w.target i 0) k x.target64 (rw x.power at x.targeted)),
      )

  -- base, size and target of a window are multiples of 4,096
  pages : (i : ℕ) → i < w.count → (get_or w.base i 0 % 4096 ≡ 0) × (get_or w.size i 0 % 4096 ≡ 0) × (get_or w.target i 0 % 4096 ≡ 0)
  pages i h =
      let x = window_at i h in
      let s : get_or w.size i 0 % 2 ^ x.exponent ≡ 0 = rw x.power (mod_self (2 ^ x.exponent)) in (
        paged x.exponent (get_or w.base i 0) x.least (rw x.power at x.based),
        paged x.exponent (get_or w.size i 0) x.least s,
        paged x.exponent (get_or w.target i 0) x.least (rw x.power at x.targeted),
      )

-- two ranges that are apart do not both hold an address
not_both : (b s b₂ s₂ : ℕ) (a : AxiAddress) → apart b s b₂ s₂ ≡ true → holds b s a ≡ true → holds b₂ s₂ a ≡ true → ⊥
unfolding apart
not_both b s b₂ s₂ a e h g = by (leb b b₂) refl e
  where
    by : (t : Bool) → leb b b₂ ≡ t → cond t (leb (b + s) b₂) (leb (b₂ + s₂) b) ≡ true → ⊥
    by true l k = omega (arith, leb-true (b + s) b₂ k, held b s a h, held b₂ s₂ a g)
    by false l k = omega (arith, leb-true (b₂ + s₂) b k, held b s a h, held b₂ s₂ a g)

pub at_most_one_holds : AtMostOneHolds
at_most_one_holds w r a i j h g p q = by (dec_lt i j) (dec_lt j i)
  where
    by : Dec (i < j) → Dec (j < i) → i ≡ j
    by (yes l) m = absurd (not_both (get_or w.base i 0) (get_or w.size i 0) (get_or w.base j 0) (get_or w.size j 0) a (apart_at_lem w r i j l g) p q)
    by (no l) (yes m) = absurd (not_both (get_or w.base j 0) (get_or w.size j 0) (get_or w.base i 0) (get_or w.size i 0) a (apart_at_lem w r j i m h) q p)
    by (no l) (no m) = omega (arith, l, m)

shares : (b s b₂ s₂ : ℕ) → 0 < s → 0 < s₂ → (t : Bool) → leb b b₂ ≡ t → cond t (leb (b + s) b₂) (leb (b₂ + s₂) b) ≡ false
    → (holds b s (axi (max b b₂)) ≡ true) × (holds b₂ s₂ (axi (max b b₂)) ≡ true)
shares b s b₂ s₂ h g true e f =
    let p = leb-true b b₂ e in
    let q = leb-false (b + s) b₂ f in
    (holding b s (axi (max b b₂)) (omega arith) (omega arith), holding b₂ s₂ (axi (max b b₂)) (omega arith) (omega arith))
shares b s b₂ s₂ h g false e f =
    let p = leb-false b b₂ e in
    let q = leb-false (b₂ + s₂) b f in
    (holding b s (axi (max b b₂)) (omega arith) (omega arith), holding b₂ s₂ (axi (max b b₂)) (omega arith) (omega arith))

pub overlap_shares : OverlapShares
unfolding apart
overlap_shares b s b₂ s₂ h g e = shares b s b₂ s₂ h g (leb b b₂) refl e

-- ## The walk over the table

module _ (b s : List ℕ) (a : AxiAddress) where
  at_turn : (i n k : ℕ) (t : Bool) → holds (get_or b i 0) (get_or s i 0) a ≡ t
      → (first_from b s a (suc i) n ≡ Some k → (suc i ≤ k) × (k < suc i + n) × (holds (get_or b k 0) (get_or s k 0) a ≡ true))
      → cond t (Some i) (first_from b s a (suc i) n) ≡ Some k
      → (i ≤ k) × (k < i + suc n) × (holds (get_or b k 0) (get_or s k 0) a ≡ true)
  at_turn i n k true e f g =
      let p : i ≡ k = cc in
      (omega arith, omega arith, ap (λ (m : ℕ). holds (get_or b m 0) (get_or s m 0) a) (sym p) ∙ e)
  at_turn i n k false e f g = let p = f g in (omega arith, omega arith, p.2)

  pub first_at : (i n k : ℕ) → first_from b s a i n ≡ Some k → (i ≤ k) × (k < i + n) × (holds (get_or b k 0) (get_or s k 0) a ≡ true)
  unfolding first_from
  first_at i zero k e = let z : ◌≡◌ {A = ℕ} 0 1 = cc in absurd (omega arith)
  first_at i (suc n) k e = at_turn i n k (holds (get_or b i 0) (get_or s i 0) a) refl (first_at (suc i) n k) e

  none_turn : (i n : ℕ) (t : Bool) → holds (get_or b i 0) (get_or s i 0) a ≡ t
      → (first_from b s a (suc i) n ≡ None → (k : ℕ) → suc i ≤ k → k < suc i + n → holds (get_or b k 0) (get_or s k 0) a ≡ false)
      → cond t (Some i) (first_from b s a (suc i) n) ≡ None
      → (k : ℕ) → i ≤ k → k < i + suc n → holds (get_or b k 0) (get_or s k 0) a ≡ false
  none_turn i n true e f g k h l = let z : ◌≡◌ {A = ℕ} 0 1 = cc in absurd (omega arith)
  none_turn i n false e f g k h l = by (ℕ_discrete i k)
    where
      by : Dec (i ≡ k) → holds (get_or b k 0) (get_or s k 0) a ≡ false
      by (yes p) = ap (λ (m : ℕ). holds (get_or b m 0) (get_or s m 0) a) (sym p) ∙ e
      by (no p) = f g k (omega (arith, p)) (omega arith)

  none_at : (i n : ℕ) → first_from b s a i n ≡ None → (k : ℕ) → i ≤ k → k < i + n → holds (get_or b k 0) (get_or s k 0) a ≡ false
  unfolding first_from
  none_at i zero e k h l = absurd (omega arith)
  none_at i (suc n) e k h l = none_turn i n (holds (get_or b i 0) (get_or s i 0) a) refl (none_at (suc i) n) e k h l

  -- two addresses of which the same windows hold each find the same
  first_same : (d : AxiAddress) (i n : ℕ) → ((k : ℕ) → i ≤ k → k < i + n → holds (get_or b k 0) (get_or s k 0) a ≡ holds (get_or b k 0) (get_or s k 0) d) → first_from b s a i n ≡ first_from b s d i n
  unfolding first_from
  first_same d i zero f = refl
  first_same d i (suc n) f =
      rw (f i (omega arith) (omega arith), first_same d (suc i) n (λ k h g. f k (omega arith) (omega arith)))

pub found_holds : FoundHolds
unfolding window_of
found_holds w a i e =
    let p = first_at w.base w.size a 0 (min w.count 6) i e in
    (omega arith, p.2)

pub nothing_holds : NothingHolds
unfolding window_of
nothing_holds w a e i h g = none_at w.base w.size a 0 (min w.count 6) e i (omega arith) (omega arith)

pub holder_found : HolderFound
holder_found w r a i h g = by (window_of w.count w.base w.size a) refl
  where
    by : (f : Option ℕ) → window_of w.count w.base w.size a ≡ f → window_of w.count w.base w.size a ≡ Some i
    by (Some j) e = let p = found_holds w a j e in e ∙ ap Some (at_most_one_holds w r a j i p.0 h p.1 g)
    by None e = absurd (false≢true (sym (nothing_holds w a e i h (omega (arith, count_six w r))) ∙ g))

-- ## Pages and translation

same_page : (b s : ℕ) (a d : AxiAddress) → b % 4096 ≡ 0 → s % 4096 ≡ 0 → a.0 / 4096 ≡ d.0 / 4096 → holds b s a ≡ true → holds b s d ≡ true
same_page b s a d p q e h =
    let k = held b s a h in
    holding b s d (omega arith) (omega arith)

pub page_in_one_window : PageInOneWindow
unfolding window_of
page_in_one_window w r a d e =
    first_same w.base w.size a d 0 (min w.count 6)
    (λ k h g.
    let p = pages w r k (omega arith) in
    same_test (holds_at w k a) (holds_at w k d) (same_page (get_or w.base k 0) (get_or w.size k 0) a d p.0 p.1 e)
    (same_page (get_or w.base k 0) (get_or w.size k 0) d a p.0 p.1 (sym e)))

pub window_ends : WindowEnds
window_ends w r i h = window_ends_at w r i h

pub keeps_offset : KeepsOffset
unfolding translated
keeps_offset w r a i h g =
    let k = held (get_or w.base i 0) (get_or w.size i 0) a g in
    let t = window_ends_at w r i h in
    mod-eq_of_lt (omega arith)

pub keeps_low_bits : KeepsLowBits
keeps_low_bits w r a i h g =
    let k = held (get_or w.base i 0) (get_or w.size i 0) a g in
    let p = pages w r i h in
    rw (keeps_offset w r a i h g) (omega arith)

pub keeps_order : KeepsOrder
keeps_order w r a d i h g k l =
    let p = held (get_or w.base i 0) (get_or w.size i 0) a g in
    rw (keeps_offset w r a i h g, keeps_offset w r d i h k) (omega arith)

pub stays_distinct : StaysDistinct
stays_distinct w r a d i h g k e =
    let p = held (get_or w.base i 0) (get_or w.size i 0) a g in
    let q = held (get_or w.base i 0) (get_or w.size i 0) d k in
    let f : get_or w.target i 0 + (a.0 - get_or w.base i 0) ≡ get_or w.target i 0 + (d.0 - get_or w.base i 0) = sym (keeps_offset w r a i h g) ∙ ap (λ x. x.0) e ∙ keeps_offset w r d i h k in
    let z : a.0 ≡ d.0 = omega arith in
    ap axi z
