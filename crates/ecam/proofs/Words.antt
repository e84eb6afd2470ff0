-- The words of 138 and 13C by their bits: each operator of the code against its definition.
use mathlib.Core.Path.{◌≡◌, refl, sym, ap, ◌∙◌}
use mathlib.Core.List.{List, [], ◌∷◌}
use mathlib.Core.Bool.{Bool, true, false, cond, not, ◌&&◌, ◌||◌}
use Prim.Native.Nat.{ℕ, zero, suc, ◌+◌, ◌-◌, ◌*◌, ◌/◌, ◌%◌, ◌^◌, ◌≤◌, ◌<◌, zero-le}
use native.Mathlib.Nat.{mod-lt, zero-lt-suc, not-suc-le-zero, le_of_suc-le-suc, eq-or-lt_of_le, lt_of_le_of_lt}
use native.Mathlib.Decide.{dec_lt}
use native.Mathlib.Omega.{arith}
use mathlib.Core.Logic.{⊎_elim}
use lib.Dec.{eqb, ltb, lit<}
use lib.Bits.{bit_and, bit_or, and_le_l, and_le_r, or_lt}
use borrow.Author.Tests.{eqb-true, eq-eqb, ne_eqb, ltb-true}
use Rattle.bits.specs.Bits.{bit, is_set, from_bits}
use Rattle.bits.proofs.Flags.{apart, or_true, and_true}
use Rattle.bits.proofs.Bits.{from_bits_has, from_bits_fits, same_bits, none_above}
use Rattle.bits.proofs.Words.{and_bits, or_bits, not_bits}
use Rattle.ecam.specs.Registers.{some, decode_bits, is_decode_bit, error_bits, is_error_bit, decode_word, strobe, strobed, reached, clears, shown, cleared, masked}
use Rattle.ecam.specs.Laws.{DecodeWord}

-- ---- some of a list

-- a test that holds of a number in the list
pub some_at : (p : ℕ → Bool) (l : List ℕ) (i : ℕ) → some (eqb i) l ≡ true → p i ≡ true → some p l ≡ true
unfolding some
some_at p [] i m h = m
some_at p (n ∷ l) i m h = by (eqb i n) refl m (λ q. some_at p l i q h)
  where
    by : (x : Bool) → eqb i n ≡ x → (x || some (eqb i) l) ≡ true → (some (eqb i) l ≡ true → some p l ≡ true) → (p n || some p l) ≡ true
    by true e q k = rw (ap p (sym (eqb-true i n e)) ∙ h)
    by false e q k = rw (k q) (or_true (p n))

-- where a test holds of some, of which
pub record Found (p : ℕ → Bool) (l : List ℕ) : Type 0 where
  pub at : ℕ
  pub member : some (eqb at) l ≡ true
  pub holds : p at ≡ true

pub some_found : (p : ℕ → Bool) (l : List ℕ) → some p l ≡ true → Found p l
unfolding some
some_found p [] h = absurd (apart h)
some_found p (n ∷ l) h = by (p n) refl h (λ q. some_found p l q)
  where
    by : (x : Bool) → p n ≡ x → (x || some p l) ≡ true → (some p l ≡ true → Found p l) → Found p (n ∷ l)
    by true e q k = record { at = n; member = rw (eq-eqb n n refl); holds = e }
    by false e q k = let f = k q in record { at = f.at; member = rw f.member (or_true (eqb f.at n)); holds = f.holds }

-- ---- decode's bits

-- every number of a list is below n
below_all : ℕ → List ℕ → Bool
below_all n [] = true
below_all n (k ∷ l) = ltb k n && below_all n l

not_member : (n i : ℕ) (l : List ℕ) → n ≤ i → below_all n l ≡ true → some (eqb i) l ≡ false
unfolding some below_all
not_member n i [] h b = refl
not_member n i (k ∷ l) h b = by (ltb k n) refl b (λ q. not_member n i l h q)
  where
    by : (x : Bool) → ltb k n ≡ x → (x && below_all n l) ≡ true → (below_all n l ≡ true → some (eqb i) l ≡ false) → (eqb i k || some (eqb i) l) ≡ false
    by true e q m = rw (ne_eqb i k (λ (z : i ≡ k). omega (arith, ltb-true k n e)), m q)
    by false e q m = absurd (apart q)

pub no_decode_bit : (i : ℕ) → 32 ≤ i → is_decode_bit i ≡ false
unfolding is_decode_bit decode_bits below_all
no_decode_bit i h = not_member 32 i decode_bits h refl

-- the number that the code has
pub decode_word_lem : DecodeWord
unfolding decode_word from_bits is_decode_bit some decode_bits
decode_word_lem = refl

word_bits : (i : ℕ) → is_set decode_word i ≡ is_decode_bit i
unfolding decode_word
word_bits i = elim (dec_lt i 32) [ yes l ↦ from_bits_has 32 is_decode_bit i l | no g ↦ high (omega arith) ]
  where
    high : 32 ≤ i → is_set (from_bits 32 is_decode_bit) i ≡ is_decode_bit i
    high g = none_above 32 (from_bits 32 is_decode_bit) i (from_bits_fits 32 is_decode_bit) g ∙ sym (no_decode_bit i g)

pub decode_bits_lem : (i : ℕ) → is_set 0x03F00F01 i ≡ is_decode_bit i
decode_bits_lem i = ap (λ (w : ℕ). is_set w i) (sym decode_word_lem) ∙ word_bits i

-- ---- the bytes that the strobes choose

-- a test holds of every number below n
unfoldable pub all_below : ℕ → (ℕ → Bool) → Bool
all_below zero p = true
all_below (suc n) p = p n && all_below n p

pub all_below_lem : (n : ℕ) (p : ℕ → Bool) → all_below n p ≡ true → (k : ℕ) → k < n → p k ≡ true
unfolding all_below
all_below_lem zero p a k h = absurd (not-suc-le-zero h)
all_below_lem (suc n) p a k h = by (p n) refl a (λ q l. all_below_lem n p q k l)
  where
    by : (x : Bool) → p n ≡ x → (x && all_below n p) ≡ true → (all_below n p ≡ true → k < n → p k ≡ true) → p k ≡ true
    by true e q m = ⊎_elim (λ (z : k ≡ n). ap p z ∙ e) (λ (l : k < n). m q l) (eq-or-lt_of_le (le_of_suc-le-suc h))
    by false e q m = absurd (apart q)

-- the code's sum for the strobes k
abbrev pub lanes_of : ℕ → ℕ
lanes_of k = k % 2 * 0x000000FF + k / 2 % 2 * 0x0000FF00 + k / 4 % 2 * 0x00FF0000 + k / 8 % 2 * 0xFF000000

lane_test : ℕ → Bool
lane_test k = eqb (lanes_of k) (from_bits 32 (λ i. is_set k (i / 8)))

lane_table : all_below 16 lane_test ≡ true
unfolding all_below lane_test from_bits is_set bit
lane_table = refl

pub lanes_are : (s : ℕ) → lanes_of (s % 16) ≡ from_bits 32 (strobed s)
unfolding lane_test strobed strobe
lanes_are s = eqb-true _ _ (all_below_lem 16 lane_test lane_table (s % 16) (mod-lt s (zero-lt-suc 15)))

-- ---- the operators

-- a word of 32 bits is what its bits say
pub is_from : (w : ℕ) (f : ℕ → Bool) → w < 2 ^ 32 → ((i : ℕ) → i < 32 → is_set w i ≡ f i) → w ≡ from_bits 32 f
is_from w f h e = same_bits 32 w (from_bits 32 f) h (from_bits_fits 32 f) (λ i l. e i l ∙ sym (from_bits_has 32 f i l))

pub reach_is : (s m : ℕ) → m ≡ from_bits 32 (strobed s) → bit_and m 0x03F00F01 ≡ from_bits 32 (reached s)
unfolding reached
reach_is s m e =
    is_from (bit_and m 0x03F00F01) (reached s) (lt_of_le_of_lt (and_le_r m 0x03F00F01) (lit< tt))
    (λ i l. rw (and_bits m 0x03F00F01 i, decode_bits_lem i, e, from_bits_has 32 (strobed s) i l))

pub shown_is : (w : ℕ) → bit_and w 0x03F00F01 ≡ shown w
unfolding shown
shown_is w =
    is_from (bit_and w 0x03F00F01) (λ i. is_set w i && is_decode_bit i) (lt_of_le_of_lt (and_le_r w 0x03F00F01) (lit< tt))
    (λ i l. rw (and_bits w 0x03F00F01 i, decode_bits_lem i))

-- all but bits 9 to 11
others_word : 0xFFFFF1FF ≡ from_bits 32 (λ i. not (is_error_bit i))
unfolding from_bits is_error_bit some error_bits
others_word = refl

no_error_bits : (i : ℕ) → i < 32 → is_set 0xFFFFF1FF i ≡ not (is_error_bit i)
no_error_bits i l = ap (λ (w : ℕ). is_set w i) others_word ∙ from_bits_has 32 (λ i. not (is_error_bit i)) i l

-- what a written one clears
pub clearing_all : (s m : ℕ) → m ≡ from_bits 32 (reached s) → m ≡ from_bits 32 (clears true s)
unfolding clears
clearing_all s m e =
    is_from m (clears true s) (rw e (from_bits_fits 32 (reached s)))
    (λ i l. rw (e, from_bits_has 32 (reached s) i l) (sym (and_true (reached s i))))

pub clearing_others : (s m : ℕ) → m ≡ from_bits 32 (reached s) → bit_and m 0xFFFFF1FF ≡ from_bits 32 (clears false s)
unfolding clears
clearing_others s m e =
    is_from (bit_and m 0xFFFFF1FF) (clears false s) (lt_of_le_of_lt (and_le_r m 0xFFFFF1FF) (lit< tt))
    (λ i l. rw (and_bits m 0xFFFFF1FF i, no_error_bits i l, e, from_bits_has 32 (reached s) i l))

module _ (empty : Bool) (w s d m : ℕ) (hw : w < 2 ^ 32) (hd : d < 2 ^ 32) (e : m ≡ from_bits 32 (clears empty s)) where
  c_fits : m < 2 ^ 32
  c_fits = rw e (from_bits_fits 32 (clears empty s))

  c_bits : (i : ℕ) → i < 32 → is_set m i ≡ clears empty s i
  c_bits i l = rw e (from_bits_has 32 (clears empty s) i l)

  cd_fits : bit_and m d < 2 ^ 32
  cd_fits = lt_of_le_of_lt (and_le_l m d) c_fits

  pub cleared_is : bit_and w ((2 ^ 32 - 1) - bit_and m d) ≡ cleared empty w s d
  unfolding cleared
  cleared_is =
      is_from (bit_and w ((2 ^ 32 - 1) - bit_and m d)) (λ i. is_set w i && not (clears empty s i && is_set d i)) (lt_of_le_of_lt (and_le_l w _) hw)
      (λ i l. rw (and_bits w ((2 ^ 32 - 1) - bit_and m d) i, not_bits 32 (bit_and m d) i cd_fits l, and_bits m d i, c_bits i l))

module _ (w s d m : ℕ) (hw : w < 2 ^ 32) (hd : d < 2 ^ 32) (e : m ≡ from_bits 32 (reached s)) where
  m_fits : m < 2 ^ 32
  m_fits = rw e (from_bits_fits 32 (reached s))

  m_bits : (i : ℕ) → i < 32 → is_set m i ≡ reached s i
  m_bits i l = rw e (from_bits_has 32 (reached s) i l)

  md_fits : bit_and m d < 2 ^ 32
  md_fits = lt_of_le_of_lt (and_le_l m d) m_fits

  pub masked_is : bit_or (bit_and m d) (bit_and w ((2 ^ 32 - 1) - m)) ≡ masked w s d
  unfolding masked
  masked_is =
      is_from (bit_or (bit_and m d) (bit_and w ((2 ^ 32 - 1) - m))) (λ i. cond (reached s i) (is_set d i) (is_set w i))
      (or_lt 32 (bit_and m d) (bit_and w ((2 ^ 32 - 1) - m)) md_fits (lt_of_le_of_lt (and_le_l w _) hw))
      (λ i l.
      rw (or_bits (bit_and m d) (bit_and w ((2 ^ 32 - 1) - m)) i, and_bits m d i, and_bits w ((2 ^ 32 - 1) - m) i, not_bits 32 m i m_fits l, m_bits i l)
      (merge (reached s i) (is_set d i) (is_set w i)))
    where
      merge : (x a b : Bool) → ((x && a) || (b && not x)) ≡ cond x a b
      merge true true b = refl
      merge true false true = refl
      merge true false false = refl
      merge false a true = refl
      merge false a false = refl

-- ---- the line

module _ (a b : ℕ) where
  both : ℕ → Bool
  both i = is_set a i && is_set b i

  shared : ℕ
  shared = bit_and (bit_and a b) 0x03F00F01

  shared_bits : (i : ℕ) → is_set shared i ≡ (both i && is_decode_bit i)
  unfolding both shared
  shared_bits i = rw (and_bits (bit_and a b) 0x03F00F01 i, and_bits a b i, decode_bits_lem i)

  -- a bit that both have makes the word more than 0
  shared_some : Found both decode_bits → shared ≡ 0 → ⊥
  unfolding is_decode_bit
  shared_some f z =
      apart
      (sym (none_above 0 0 f.at (zero-lt-suc 0) zero-le)
      ∙ (ap (λ (w : ℕ). is_set w f.at) (sym z) ∙ (shared_bits f.at ∙ rw (f.holds, f.member))))

  -- where they have none in common, each bit is a zero
  shared_none : some both decode_bits ≡ false → (i : ℕ) → is_set shared i ≡ is_set 0 i
  unfolding is_decode_bit
  shared_none e i = shared_bits i ∙ (none (both i) (is_decode_bit i) refl refl ∙ sym (none_above 0 0 i (zero-lt-suc 0) zero-le))
    where
      none : (x y : Bool) → both i ≡ x → is_decode_bit i ≡ y → (x && y) ≡ false
      none true true p q = absurd (apart (sym e ∙ some_at both decode_bits i q p))
      none true false p q = refl
      none false y p q = refl

  pub shared_is : not (eqb (bit_and (bit_and a b) 0x03F00F01) 0) ≡ some (λ i. is_set a i && is_set b i) decode_bits
  unfolding both shared
  shared_is = by (some both decode_bits) refl
    where
      by : (y : Bool) → some both decode_bits ≡ y → not (eqb shared 0) ≡ some both decode_bits
      by true e = rw (e, ne_eqb shared 0 (shared_some (some_found both decode_bits e)))
      by false e =
          rw (
            e,
            eq-eqb shared 0
                (same_bits 32 shared 0 (lt_of_le_of_lt (and_le_r (bit_and a b) 0x03F00F01) (lit< tt)) (lit< tt) (λ i l. shared_none e i)),
          )
