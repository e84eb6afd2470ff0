-- The layout: which bytes are an error message.
use mathlib.Core.Path.{◌≡◌, refl, sym, ap, ◌∙◌}
use mathlib.Core.Logic.{◌⊎◌, inl, inr}
use Prim.Native.Nat.{ℕ, ◌-◌}
use Rattle.std.specs.List.{starts_with, ends_with}
use Rattle.std.specs.Prelude.{replicate, T}
use Rattle.std.proofs.lemmas.List.{get_or-append_right, length-take}
use mathlib.Core.List.{List, [], ◌∷◌, ◌++◌}
use mathlib.Core.Bool.{Bool, true, false, ◌&&◌, ◌||◌}
use lib.ListN.{length, get_or, take, drop}
use lib.Dec.{eqb, leb, lit≤}
use borrow.Author.Tests.{eqb-true}
use Rattle.std.proofs.lemmas.Slice.Eq.{text_from_reads, starts_is, ends_is}
use Rattle.std.proofs.lemmas.Bool.Decides.{Decides-eqb}
use Rattle.messages.specs.Layout.{byte, is_error_code, is_error_message, code_of, three_zeros, eight_zeros}
use Rattle.messages.specs.Laws.{laid, LaidIsTaken, TakenIsLaid, Codes}
use Rattle.messages.specs.Code.Message.{is_laid}
use Rattle.messages.proofs.Order.{apart}

two_hold : (a b : Bool) → (a && b) ≡ true → (a ≡ true) × (b ≡ true)
two_hold true b e = (refl, e)
two_hold false b e = absurd (apart e)

three_hold : (a b c : Bool) → (a && b && c) ≡ true → (a ≡ true) × (b ≡ true) × (c ≡ true)
three_hold true true true e = (refl, refl, refl)
three_hold false b c e = absurd (apart e)
three_hold true false c e = absurd (apart e)
three_hold true true false e = absurd (apart e)

four_hold : (a b c d : Bool) → (a && b && c && d) ≡ true → (a ≡ true) × (b ≡ true) × (c ≡ true) × (d ≡ true)
four_hold true true true true e = (refl, refl, refl, refl)
four_hold false b c d e = absurd (apart e)
four_hold true false c d e = absurd (apart e)
four_hold true true false d e = absurd (apart e)
four_hold true true true false e = absurd (apart e)

eight_hold : (a b c d e f g h : Bool) → (a && b && c && d && e && f && g && h) ≡ true → (a ≡ true) × (b ≡ true) × (c ≡ true) × (d ≡ true) × (e ≡ true) × (f ≡ true) × (g ≡ true) × (h ≡ true)
eight_hold true true true true true true true true z = (refl, refl, refl, refl, refl, refl, refl, refl)
eight_hold false b c d e f g h z = absurd (apart z)
eight_hold true false c d e f g h z = absurd (apart z)
eight_hold true true false d e f g h z = absurd (apart z)
eight_hold true true true false e f g h z = absurd (apart z)
eight_hold true true true true false f g h z = absurd (apart z)
eight_hold true true true true true false g h z = absurd (apart z)
eight_hold true true true true true true false h z = absurd (apart z)
eight_hold true true true true true true true false z = absurd (apart z)

pub laid_is_taken : LaidIsTaken
unfolding is_error_message
laid_is_taken high low tag code e = rw e

pub codes : Codes
codes c h = by (eqb c 0x30) (eqb c 0x31) (eqb c 0x33) refl refl refl h
  where
    by : (p q r : Bool) → eqb c 0x30 ≡ p → eqb c 0x31 ≡ q → eqb c 0x33 ≡ r → (p || q || r) ≡ true → (c ≡ 0x30) ⊎ ((c ≡ 0x31) ⊎ (c ≡ 0x33))
    by true q r e f g z = inl (eqb-true c 0x30 e)
    by false true r e f g z = inr (inl (eqb-true c 0x31 f))
    by false false true e f g z = inr (inr (eqb-true c 0x33 g))
    by false false false e f g z = absurd (apart z)

pub taken_is_laid : TakenIsLaid
unfolding is_error_message
taken_is_laid s h =
    let all = two_hold (eqb (length s) 16) _ h in
    let four = four_hold (eqb (byte s 0) 0x30) (three_zeros s) (is_error_code (byte s 7)) (eight_zeros s) all.1 in
    let z = three_hold _ _ _ four.1 in
    let e = eight_hold _ _ _ _ _ _ _ _ four.3 in
    record {
      high = byte s 4;
      low = byte s 5;
      tag = byte s 6;
      code = byte s 7;
      same =
          text_from_reads s (laid (byte s 4) (byte s 5) (byte s 6) (byte s 7)) (eqb-true _ _ all.0)
          (zero four.0, (zero z.0, (zero z.1, (zero z.2, (refl, (refl, (refl, (refl, (zero e.0, (zero e.1, (zero e.2, (zero e.3, (zero e.4, (zero e.5, (zero e.6, (zero e.7, tt))))))))))))))));
      known = four.2;
    }
  where
    zero : {x n : ℕ} → eqb x n ≡ true → x ≡ n
    zero {x} {n} e = eqb-true x n e

-- ---- as the code reads it

pub long : (s : List ℕ) → is_error_message s ≡ true → length s ≡ 16
long s h = ap length (taken_is_laid s h).same

-- what is laid out round the requester ID, the tag and the code
laid_around : (s : List ℕ) → is_laid s ≡ true → s ≡ laid (byte s 4) (byte s 5) (byte s 6) (byte s 7)
laid_around s h =
    text_from_reads s (laid (byte s 4) (byte s 5) (byte s 6) (byte s 7)) long
    (head 0, (head 1, (head 2, (head 3, (refl, (refl, (refl, (refl, (tail 8 tt, (tail 9 tt, (tail 10 tt, (tail 11 tt, (tail 12 tt, (tail 13 tt, (tail 14 tt, (tail 15 tt, tt))))))))))))))))
  where
    all : (eqb (length s) 16 ≡ true) × (starts_with eqb s (0x30 ∷ 0 ∷ 0 ∷ 0 ∷ []) ≡ true) × (ends_with eqb s (replicate 8 0) ≡ true)
    all = three_hold (eqb (length s) 16) (starts_with eqb s (0x30 ∷ 0 ∷ 0 ∷ 0 ∷ [])) (ends_with eqb s (replicate 8 0)) h

    long : length s ≡ 16
    long = eqb-true _ _ all.0

    start : s ≡ (0x30 ∷ 0 ∷ 0 ∷ 0 ∷ []) ++ drop 4 s
    start = (starts_is Decides-eqb s (0x30 ∷ 0 ∷ 0 ∷ 0 ∷ []) _ refl).0 all.1

    end : s ≡ take (length s - 8) s ++ replicate 8 0
    end = (ends_is Decides-eqb s (replicate 8 0) _ refl).0 all.2

    front : length (take (length s - 8) s) ≡ 8
    front = rw (length-take (length s - 8) s, long)

    head : (i : ℕ) → get_or s i 0 ≡ get_or ((0x30 ∷ 0 ∷ 0 ∷ 0 ∷ []) ++ drop 4 s) i 0
    head i = ap (λ l. get_or l i 0) start

    tail : (i : ℕ) → T (leb 8 i) → get_or s i 0 ≡ get_or (replicate 8 0) (i - 8) 0
    tail i h = ap (λ l. get_or l i 0) end ∙ get_or-append_right (take (length s - 8) s) (replicate 8 0) 8 i 0 front (lit≤ h)

-- a test that holds of all that is laid out
refuted : (s : List ℕ) (f : List ℕ → Bool)
    → ((high low tag code : ℕ) → is_error_code code ≡ true → f (laid high low tag code) ≡ true)
    → f s ≡ false
    → is_error_message s ≡ false
refuted s f holds h = by (is_error_message s) refl
  where
    by : (b : Bool) → is_error_message s ≡ b → is_error_message s ≡ false
    by false e = e
    by true e = let l = taken_is_laid s e in absurd (apart (sym h ∙ ap f l.same ∙ holds l.high l.low l.tag l.code l.known))

pub not_laid : (s : List ℕ) → is_laid s ≡ false → is_error_message s ≡ false
not_laid s h = refuted s is_laid (λ high low tag code e. refl) h

pub no_code : (s : List ℕ) → is_error_code (code_of s) ≡ false → is_error_message s ≡ false
no_code s h = refuted s (λ x. is_error_code (code_of x)) (λ high low tag code e. e) h

pub taken : (s : List ℕ) → is_laid s ≡ true → is_error_code (code_of s) ≡ true → is_error_message s ≡ true
taken s h e = rw (laid_around s h) (laid_is_taken (byte s 4) (byte s 5) (byte s 6) (byte s 7) e)
