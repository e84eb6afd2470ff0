-- Bytes put over zeros are the words with the unwanted bytes zero.
use mathlib.Core.Path.{◌≡◌, sym, ap, ◌∙◌}
use mathlib.Core.List.{List, ◌++◌, append_assoc}
use Prim.Native.Nat.{ℕ, ◌+◌, ◌-◌, ◌*◌, ◌%◌, ◌≤◌}
use native.Mathlib.Omega.{arith}
use lib.ListN.{length, take, drop, replicate, length-replicate, replicate-append-replicate}
use lib.Seq.{paste, length-paste, length-take-le, take_all, take_at, drop_at, take-append-add, drop-append-add, take-append-le, drop-append-le}
use Rattle.burst.specs.Words.{word_count, words_of}

abbrev zeros : ℕ → List ℕ
zeros n = replicate n 0

length_zeros : (n : ℕ) → length (zeros n) ≡ n
length_zeros n = length-replicate {A = ℕ} n 0

take_zeros : (l m : ℕ) → l ≤ m → take l (zeros m) ≡ zeros l
take_zeros l m h =
    let e : m ≡ l + (m - l) = omega arith in
    ap (λ (k : ℕ). take l (zeros k)) e
    ∙ ap (take l) (sym (replicate-append-replicate {A = ℕ} l (m - l) 0))
    ∙ take_at (zeros l) (zeros (m - l)) l (length_zeros l)

drop_zeros : (l m : ℕ) → l ≤ m → drop l (zeros m) ≡ zeros (m - l)
drop_zeros l m h =
    let e : m ≡ l + (m - l) = omega arith in
    ap (λ (k : ℕ). drop l (zeros k)) e
    ∙ ap (drop l) (sym (replicate-append-replicate {A = ℕ} l (m - l) 0))
    ∙ drop_at (zeros l) (zeros (m - l)) l (length_zeros l)

-- a paste within a paste
module _ (d z s : List ℕ) (at m l n : ℕ) (ez : length z ≡ m) (hd : at + m ≤ length d) (hl : l + n ≤ m) (hs : n ≤ length s) where
  front : paste d at z m ≡ take at d ++ (z ++ drop (at + m) d)
  front =
      ap (λ (x : List ℕ). take at d ++ x ++ drop (at + m) d) (take_all m z (omega arith))
      ∙ append_assoc (take at d) z (drop (at + m) d)

  before : take (at + l) (paste d at z m) ≡ take at d ++ take l z
  before =
      let e : length (take at d) ≡ at = length-take-le at d (omega arith) in
      ap (take (at + l)) front
      ∙ ap (λ (k : ℕ). take (k + l) (take at d ++ (z ++ drop (at + m) d))) (sym e)
      ∙ take-append-add (take at d) (z ++ drop (at + m) d) l
      ∙ ap (◌++◌ (take at d)) (take-append-le l z (drop (at + m) d) (omega arith))

  behind : drop (at + l + n) (paste d at z m) ≡ drop (l + n) z ++ drop (at + m) d
  behind =
      let e : length (take at d) ≡ at = length-take-le at d (omega arith) in
      let f : at + l + n ≡ length (take at d) + (l + n) = omega arith in
      ap (drop (at + l + n)) front
      ∙ ap (λ (k : ℕ). drop k (take at d ++ (z ++ drop (at + m) d))) f
      ∙ drop-append-add (take at d) (z ++ drop (at + m) d) (l + n)
      ∙ drop-append-le (l + n) z (drop (at + m) d) (omega arith)

  pub paste_within : paste (paste d at z m) (at + l) s n ≡ paste d at (paste z l s n) m
  paste_within =
      let w : take m (paste z l s n) ≡ paste z l s n = take_all m (paste z l s n) (omega (arith, length-paste z l s n (omega arith) hs)) in
      let r : take at d ++ take l z ++ take n s ++ (drop (l + n) z ++ drop (at + m) d) ≡ take at d ++ paste z l s n ++ drop (at + m) d = simp append_assoc in
      ap (λ (x : List ℕ). x ++ take n s ++ drop (at + l + n) (paste d at z m)) before
      ∙ ap (λ (x : List ℕ). take at d ++ take l z ++ take n s ++ x) behind
      ∙ r
      ∙ ap (λ (x : List ℕ). take at d ++ x ++ drop (at + m) d) (sym w)

-- the words of the bytes s for address a
words_put : (a m : ℕ) (s : List ℕ) → m ≡ 4 * word_count a (length s) → paste (zeros m) (a % 4) s (length s) ≡ words_of a s
unfolding words_of word_count
words_put a m s e =
    ap (λ (x : List ℕ). x ++ take (length s) s ++ drop (a % 4 + length s) (zeros m)) (take_zeros (a % 4) m (omega arith))
    ∙ ap (λ (x : List ℕ). zeros (a % 4) ++ x ++ drop (a % 4 + length s) (zeros m)) (take_all (length s) s (omega arith))
    ∙ ap (λ (x : List ℕ). zeros (a % 4) ++ s ++ x) (drop_zeros (a % 4 + length s) m (omega arith))
    ∙ ap (λ (k : ℕ). zeros (a % 4) ++ s ++ zeros (k - (a % 4 + length s))) e

pub put_words : (d : List ℕ) (at a m n : ℕ) (s : List ℕ) → length s ≡ n → m ≡ 4 * word_count a n → at + m ≤ length d
    → paste (paste d at (zeros m) m) (at + a % 4) s n ≡ paste d at (words_of a s) (4 * word_count a n)
unfolding word_count
put_words d at a m n s e f h =
    let g : m ≡ 4 * word_count a (length s) = f ∙ ap (λ (k : ℕ). 4 * word_count a k) (sym e) in
    paste_within d (zeros m) s at m (a % 4) n (length_zeros m) h (omega arith) (omega arith)
    ∙ ap (λ (k : ℕ). paste d at (paste (zeros m) (a % 4) s k) m) (sym e)
    ∙ ap (λ (x : List ℕ). paste d at x m) (words_put a m s g)
    ∙ ap (λ (k : ℕ). paste d at (words_of a s) k) f
