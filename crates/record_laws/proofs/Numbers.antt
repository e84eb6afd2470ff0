-- Numbers in a list of bytes: where they stand, and what takes and drops leave of them.
use mathlib.Core.Path.{◌≡◌, refl, sym, ap, ◌∙◌}
use mathlib.Core.List.{List, [], ◌∷◌, ◌++◌}
use Prim.Native.Nat.{ℕ, zero, suc, ◌+◌, ◌*◌, ◌/◌, ◌%◌, ◌^◌, ◌≤◌, ◌<◌}
use native.Mathlib.Nat.{pow-suc, mod-lt, mod-eq_of_lt}
use native.Mathlib.Omega.{arith}
use lib.Dec.{lit<}
use lib.ListN.{length, get_or, take, drop, get_or-append}
use lib.Seq.{drop-cons}
use lib.Pow.{pow-add}
use Rattle.common.proofs.Cells.{cells}
use Rattle.tlp.specs.Bytes.{bytes, byte, number}
use Rattle.tlp.specs.Laws.{Bytes}
use Rattle.tlp.proofs.Digits.{number_bytes}

pub byte_bits : (n : ℕ) → 256 ^ n ≡ 2 ^ (8 * n)
byte_bits zero = refl
byte_bits (suc n) =
    let e : 8 * suc n ≡ 8 * n + 8 = omega arith in
    pow-suc 256 n ∙ (ap (λ (x : ℕ). x * 256) (byte_bits n) ∙ (sym (pow-add 2 (8 * n) 8) ∙ ap (λ (k : ℕ). 2 ^ k) (sym e)))

pub length_bytes : (n x : ℕ) → length (bytes n x) ≡ n
length_bytes zero x = refl
length_bytes (suc n) x = ap suc (length_bytes n x)

-- ---- numbers

pub number_behind : (d : ℕ) (s : List ℕ) (at n : ℕ) → number (d ∷ s) (suc at) n ≡ number s at n
number_behind d s at zero = refl
number_behind d s at (suc n) = ap (λ (x : ℕ). byte s at * 256 ^ n + x) (number_behind d s (suc at) n)

number_before : (s z : List ℕ) (at n : ℕ) → at + n ≤ length s → number (s ++ z) at n ≡ number s at n
number_before s z at zero h = refl
number_before s z at (suc n) h =
    rw (get_or-append s z 0 at (omega arith), number_before s z (suc at) n (omega arith))

-- what n bytes of a number of n bytes say, whatever follows
pub number_there : (n x : ℕ) (z : List ℕ) → x < 256 ^ n → number (bytes n x ++ z) 0 n ≡ x
number_there n x z h =
    number_before (bytes n x) z 0 n (omega (arith, length_bytes n x)) ∙ (number_bytes n x ∙ mod-eq_of_lt h)

-- ---- cells

pub cells_part : (s : List ℕ) (k n : ℕ) → k + n ≤ length s → cells s k n ≡ take n (drop k s)
cells_part s k zero h = refl
cells_part s k (suc n) h =
    rw (drop-cons s k 0 (omega arith)) (ap (λ (t : List ℕ). get_or s k 0 ∷ t) (cells_part s (suc k) n (omega arith)))

-- ---- lists of bytes

pub bytes_cons : (d : ℕ) (s : List ℕ) → d < 256 → Bytes s → Bytes (d ∷ s)
bytes_cons d s h b zero = h
bytes_cons d s h b (suc i) = b i

pub bytes_append : (s z : List ℕ) → Bytes s → Bytes z → Bytes (s ++ z)
bytes_append [] z b c = c
bytes_append (d ∷ s) z b c = bytes_cons d (s ++ z) (b 0) (bytes_append s z (λ i. b (suc i)) c)

pub bytes_of : (n x : ℕ) → Bytes (bytes n x)
bytes_of zero x = λ i. lit< tt
bytes_of (suc n) x = bytes_cons (x / 256 ^ n % 256) (bytes n x) (mod-lt (x / 256 ^ n) (lit< tt)) (bytes_of n x)
