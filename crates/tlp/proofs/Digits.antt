-- A number and its bytes, there and back, for any number of bytes.
use mathlib.Core.Path.{◌≡◌, refl, sym, ap, ◌∙◌}
use mathlib.Core.List.{List, ◌∷◌}
use Prim.Native.Nat.{ℕ, zero, suc, ◌+◌, ◌*◌, ◌/◌, ◌%◌, ◌^◌, ◌<◌}
use native.Mathlib.Nat.{pow-suc, pow-succ', mod-one, mod-eq_of_lt, mul_assoc, mul-add-div_right, mul-add-mod_self_right}
use native.Mathlib.Omega.{arith}
use lib.Dec.{lit<}
use lib.Arith.{mod-mul, digits_lt, digits_div}
use Rattle.common.proofs.Cells.{cells}
use Rattle.tlp.specs.Bytes.{bytes, byte, number}
use Rattle.tlp.specs.Laws.{Bytes}
use Rattle.tlp.proofs.Codec.{cell}

unit_pos : (n : ℕ) → 0 < 256 ^ n
unit_pos zero = lit< tt
unit_pos (suc n) = rw (pow-suc 256 n) (let h = unit_pos n in omega arith)

number_shift : (d : ℕ) (s : List ℕ) (at n : ℕ) → number (d ∷ s) (suc at) n ≡ number s at n
number_shift d s at zero = refl
number_shift d s at (suc n) = ap (λ (x : ℕ). byte s at * 256 ^ n + x) (number_shift d s (suc at) n)

pub number_bytes : (n x : ℕ) → number (bytes n x) 0 n ≡ x % 256 ^ n
number_bytes zero x = sym (mod-one x)
number_bytes (suc n) x =
    ap (λ (y : ℕ). x / 256 ^ n % 256 * 256 ^ n + y) (number_shift (x / 256 ^ n % 256) (bytes n x) 0 n ∙ number_bytes n x)
    ∙ (sym (mod-mul x (lit< tt) (unit_pos n)) ∙ ap (λ (m : ℕ). x % m) (sym (pow-succ' 256 n)))

pub number_lt : (s : List ℕ) (at n : ℕ) → Bytes s → number s at n < 256 ^ n
number_lt s at zero b = lit< tt
number_lt s at (suc n) b = rw (pow-succ' 256 n) (digits_lt (b at) (number_lt s (suc at) n b))

bytes_carry : (n q m : ℕ) → bytes n (q * 256 ^ n + m) ≡ bytes n m
bytes_carry zero q m = refl
bytes_carry (suc n) q m =
    let e : q * 256 ^ suc n ≡ q * 256 * 256 ^ n = ap (λ (x : ℕ). q * x) (pow-succ' 256 n) ∙ sym (mul_assoc q 256 (256 ^ n)) in
    let h = ap (λ (x : ℕ). x % 256) (mul-add-div_right (unit_pos n) (q * 256) m) ∙ mul-add-mod_self_right q 256 (m / 256 ^ n) in
    ap (λ (x : ℕ). bytes (suc n) (x + m)) e ∙ cell h (bytes_carry n (q * 256) m)

pub bytes_number : (s : List ℕ) (at n : ℕ) → Bytes s → bytes n (number s at n) ≡ cells s at n
bytes_number s at zero b = refl
bytes_number s at (suc n) b =
    cell (ap (λ (x : ℕ). x % 256) (digits_div (byte s at) (number_lt s (suc at) n b)) ∙ mod-eq_of_lt (b at))
    (bytes_carry n (byte s at) (number s (suc at) n) ∙ bytes_number s (suc at) n b)
