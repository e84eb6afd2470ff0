-- The bytes of a record from its numbers.
use mathlib.Core.Path.{◌≡◌, refl, sym, ap, ◌∙◌}
use mathlib.Core.Bool.{Bool, true, false}
use mathlib.Core.List.{List, [], ◌∷◌, ◌++◌}
use Prim.Native.Nat.{ℕ, ◌+◌, ◌*◌, ◌/◌, ◌%◌, ◌^◌, ◌≤◌, ◌<◌}
use native.Mathlib.Nat.{div-one}
use native.Mathlib.Omega.{arith}
use borrow.Author.Tests.{leb-true}
use lib.Dec.{leb, lit≤}
use lib.ListN.{length, take}
use lib.Seq.{take-length, take-append-add}
use Rattle.common.proofs.Tests.{and_left, and_right}
use Rattle.burst.specs.declared.Burst.{Burst}
use Rattle.std.specs.Int.{from_bool}
use Rattle.std.specs.Prelude.{Option, None, Some, is_some}
use Rattle.std.specs.Bool.{then_some}
use Rattle.tlp.specs.Bytes.{bytes, flag}
use Rattle.tlp.proofs.Codec.{cell}
use Rattle.records.specs.declared.kind.Kind.TheVariants as kind
use Rattle.records.specs.declared.writing.Parts.{Parts}
use Rattle.records.specs.Layout.{burst_fields, packed, record_bytes}
use Rattle.records.specs.Events.{Captured, read, write, config_read, config_write, completion, link, tick, burst_values}
use Rattle.records.specs.Events as events
use Rattle.records.specs.Writing.{event, end, fits_kind, holds, record_of, end_record}
use Rattle.records.specs.Code.Kinds.{kind_number}
use Rattle.records.specs.Code.Parts.{config_fields, burst_low, config_high, burst_parts, config_parts, byte_parts, plain_parts, end_parts, Small, Lays, front_bytes, laid_out}
use Rattle.records.proofs.Holding.{burst_holds, BurstFits, burst_fits, holds_read, holds_write, holds_completion, end_count}

-- ---- the fields

-- ten bytes of a number are eight of its high part and two of its low part
ten : (a b : ℕ) → b < 2 ^ 16 → bytes 10 (a * 65536 + b) ≡ bytes 8 a ++ bytes 2 b
ten a b h =
    cell (omega arith) (cell (omega arith) (cell (omega arith) (cell (omega arith) (cell (omega arith)
    (cell (omega arith) (cell (omega arith) (cell (omega arith) (cell (omega arith) (cell (omega arith) refl)))))))))

burst_bytes : (q : Burst) → BurstFits q
    → bytes 10 (packed burst_fields (burst_values q) * 8) ≡ bytes 8 q.start.0 ++ bytes 2 (burst_low q)
burst_bytes q f =
    let e : packed burst_fields (burst_values q) * 8 ≡ q.start.0 * 65536 + burst_low q = omega arith in
    ap (λ (x : ℕ). bytes 10 x) e ∙ ten q.start.0 (burst_low q) (omega (arith, f))

-- nine are eight, and one that has its highest bit
nine : (a b : ℕ) → b < 2 → bytes 9 (a * 256 + b * 128) ≡ take 9 (bytes 8 a ++ bytes 2 (b * 2 ^ 15))
nine a b h =
    cell (omega arith) (cell (omega arith) (cell (omega arith) (cell (omega arith) (cell (omega arith)
    (cell (omega arith) (cell (omega arith) (cell (omega arith) (cell (omega arith) refl))))))))

config_bytes_lem : (o w s d : ℕ)
    → bytes 9 (packed config_fields (o ∷ w ∷ s ∷ d ∷ []) * 128) ≡ take 9 (bytes 8 (config_high o w s d) ++ bytes 2 (d % 2 * 2 ^ 15))
config_bytes_lem o w s d =
    let e : packed config_fields (o ∷ w ∷ s ∷ d ∷ []) * 128 ≡ config_high o w s d * 256 + d % 2 * 128 = omega arith in
    ap (λ (x : ℕ). bytes 9 x) e ∙ nine (config_high o w s d) (d % 2) (omega arith)

-- ---- whole records

abbrev pub Laid : Parts → List ℕ → List ℕ → Type 0
Laid p d s = (laid_out p d ≡ s) × Small p d

-- a record without plain bytes
no_plain : (p : Parts) (d : List ℕ) → p.length ≤ 10 → p.plain ≡ 0 → Small p d
no_plain p d l e = record { fields = l; plain = omega (arith, e); there = omega (arith, e) }

pub read_laid : (q : Burst) (d : List ℕ) → holds (read q) ≡ true → Laid (burst_parts kind.Read q 0) d (record_of (read q))
unfolding record_of record_bytes
read_laid q d h =
    let f = burst_fits q (sym (holds_read q) ∙ h) in
    (ap (λ (t : List ℕ). 16 ∷ bytes 2 10 ++ t ++ []) (sym (burst_bytes q f)), no_plain (burst_parts kind.Read q 0) d (lit≤ tt) refl)

pub write_laid : (q : Burst) (d : List ℕ) → holds (write q d) ≡ true → Laid (burst_parts kind.Write q (length d)) d (record_of (write q d))
unfolding record_of record_bytes
write_laid q d h =
    let e = sym (holds_write q d) ∙ h in
    let f = burst_fits q (and_left (burst_holds q) (leb (length d) 4102) e) in
    let l = leb-true (length d) 4102 (and_right (burst_holds q) (leb (length d) 4102) e) in (
      ap (λ (t : List ℕ). 32 ∷ bytes 2 (10 + length d) ++ t ++ take (length d) d) (sym (burst_bytes q f))
          ∙ ap (λ (t : List ℕ). 32 ∷ bytes 2 (10 + length d) ++ bytes 10 (packed burst_fields (burst_values q) * 8) ++ t) (take-length d),
      record { fields = lit≤ tt; plain = omega (arith, l); there = omega arith },
    )

config_laid : (o w s d : ℕ) (lent : List ℕ)
    → Laid (config_parts o w s d) lent (record_bytes 3 (o ∷ w ∷ s ∷ d ∷ []) [])
unfolding record_bytes
config_laid o w s d lent =
    (ap (λ (t : List ℕ). 48 ∷ bytes 2 9 ++ t ++ []) (sym (config_bytes_lem o w s d)), no_plain (config_parts o w s d) lent (lit≤ tt) refl)

pub config_read_laid : (o : ℕ) (lent : List ℕ) → Laid (config_parts o 0 0 0) lent (record_of (config_read o))
unfolding record_of
config_read_laid o lent = config_laid o 0 0 0 lent

pub config_write_laid : (o s d : ℕ) (lent : List ℕ) → Laid (config_parts o 1 s d) lent (record_of (config_write o s d))
unfolding record_of
config_write_laid o s d lent = config_laid o 1 s d lent

pub completion_laid : (d : List ℕ) → holds (completion d) ≡ true → Laid (plain_parts kind.Completion (length d)) d (record_of (completion d))
unfolding record_of record_bytes
completion_laid d h =
    let e = sym (holds_completion d) ∙ h in
    let l = leb-true (length d) 4112 (and_right (leb 12 (length d)) (leb (length d) 4112) e) in (
      ap (λ (t : List ℕ). 64 ∷ bytes 2 (0 + length d) ++ t) (take-length d),
      record { fields = lit≤ tt; plain = l; there = omega arith },
    )

pub link_laid : (up : Bool) (byte : ℕ) (d : List ℕ) → byte ≡ flag up * 128 → Laid (byte_parts kind.Link byte) d (record_of (link up))
unfolding record_of record_bytes
link_laid true byte d e = rw e (refl, no_plain (byte_parts kind.Link 128) d (lit≤ tt) refl)
link_laid false byte d e = rw e (refl, no_plain (byte_parts kind.Link 0) d (lit≤ tt) refl)

pub tick_laid : (d : List ℕ) → Laid (plain_parts kind.Tick 0) d (record_of tick)
unfolding record_of record_bytes
tick_laid d = (refl, no_plain (plain_parts kind.Tick 0) d (lit≤ tt) refl)

pub take_laid : (slot byte : ℕ) (d : List ℕ) → byte ≡ slot * 16 → Laid (byte_parts kind.Take byte) d (record_of (events.take slot))
unfolding record_of record_bytes
take_laid slot byte d e =
    (ap (λ (x : ℕ). 112 ∷ 0 ∷ 1 ∷ x ∷ []) (omega arith), no_plain (byte_parts kind.Take byte) d (lit≤ tt) refl)

pub end_laid : (n high : ℕ) (d : List ℕ) → high ≡ n * 2 ^ 32 → Laid (end_parts high) d (end_record n)
unfolding end_record record_bytes
end_laid n high d e =
    (cell refl (cell refl (cell refl (cell (omega arith) (cell (omega arith) (cell (omega arith) (cell (omega arith) refl)))))), no_plain (end_parts high) d (lit≤ tt) refl)

-- ---- by a test

pub lays_if : (x : Option Parts) (b : Bool) (q : Parts) (e : Captured) (d : List ℕ) → is_some x ≡ b → ((r : Parts) → x ≡ Some r → r ≡ q)
    → holds e ≡ b → (holds e ≡ true → Laid q d (record_of e)) → Lays x (event e) d
lays_if None b q e d i s h l = h ∙ sym i
lays_if (Some r) b q e d i s h l = let t : holds e ≡ true = h ∙ sym i in rw (s r refl) (t, l t)

pub lays_end : (n : ℕ) (b : Bool) (d : List ℕ) → fits_kind 0 (n ∷ []) [] ≡ b → Lays (then_some b (end_parts (n * 2 ^ 32 % 2 ^ 64))) (end n) d
lays_end n true d h = (h, end_laid n _ d (omega (arith, end_count n h)))
lays_end n false d h = h

-- a link's bit, as the code shifts it
pub link_bit : (up : Bool) (x : ℕ) → x ≡ from_bool up → x * 128 % 256 ≡ flag up * 128
link_bit true x e = rw e
link_bit false x e = rw e

-- the thirteen bytes that the code lays
pub front_laid : (p : Parts) (k : ℕ) → k ≡ kind_number p.kind * 16 → let n = p.length + p.plain in let a = p.high in let b = p.low in
    take (3 + p.length)
    (k ∷ (n / 256 % 256) ∷ (n % 256) ∷ (a / 2 ^ 56 % 256) ∷ (a / 2 ^ 48 % 256) ∷ (a / 2 ^ 40 % 256) ∷ (a / 2 ^ 32 % 256)
    ∷ (a / 2 ^ 24 % 256) ∷ (a / 2 ^ 16 % 256) ∷ (a / 2 ^ 8 % 256) ∷ (a % 256) ∷ (b / 256 % 256) ∷ (b % 256) ∷ [])
    ≡ front_bytes p
front_laid p k e =
    let n = p.length + p.plain in
    let a = p.high in
    let b = p.low in
    rw (div-one a, div-one b, div-one n, e)
    (take-append-add ((kind_number p.kind * 16) ∷ (n / 256 % 256) ∷ (n % 256) ∷ [])
    ((a / 2 ^ 56 % 256) ∷ (a / 2 ^ 48 % 256) ∷ (a / 2 ^ 40 % 256) ∷ (a / 2 ^ 32 % 256) ∷ (a / 2 ^ 24 % 256) ∷ (a / 2 ^ 16 % 256)
    ∷ (a / 2 ^ 8 % 256) ∷ (a % 256) ∷ (b / 256 % 256) ∷ (b % 256) ∷ []) p.length)
