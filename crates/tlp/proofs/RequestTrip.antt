-- A valid request's header reads back as it, and accepted bytes write back as themselves.
use mathlib.Core.Path.{◌≡◌, refl, sym, ap, subst, ◌∙◌}
use mathlib.Core.Bool.{Bool, true, false, cond, ◌&&◌}
use mathlib.Core.List.{List, [], ◌∷◌}
use Prim.Native.Nat.{ℕ, ◌+◌, ◌*◌, ◌/◌, ◌%◌, ◌^◌, ◌≤◌, ◌<◌}
use native.Mathlib.Nat.{mod-eq_of_lt}
use native.Mathlib.Omega.{arith}
use lib.Dec.{ltb, leb, eqb}
use lib.ListN.{length}
use borrow.Author.Tests.{lt-ltb, le-ltb, le-leb, ltb-true, ltb-false, leb-true, leb-false, eqb-true, eq-eqb}
use Rattle.common.proofs.Tests.{row, holds, and_left, and_right}
use Rattle.common.proofs.Cells.{cells, cells_all}
use Rattle.tlp.specs.declared.request.ConfigAddress.{ConfigAddress}
use Rattle.tlp.specs.declared.request.Target.{Target}
use Rattle.tlp.specs.declared.request.Target.TheVariants.{Memory, Config0, Config1}
use Rattle.tlp.specs.declared.request.Request.{Request}
use Rattle.std.specs.Prelude.{Option, Some, None, Ok, Err}
use Rattle.refusals.specs.declared.Refusal.TheVariants.{Malformed}
use Rattle.tlp.specs.Bytes.{bytes, byte, number}
use Rattle.tlp.specs.Request.{Format, Memory3, Memory4, Type0, Type1, Other, valid_config, valid_target, valid_request, format_type, config_bytes, target_bytes, request_bytes, format_of, config_in, target_in, request_in, request_reserved, accept_request, read_with, read_request}
use Rattle.tlp.specs.Laws.{Bytes, Address, ValidRequest}
use Rattle.tlp.proofs.Ranges.{ConfigRanges, config_ranges, RequestRanges, request_ranges}
use Rattle.tlp.proofs.Digits.{number_bytes, bytes_number, number_lt}
use Rattle.tlp.proofs.Codec.{no_path, cell, full_back, full_there}

-- Byte 0 tells the write bit.

memory_write : (b : Bool) → (leb 0x40 (cond b 0x00 0x20) ≡ false) × (leb 0x40 (cond b 0x40 0x60) ≡ true)
memory_write true = (refl, refl)
memory_write false = (refl, refl)

memory_small : (b : Bool) → (ltb (cond b 0x00 0x20) 0x80 ≡ true) × (ltb (cond b 0x40 0x60) 0x80 ≡ true)
memory_small true = (refl, refl)
memory_small false = (refl, refl)

write_back : (w : Bool) (t : Target) → leb 0x40 (format_type w t) ≡ w
unfolding format_type
write_back false (Memory a) = (memory_write (ltb a (2 ^ 32))).0
write_back true (Memory a) = (memory_write (ltb a (2 ^ 32))).1
write_back false (Config0 p) = refl
write_back true (Config0 p) = refl
write_back false (Config1 p) = refl
write_back true (Config1 p) = refl

type_small : (w : Bool) (t : Target) → ltb (format_type w t) 0x80 ≡ true
unfolding format_type
type_small false (Memory a) = (memory_small (ltb a (2 ^ 32))).0
type_small true (Memory a) = (memory_small (ltb a (2 ^ 32))).1
type_small false (Config0 p) = refl
type_small true (Config0 p) = refl
type_small false (Config1 p) = refl
type_small true (Config1 p) = refl

-- What stands from byte 8 on reads back as the target.

address_back : (n a : ℕ) → a < 256 ^ n → number (bytes n a) 0 n ≡ a
address_back n a h = number_bytes n a ∙ mod-eq_of_lt h

config_back : (p : ConfigAddress) (c d e f g h i k : ℕ) → ConfigRanges p → config_in (k ∷ c ∷ d ∷ e ∷ f ∷ g ∷ h ∷ i ∷ config_bytes p) ≡ p
config_back p c d e f g h i k r =
    let x : (p.device * 8 + p.function) / 8 ≡ p.device = omega arith in
    let y : (p.device * 8 + p.function) % 8 ≡ p.function = omega arith in
    let z : p.register * 4 / 4 ≡ p.register = omega arith in
    rw (x, y, z)

register_zero : (x : ℕ) → eqb (x * 4 % 4) 0 ≡ true
register_zero x = eq-eqb (x * 4 % 4) 0 (omega arith)

module _ (c d e f g h i : ℕ) where
  abbrev laid : ℕ → List ℕ → List ℕ
  laid k tail = k ∷ c ∷ d ∷ e ∷ f ∷ g ∷ h ∷ i ∷ tail

  memory_back : (a : ℕ) (b : Bool) → ltb a (2 ^ 32) ≡ b → a < 2 ^ 64
      → (target_in (format_of (cond b 0x00 0x20 % 0x40)) (laid (cond b 0x00 0x20) (cond b (bytes 4 a) (bytes 8 a))) ≡ Some (Memory a))
      × (target_in (format_of (cond b 0x40 0x60 % 0x40)) (laid (cond b 0x40 0x60) (cond b (bytes 4 a) (bytes 8 a))) ≡ Some (Memory a))
  unfolding target_in format_of
  memory_back a true t l =
      let n = ap (λ (x : ℕ). Some (Memory x)) (address_back 4 a (ltb-true _ _ t)) in (n, n)
  memory_back a false t l =
      let n = address_back 8 a l in
      let m : 2 ^ 32 ≤ number (bytes 8 a) 0 8 = rw n (ltb-false a (2 ^ 32) t) in
      let q = ap (λ (x : ℕ). Some (Memory x)) n in
      (rw (le-leb _ _ m) q, rw (le-leb _ _ m) q)

  target_back : (w : Bool) (t : Target) (words : ℕ) → valid_target words t ≡ true → Address t → target_in (format_of (format_type w t % 0x40)) (laid (format_type w t) (target_bytes t)) ≡ Some t
  unfolding format_type target_bytes target_in format_of valid_target
  target_back false (Memory a) words v l = (memory_back a (ltb a (2 ^ 32)) refl l).0
  target_back true (Memory a) words v l = (memory_back a (ltb a (2 ^ 32)) refl l).1
  target_back false (Config0 p) words v l = rw (register_zero, config_back p c d e f g h i 0x04 (config_ranges p (and_right (eqb words 1) (valid_config p) v)))
  target_back true (Config0 p) words v l = rw (register_zero, config_back p c d e f g h i 0x44 (config_ranges p (and_right (eqb words 1) (valid_config p) v)))
  target_back false (Config1 p) words v l = rw (register_zero, config_back p c d e f g h i 0x05 (config_ranges p (and_right (eqb words 1) (valid_config p) v)))
  target_back true (Config1 p) words v l = rw (register_zero, config_back p c d e f g h i 0x45 (config_ranges p (and_right (eqb words 1) (valid_config p) v)))

module _ (r : Request) (g : RequestRanges r) where
  reserved_back : request_reserved (request_bytes r) ≡ true
  unfolding request_reserved request_bytes
  reserved_back =
      let x : r.length % 1024 / 256 < 4 = omega arith in
      holds (ltb (format_type r.write r.target) 0x80) (true ∷ ltb (r.length % 1024 / 256) 4 ∷ [])
      (type_small r.write r.target, (refl, (lt-ltb _ _ x, tt)))

  value_back : request_in (request_bytes r) r.target ≡ r
  unfolding request_bytes
  value_back =
      let n = full_back 1024 r.length (r.length % 1024 / 256 * 256 + r.length % 256) (omega arith) g.some g.many in
      let q : r.requester / 256 * 256 + r.requester % 256 ≡ r.requester = omega arith in
      let l : (r.last * 16 + r.first) / 16 ≡ r.last = omega arith in
      let f : (r.last * 16 + r.first) % 16 ≡ r.first = omega arith in
      rw (write_back, n, q, l, f)

read_at_lem : (s : List ℕ) (t : Target) → request_reserved s ≡ true → target_in (format_of (byte s 0 % 0x40)) s ≡ Some t → read_request s ≡ accept_request (request_in s t)
unfolding read_request
read_at_lem s t e f = rw (e, f)

pub request_reads_back : (r : Request) → ValidRequest r → read_request (request_bytes r) ≡ Ok r
unfolding request_bytes
request_reads_back r v =
    let g = request_ranges r v.0 in
    let t =
    target_back 0 (r.length % 1024 / 256) (r.length % 256) (r.requester / 256) (r.requester % 256) r.tag
    (r.last * 16 + r.first) r.write r.target r.length g.target v.1 in
    read_at_lem (request_bytes r) r.target (reserved_back r g) t ∙ rw (value_back r g, v.0)

-- What an accepted header tells.

record Accepted (s : List ℕ) (r : Request) : Type 0 where
  reserved : request_reserved s ≡ true
  target : target_in (format_of (byte s 0 % 0x40)) s ≡ Some r.target
  is : request_in s r.target ≡ r
  valid : valid_request r ≡ true

accepted_valid : (s : List ℕ) (r : Request) (t : Target) (b : Bool) → request_reserved s ≡ true → target_in (format_of (byte s 0 % 0x40)) s ≡ Some t → valid_request (request_in s t) ≡ b → cond b (Ok (request_in s t)) (Err Malformed) ≡ Ok r → Accepted s r
accepted_valid s r t true z f v e =
    let i : request_in s t ≡ r = cc in
    let j : t ≡ r.target = ap (λ (q : Request). q.target) i in
    record { reserved = z; target = f ∙ ap Some j; is = ap (λ (x : Target). request_in s x) (sym j) ∙ i; valid = rw i at v }
accepted_valid s r t false z f v e = no_path (cc)

accepted_target : (s : List ℕ) (r : Request) (x : Option Target) → request_reserved s ≡ true → target_in (format_of (byte s 0 % 0x40)) s ≡ x → read_with s x ≡ Ok r → Accepted s r
accepted_target s r (Some t) z f e = accepted_valid s r t (valid_request (request_in s t)) z f refl e
accepted_target s r None z f e = no_path (cc)

accepted_reserved : (s : List ℕ) (r : Request) (b : Bool) → request_reserved s ≡ b → cond b (read_with s (target_in (format_of (byte s 0 % 0x40)) s)) (Err Malformed) ≡ Ok r → Accepted s r
accepted_reserved s r true z e = accepted_target s r (target_in (format_of (byte s 0 % 0x40)) s) z refl e
accepted_reserved s r false z e = no_path (cc)

accepted : (s : List ℕ) (r : Request) → read_request s ≡ Ok r → Accepted s r
unfolding read_request
accepted s r e = accepted_reserved s r (request_reserved s) refl e

-- the byte that each layout has, without its write bit
abbrev Named : ℕ → Format → Type 0
Named k Memory3 = k ≡ 0x00
Named k Memory4 = k ≡ 0x20
Named k Type0 = k ≡ 0x04
Named k Type1 = k ≡ 0x05
Named k Other = Unit

named : (k : ℕ) → Named k (format_of k)
unfolding format_of
named k = go (eqb k 0x00) (eqb k 0x20) (eqb k 0x04) (eqb k 0x05) refl refl refl refl
  where
    go : (a b c d : Bool) → eqb k 0x00 ≡ a → eqb k 0x20 ≡ b → eqb k 0x04 ≡ c → eqb k 0x05 ≡ d → Named k (cond a Memory3 (cond b Memory4 (cond c Type0 (cond d Type1 Other))))
    go true b c d p q r s = eqb-true k 0x00 p
    go false true c d p q r s = eqb-true k 0x20 q
    go false false true d p q r s = eqb-true k 0x04 r
    go false false false true p q r s = eqb-true k 0x05 s
    go false false false false p q r s = tt

taken : (b : Bool) (x t : Target) → cond b (Some x) None ≡ Some t → (b ≡ true) × (t ≡ x)
taken true x t e = (refl, (cc))
taken false x t e = no_path (cc)

kind_there : (t : Target) (k low : ℕ) → format_type false t ≡ low → format_type true t ≡ 0x40 + low → k < 0x80 → k % 0x40 ≡ low → format_type (leb 0x40 k) t ≡ k
kind_there t k low f w h m = go (leb 0x40 k) refl
  where
    go : (b : Bool) → leb 0x40 k ≡ b → format_type b t ≡ k
    go true e = omega (arith, w, leb-true 0x40 k e)
    go false e = omega (arith, f, leb-false 0x40 k e)

short_type : (a : ℕ) → a < 2 ^ 32 → (format_type false (Memory a) ≡ 0x00) × (format_type true (Memory a) ≡ 0x40)
unfolding format_type
short_type a h = (rw (lt-ltb a (2 ^ 32) h), rw (lt-ltb a (2 ^ 32) h))

short_bytes : (a : ℕ) → a < 2 ^ 32 → target_bytes (Memory a) ≡ bytes 4 a
unfolding target_bytes
short_bytes a h = rw (lt-ltb a (2 ^ 32) h)

long_type : (a : ℕ) → 2 ^ 32 ≤ a → (format_type false (Memory a) ≡ 0x20) × (format_type true (Memory a) ≡ 0x60)
unfolding format_type
long_type a h = (rw (le-ltb a (2 ^ 32) h), rw (le-ltb a (2 ^ 32) h))

long_bytes : (a : ℕ) → 2 ^ 32 ≤ a → target_bytes (Memory a) ≡ bytes 8 a
unfolding target_bytes
long_bytes a h = rw (le-ltb a (2 ^ 32) h)

-- the first eight cells, and those that the target has
module _ (s : List ℕ) (b : Bytes s) (z : request_reserved s ≡ true) where
  record Low : Type 0 where
    kind : byte s 0 < 0x80
    one : byte s 1 ≡ 0
    two : byte s 2 < 4

  low : Low
  unfolding request_reserved
  low =
      let r = row (ltb (byte s 0) 0x80) (eqb (byte s 1) 0 ∷ ltb (byte s 2) 4 ∷ []) z in
      record { kind = ltb-true _ _ r.0; one = eqb-true _ _ r.1.0; two = ltb-true _ _ r.1.1.0 }

  eight_there : (t : Target) (tail : List ℕ) → format_type (leb 0x40 (byte s 0)) t ≡ byte s 0 → target_bytes t ≡ tail → request_bytes (request_in s t) ≡ byte s 0 ∷ byte s 1 ∷ byte s 2 ∷ byte s 3 ∷ byte s 4 ∷ byte s 5 ∷ byte s 6 ∷ byte s 7 ∷ tail
  unfolding request_bytes
  eight_there t tail k e =
      let g = low in
      let l = full_there 1024 (byte s 2 * 256 + byte s 3) (omega (arith, b 3)) in
      cell k
      (cell (sym g.one)
      (cell (omega (arith, l, b 3))
      (cell (omega (arith, l, b 3))
      (cell (omega (arith, b 5))
      (cell (omega (arith, b 5))
      (cell refl
      (cell (omega arith) e)))))))

  abbrev Back : Target → Type 0
  Back t = Address t × (request_bytes (request_in s t) ≡ s)

  memory3_there : (t : Target) → byte s 0 % 0x40 ≡ 0x00 → target_in Memory3 s ≡ Some t → Back t
  unfolding target_in
  memory3_there t k e =
      let w = taken (eqb (length s) 12) (Memory (number s 8 4)) t e in
      let a : number s 8 4 < 2 ^ 32 = number_lt s 8 4 b in
      subst Back (sym w.1) (omega arith, eight_there (Memory (number s 8 4)) (cells s 8 4) (kind_there _ (byte s 0) 0x00 (short_type _ a).0 (short_type _ a).1 low.kind k) (short_bytes _ a ∙ bytes_number s 8 4 b) ∙ cells_all 12 s (eqb-true _ _ w.0))

  memory4_there : (t : Target) → byte s 0 % 0x40 ≡ 0x20 → target_in Memory4 s ≡ Some t → Back t
  unfolding target_in
  memory4_there t k e =
      let w = taken (eqb (length s) 16 && leb (2 ^ 32) (number s 8 8)) (Memory (number s 8 8)) t e in
      let n = and_left (eqb (length s) 16) (leb (2 ^ 32) (number s 8 8)) w.0 in
      let a : 2 ^ 32 ≤ number s 8 8 = leb-true _ _ (and_right (eqb (length s) 16) (leb (2 ^ 32) (number s 8 8)) w.0) in
      subst Back (sym w.1) (number_lt s 8 8 b, eight_there (Memory (number s 8 8)) (cells s 8 8) (kind_there _ (byte s 0) 0x20 (long_type _ a).0 (long_type _ a).1 low.kind k) (long_bytes _ a ∙ bytes_number s 8 8 b) ∙ cells_all 16 s (eqb-true _ _ n))

  config_there : byte s 11 % 4 ≡ 0 → config_bytes (config_in s) ≡ cells s 8 4
  config_there r = cell refl (cell (omega arith) (cell refl (cell (omega arith) refl)))

  type_there : (t target : Target) (low_bits : ℕ) → Address target → format_type false target ≡ low_bits → format_type true target ≡ 0x40 + low_bits → target_bytes target ≡ config_bytes (config_in s) → byte s 0 % 0x40 ≡ low_bits → cond (eqb (length s) 12 && eqb (byte s 11 % 4) 0) (Some target) None ≡ Some t → Back t
  type_there t target low_bits x f g h k e =
      let w = taken (eqb (length s) 12 && eqb (byte s 11 % 4) 0) target t e in
      let n = and_left (eqb (length s) 12) (eqb (byte s 11 % 4) 0) w.0 in
      let r = eqb-true (byte s 11 % 4) 0 (and_right (eqb (length s) 12) (eqb (byte s 11 % 4) 0) w.0) in
      subst Back (sym w.1) (
        x,
        eight_there target (cells s 8 4) (kind_there target (byte s 0) low_bits f g low.kind k) (h ∙ config_there r)
            ∙ cells_all 12 s (eqb-true _ _ n),
      )

  target_there : (t : Target) (f : Format) → Named (byte s 0 % 0x40) f → target_in f s ≡ Some t → Back t
  unfolding target_in format_type target_bytes
  target_there t Memory3 k e = memory3_there t k e
  target_there t Memory4 k e = memory4_there t k e
  target_there t Type0 k e = type_there t (Config0 (config_in s)) 0x04 tt refl refl refl k e
  target_there t Type1 k e = type_there t (Config1 (config_in s)) 0x05 tt refl refl refl k e
  target_there t Other k e = no_path (cc)

pub request_writes_back : (s : List ℕ) (r : Request) → Bytes s → read_request s ≡ Ok r → ValidRequest r × (request_bytes r ≡ s)
request_writes_back s r b e =
    let a = accepted s r e in
    let w = target_there s b a.reserved r.target (format_of (byte s 0 % 0x40)) (named (byte s 0 % 0x40)) a.target in
    ((a.valid, w.0), ap request_bytes (sym a.is) ∙ w.1)
