-- A valid completion's header reads back as it, and accepted bytes write back as themselves.
use mathlib.Core.Path.{◌≡◌, refl, sym, ◌∙◌}
use mathlib.Core.Bool.{Bool, true, false, cond, not, ◌&&◌, ◌||◌}
use mathlib.Core.Logic.{⊎_elim}
use mathlib.Core.List.{List, [], ◌∷◌}
use Prim.Native.Nat.{ℕ, ◌+◌, ◌*◌, ◌/◌, ◌%◌, ◌≤◌, ◌<◌}
use native.Mathlib.Nat.{mod-eq_of_lt}
use native.Mathlib.Omega.{arith}
use lib.Dec.{ltb, leb, eqb, lit≤}
use lib.ListN.{length}
use borrow.Author.Tests.{lt-ltb, le-leb, lt-leb, leb-true, leb-false, eqb-true, eq-eqb, ne_eqb, ltb-true, not-true}
use Rattle.common.proofs.Tests.{row, holds, or_either}
use Rattle.common.proofs.Cells.{cells_all}
use Rattle.tlp.specs.declared.completion.Completion.{Completion}
use Rattle.std.specs.Prelude.{Ok, Err}
use Rattle.refusals.specs.declared.Refusal.TheVariants.{Malformed}
use Rattle.tlp.specs.Bytes.{byte, flag}
use Rattle.tlp.specs.Completion.{valid_payload, valid_completion, completion_bytes, payload_length, completion_in, completion_reserved, accept_completion, read_completion}
use Rattle.tlp.specs.Laws.{Bytes}
use Rattle.tlp.proofs.Ranges.{CompletionRanges, completion_ranges}
use Rattle.tlp.proofs.Codec.{no_path, cell, full_back, full_there}

flag_le : (p : Bool) → flag p ≤ 1
flag_le true = lit≤ tt
flag_le false = lit≤ tt

kind_back : (p : Bool) → eqb (cond p 0x4A 0x0A) 0x4A ≡ p
kind_back true = refl
kind_back false = refl

kind_known : (p : Bool) → eqb (cond p 0x4A 0x0A) 0x0A || eqb (cond p 0x4A 0x0A) 0x4A ≡ true
kind_known true = refl
kind_known false = refl

poison_back : (p : Bool) (x : ℕ) → x < 4 → leb 0x40 (flag p * 64 + x) ≡ p
poison_back true x h = le-leb 64 (64 + x) (omega arith)
poison_back false x h = lt-leb 64 (0 + x) (omega arith)

-- what the payload rule says, with data and without
record WithData (c : Completion) : Type 0 where
  status : c.status ≡ 0
  some : 1 ≤ c.length
  many : c.length ≤ 1024

with_data : (c : Completion) → c.payload ≡ true → valid_payload c ≡ true → WithData c
with_data c p e =
    ⊎_elim
    (λ h.
    let r = row c.payload (eqb c.status 0 ∷ leb 1 c.length ∷ leb c.length 1024 ∷ []) h in
    record { status = eqb-true _ _ r.1.0; some = leb-true _ _ r.1.1.0; many = leb-true _ _ r.1.1.1.0 })
    (λ h.
    let r = row (not c.payload) (eqb c.length 0 ∷ not c.poisoned ∷ []) h in
    no_path (cc (not-true c.payload r.0)))
    (or_either (c.payload && eqb c.status 0 && leb 1 c.length && leb c.length 1024)
    (not c.payload && eqb c.length 0 && not c.poisoned) e)

record WithoutData (c : Completion) : Type 0 where
  none : c.length ≡ 0
  clean : c.poisoned ≡ false

without_data : (c : Completion) → c.payload ≡ false → valid_payload c ≡ true → WithoutData c
without_data c p e =
    ⊎_elim
    (λ h.
    let r = row c.payload (eqb c.status 0 ∷ leb 1 c.length ∷ leb c.length 1024 ∷ []) h in
    no_path (cc r.0))
    (λ h.
    let r = row (not c.payload) (eqb c.length 0 ∷ not c.poisoned ∷ []) h in
    record { none = eqb-true _ _ r.1.0; clean = not-true _ r.1.1.0 })
    (or_either (c.payload && eqb c.status 0 && leb 1 c.length && leb c.length 1024)
    (not c.payload && eqb c.length 0 && not c.poisoned) e)

payload_back : (c : Completion) (b : Bool) → c.payload ≡ b → valid_payload c ≡ true → payload_length b ((flag c.poisoned * 64 + c.length % 1024 / 256) % 4 * 256 + c.length % 256) ≡ c.length
payload_back c true p e =
    let w = with_data c p e in
    full_back 1024 c.length ((flag c.poisoned * 64 + c.length % 1024 / 256) % 4 * 256 + c.length % 256)
    (omega (arith, flag_le c.poisoned)) w.some w.many
payload_back c false p e = let w = without_data c p e in omega (arith, flag_le c.poisoned, w.none)

module _ (c : Completion) (g : CompletionRanges c) where
  reserved_back : completion_reserved (completion_bytes c) ≡ true
  unfolding completion_reserved completion_bytes
  reserved_back =
      let f = flag_le c.poisoned in
      let x : flag c.poisoned * 64 + c.length % 1024 / 256 < 0x80 = omega arith in
      let y : (flag c.poisoned * 64 + c.length % 1024 / 256) % 0x40 < 4 = omega arith in
      let z : (c.status * 32 + c.count % 4096 / 256) % 32 < 16 = omega arith in
      holds (eqb (cond c.payload 0x4A 0x0A) 0x0A || eqb (cond c.payload 0x4A 0x0A) 0x4A)
      (true
      ∷ ltb (flag c.poisoned * 64 + c.length % 1024 / 256) 0x80
      ∷ ltb ((flag c.poisoned * 64 + c.length % 1024 / 256) % 0x40) 4
      ∷ ltb ((c.status * 32 + c.count % 4096 / 256) % 32) 16
      ∷ [])
      (kind_known c.payload, (refl, (lt-ltb _ _ x, (lt-ltb _ _ y, (lt-ltb _ _ z, tt)))))

  value_back : completion_in (completion_bytes c) ≡ c
  unfolding completion_bytes
  value_back =
      let p = poison_back c.poisoned (c.length % 1024 / 256) (omega arith) in
      let l = payload_back c c.payload refl g.payload in
      let d : c.completer / 256 * 256 + c.completer % 256 ≡ c.completer = omega arith in
      let s : (c.status * 32 + c.count % 4096 / 256) / 32 ≡ c.status = omega arith in
      let n = full_back 4096 c.count ((c.status * 32 + c.count % 4096 / 256) % 16 * 256 + c.count % 256) (omega arith) g.some g.many in
      let r : c.requester / 256 * 256 + c.requester % 256 ≡ c.requester = omega arith in
      rw (kind_back, p, l, d, s, n, r)

pub completion_reads_back : (c : Completion) → valid_completion c ≡ true → read_completion (completion_bytes c) ≡ Ok c
unfolding read_completion
completion_reads_back c e =
    let g = completion_ranges c e in
    rw (reserved_back c g, value_back c g, e)

record Accepted (s : List ℕ) (c : Completion) : Type 0 where
  reserved : completion_reserved s ≡ true
  is : completion_in s ≡ c
  valid : valid_completion c ≡ true

accepted_valid : (s : List ℕ) (c : Completion) (b : Bool) → completion_reserved s ≡ true → valid_completion (completion_in s) ≡ b → cond b (Ok (completion_in s)) (Err Malformed) ≡ Ok c → Accepted s c
accepted_valid s c true r v e = let i : completion_in s ≡ c = cc in record { reserved = r; is = i; valid = rw i at v }
accepted_valid s c false r v e = no_path (cc)

accepted_reserved : (s : List ℕ) (c : Completion) (b : Bool) → completion_reserved s ≡ b → cond b (accept_completion (completion_in s)) (Err Malformed) ≡ Ok c → Accepted s c
accepted_reserved s c true r e = accepted_valid s c (valid_completion (completion_in s)) r refl e
accepted_reserved s c false r e = no_path (cc)

accepted : (s : List ℕ) (c : Completion) → read_completion s ≡ Ok c → Accepted s c
unfolding read_completion
accepted s c e = accepted_reserved s c (completion_reserved s) refl e

kind_there : (k : ℕ) → eqb k 0x0A || eqb k 0x4A ≡ true → cond (eqb k 0x4A) 0x4A 0x0A ≡ k
kind_there k e =
    ⊎_elim
    (λ h. let z : k ≡ 0x0A = eqb-true _ _ h in rw (ne_eqb k 0x4A (λ w. omega arith)) (sym z))
    (λ h. let z : k ≡ 0x4A = eqb-true _ _ h in rw (eq-eqb k 0x4A z) (sym z))
    (or_either (eqb k 0x0A) (eqb k 0x4A) e)

poison_there : (b : ℕ) → b < 0x80 → b % 0x40 < 4 → flag (leb 0x40 b) * 64 + b % 4 ≡ b
poison_there b h k = go (leb 0x40 b) refl
  where
    go : (t : Bool) → leb 0x40 b ≡ t → flag t * 64 + b % 4 ≡ b
    go true e = omega (arith, leb-true 0x40 b e)
    go false e = omega (arith, leb-false 0x40 b e)

length_there : (p : Bool) (field : ℕ) → field < 1024 → payload_length p field % 1024 ≡ field
length_there true field h = full_there 1024 field h
length_there false field h = mod-eq_of_lt h

pub completion_writes_back : (s : List ℕ) (c : Completion) → Bytes s → read_completion s ≡ Ok c → (valid_completion c ≡ true) × (completion_bytes c ≡ s)
unfolding completion_reserved completion_bytes
completion_writes_back s c b e =
    let a = accepted s c e in
    let r =
    row (eqb (length s) 12)
    ((eqb (byte s 0) 0x0A || eqb (byte s 0) 0x4A)
    ∷ eqb (byte s 1) 0
    ∷ ltb (byte s 2) 0x80
    ∷ ltb (byte s 2 % 0x40) 4
    ∷ ltb (byte s 6 % 32) 16
    ∷ [])
    a.reserved in
    let n : length s ≡ 12 = eqb-true _ _ r.0 in
    let one : byte s 1 ≡ 0 = eqb-true _ _ r.1.1.0 in
    let two : byte s 2 < 0x80 = ltb-true _ _ r.1.1.1.0 in
    let low : byte s 2 % 0x40 < 4 = ltb-true _ _ r.1.1.1.1.0 in
    let six : byte s 6 % 32 < 16 = ltb-true _ _ r.1.1.1.1.1.0 in
    let p = poison_there (byte s 2) two low in
    let k = length_there (eqb (byte s 0) 0x4A) (byte s 2 % 4 * 256 + byte s 3) (omega (arith, b 3)) in
    let m = full_there 4096 (byte s 6 % 16 * 256 + byte s 7) (omega (arith, b 7)) in (
      a.valid,
      rw (← a.is)
          (cell (kind_there (byte s 0) r.1.0)
          (cell (sym one)
          (cell (omega (arith, p, k, b 3))
          (cell (omega (arith, k, b 3))
          (cell (omega (arith, b 5))
          (cell (omega (arith, b 5))
          (cell (omega (arith, m, six, b 7))
          (cell (omega (arith, m, b 7))
          (cell (omega (arith, b 9))
          (cell (omega (arith, b 9))
          (cell refl
          (cell refl refl)))))))))))
          ∙ cells_all 12 s n),
    )
