-- What the layout can hold, as the code tests it.
use mathlib.Core.Path.{◌≡◌, refl, sym, ap, ◌∙◌}
use mathlib.Core.Bool.{Bool, true, false, ◌&&◌}
use mathlib.Core.List.{List, [], ◌∷◌}
use Prim.Native.Nat.{ℕ, ◌+◌, ◌-◌, ◌^◌, ◌≤◌, ◌<◌}
use native.Mathlib.Nat.{zero-add}
use native.Mathlib.Decide.{dec_lt}
use native.Mathlib.Omega.{arith}
use borrow.Author.Tests.{lt-ltb, le-leb, lt-leb, ltb-true, leb-true}
use lib.Dec.{ltb, leb}
use lib.ListN.{length}
use Rattle.common.proofs.Tests.{and_left, and_right}
use Rattle.burst.specs.declared.Burst.{Burst}
use Rattle.records.specs.Layout.{burst_fields, fit}
use Rattle.records.specs.Events.{read, write, config_read, config_write, completion, link, tick, take, burst_values}
use Rattle.records.specs.Writing.{fits_kind, holds}
use Rattle.records.specs.Code.Parts.{config_fields}

and_true : (b : Bool) → b && true ≡ b
and_true true = refl
and_true false = refl

and_assoc : (a b c : Bool) → a && (b && c) ≡ a && b && c
and_assoc true b c = refl
and_assoc false b c = refl

leb_shift : (k n m : ℕ) → leb (k + n) (k + m) ≡ leb n m
leb_shift k n m = go (dec_lt m n)
  where
    go : Dec (m < n) → leb (k + n) (k + m) ≡ leb n m
    go (yes h) = rw (lt-leb n m h) (lt-leb (k + n) (k + m) (omega (arith, h)))
    go (no h) = rw (le-leb n m (omega (arith, h))) (le-leb (k + n) (k + m) (omega (arith, h)))

-- ---- bursts

abbrev pub burst_holds : Burst → Bool
burst_holds q = leb 1 q.beats && fit burst_fields (burst_values q)

pub record BurstFits (q : Burst) : Type 0 where
  pub some : 1 ≤ q.beats
  pub size : q.size < 8
  pub beats : q.beats - 1 < 256
  pub kind : q.kind < 4

pub burst_fits : (q : Burst) → burst_holds q ≡ true → BurstFits q
burst_fits q e =
    let z = ltb q.size 8 in
    let m = ltb (q.beats - 1) 256 in
    let k = ltb q.kind 4 in
    let f = and_right (leb 1 q.beats) (fit burst_fields (burst_values q)) e in
    let g = and_right (ltb q.start.0 (2 ^ 64)) (z && (m && (k && true))) f in
    let h = and_right z (m && (k && true)) g in
    let i = and_right m (k && true) h in
    record {
      some = leb-true _ _ (and_left (leb 1 q.beats) (fit burst_fields (burst_values q)) e);
      size = ltb-true _ _ (and_left z (m && (k && true)) g);
      beats = ltb-true _ _ (and_left m (k && true) h);
      kind = ltb-true _ _ (and_left k true i);
    }

-- ---- configuration

pub record ConfigFits (o w s d : ℕ) : Type 0 where
  pub offset : o < 2 ^ 28
  pub write : w < 2
  pub strobes : s < 16
  pub word : d < 2 ^ 32

pub config_fits : (o w s d : ℕ) → fit config_fields (o ∷ w ∷ s ∷ d ∷ []) ≡ true → ConfigFits o w s d
config_fits o w s d e =
    let z = ltb o (2 ^ 28) in
    let f = ltb w 2 in
    let m = ltb s 16 in
    let k = ltb d (2 ^ 32) in
    let g = and_right z (f && (m && (k && true))) e in
    let h = and_right f (m && (k && true)) g in
    let i = and_right m (k && true) h in
    record {
      offset = ltb-true _ _ (and_left z (f && (m && (k && true))) e);
      write = ltb-true _ _ (and_left f (m && (k && true)) g);
      strobes = ltb-true _ _ (and_left m (k && true) h);
      word = ltb-true _ _ (and_left k true i);
    }

-- ---- each kind

pub holds_read : (q : Burst) → holds (read q) ≡ burst_holds q
unfolding holds
holds_read q = ap (λ (x : Bool). leb 1 q.beats && x) (and_true (fit burst_fields (burst_values q)))

pub holds_write : (q : Burst) (d : List ℕ) → holds (write q d) ≡ burst_holds q && leb (length d) 4102
unfolding holds
holds_write q d =
    rw (le-leb 10 (10 + length d) (omega arith), leb_shift 10 (length d) 4102)
    (and_assoc (leb 1 q.beats) (fit burst_fields (burst_values q)) (leb (length d) 4102))

abbrev pub config_holds : ℕ → ℕ → ℕ → ℕ → Bool
config_holds o w s d = fit config_fields (o ∷ w ∷ s ∷ d ∷ [])

pub holds_config_read : (o : ℕ) → holds (config_read o) ≡ config_holds o 0 0 0
unfolding holds
holds_config_read o = and_true (config_holds o 0 0 0)

pub holds_config_write : (o s d : ℕ) → holds (config_write o s d) ≡ config_holds o 1 s d
unfolding holds
holds_config_write o s d = and_true (config_holds o 1 s d)

pub config_read_tested : (o : ℕ) → config_holds o 0 0 0 ≡ ltb o (2 ^ 28)
config_read_tested o = and_true (ltb o (2 ^ 28))

pub config_write_tested : (o s d : ℕ) → d < 2 ^ 32 → config_holds o 1 s d ≡ ltb o (2 ^ 28) && ltb s 16
config_write_tested o s d h = rw (lt-ltb d (2 ^ 32) h, and_true (ltb s 16))

pub holds_completion : (d : List ℕ) → holds (completion d) ≡ leb 12 (length d) && leb (length d) 4112
unfolding holds
holds_completion d = rw (zero-add (length d))

pub holds_link : (up : Bool) → holds (link up) ≡ true
unfolding holds
holds_link true = refl
holds_link false = refl

pub holds_tick : holds tick ≡ true
unfolding holds
holds_tick = refl

pub holds_take : (slot : ℕ) → holds (take slot) ≡ ltb slot 16
unfolding holds
holds_take slot = and_true (ltb slot 16 && true) ∙ and_true (ltb slot 16)

pub holds_end : (n : ℕ) → fits_kind 0 (n ∷ []) [] ≡ ltb n (2 ^ 32)
holds_end n = and_true (ltb n (2 ^ 32) && true) ∙ and_true (ltb n (2 ^ 32))

-- ---- what a take's and an end's tests tell

pub take_slot : (slot : ℕ) → holds (take slot) ≡ true → slot < 16
take_slot slot h = ltb-true slot 16 (sym (holds_take slot) ∙ h)

pub end_count : (n : ℕ) → fits_kind 0 (n ∷ []) [] ≡ true → n < 2 ^ 32
end_count n h = ltb-true n (2 ^ 32) (sym (holds_end n) ∙ h)
