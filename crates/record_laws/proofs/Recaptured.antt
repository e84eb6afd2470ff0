-- The event of a kind, values and plain bytes has that kind, those values and those plain bytes; but a configuration read keeps its
-- offset alone.
use mathlib.Core.Path.{◌≡◌, refl, sym, ap}
use mathlib.Core.Bool.{Bool, true, false, cond}
use mathlib.Core.List.{List, [], ◌∷◌}
use Prim.Native.Nat.{ℕ, zero, suc, ◌+◌, ◌-◌, ◌/◌, ◌%◌, ◌^◌, ◌≤◌, ◌<◌}
use native.Mathlib.Nat.{mod-lt}
use native.Mathlib.Omega.{arith}
use lib.Dec.{leb, eqb, lit<}
use lib.ListN.{length}
use borrow.Author.Tests.{le-leb, eqb-false, eqb-true}
use Rattle.tlp.specs.Bytes.{flag}
use Rattle.records.specs.Layout.{layout_of, unpacked, length_fits}
use Rattle.records.specs.Events.{Captured, config_read, config_write, kind_of, values_of, plain_of, burst_of, burst_values, event_of}
use Rattle.records.specs.Writing.{some_beats}
use Rattle.record_laws.specs.Codec.{canonical}
use Rattle.records.proofs.Table.{body_most}
use Rattle.record_laws.proofs.Records.{body_size}

pub data Recaptured (kind : ℕ) (vs plain : List ℕ) (e : Captured) : Type 0 where
  same : some_beats e ≡ true → kind_of e ≡ kind → values_of e ≡ vs → plain_of e ≡ plain
      → ((s : List ℕ) → canonical e s ≡ s) → Recaptured kind vs plain e
  offset_only : (offset strobes word : ℕ) → e ≡ config_read offset → kind ≡ 3
      → vs ≡ offset ∷ 0 ∷ strobes ∷ word ∷ [] → plain ≡ [] → Recaptured kind vs plain e

-- by kind, of an event
seven : (P : ℕ → Type 0) → P 1 → P 2 → P 3 → P 4 → P 5 → P 6 → P 7 → (k : ℕ) → 0 < k → k < 8 → P k
seven P a b c d e f g zero h l = absurd (omega arith)
seven P a b c d e f g (suc zero) h l = a
seven P a b c d e f g (suc (suc zero)) h l = b
seven P a b c d e f g (suc (suc (suc zero))) h l = c
seven P a b c d e f g (suc (suc (suc (suc zero)))) h l = d
seven P a b c d e f g (suc (suc (suc (suc (suc zero))))) h l = e
seven P a b c d e f g (suc (suc (suc (suc (suc (suc zero)))))) h l = f
seven P a b c d e f g (suc (suc (suc (suc (suc (suc (suc zero))))))) h l = g
seven P a b c d e f g (suc (suc (suc (suc (suc (suc (suc (suc k)))))))) h l = absurd (omega arith)

none : (s : List ℕ) → length s ≤ 0 → [] ≡ s
none [] h = refl
none (x ∷ s) h = absurd (omega arith)

-- a kind whose longest body is its fields has no plain bytes
no_plain : (kind : ℕ) (plain : List ℕ) → (layout_of kind).most ≤ body_size kind []
    → length_fits (layout_of kind) (body_size kind plain) ≡ true → [] ≡ plain
no_plain kind plain h f = none plain (omega (arith, body_most (layout_of kind) (body_size kind plain) f))

burst_back : (a b c d : ℕ) → burst_values (burst_of (a ∷ b ∷ c ∷ d ∷ [])) ≡ a ∷ b ∷ c ∷ d ∷ []
burst_back a b c d = let e : c + 1 - 1 ≡ c = omega arith in rw e

some_beats_lem : (c : ℕ) → leb 1 (c + 1) ≡ true
some_beats_lem c = le-leb 1 (c + 1) (omega arith)

flag_back : (v : ℕ) → v < 2 → flag (eqb v 1) ≡ v
flag_back v h = go (eqb v 1) refl
  where
    go : (b : Bool) → eqb v 1 ≡ b → flag b ≡ v
    go true q = sym (eqb-true v 1 q)
    go false q = omega (arith, eqb-false v 1 q)

config_back : (offset w strobes word : ℕ) (plain : List ℕ) → w < 2 → [] ≡ plain
    → Recaptured 3 (offset ∷ w ∷ strobes ∷ word ∷ []) plain (cond (eqb w 0) (config_read offset) (config_write offset strobes word))
config_back offset w strobes word plain h p = go (eqb w 0) refl
  where
    go : (b : Bool) → eqb w 0 ≡ b
        → Recaptured 3 (offset ∷ w ∷ strobes ∷ word ∷ []) plain (cond b (config_read offset) (config_write offset strobes word))
    go true q = offset_only offset strobes word refl refl (rw (eqb-true w 0 q)) (sym p)
    go false q = let e : 1 ≡ w = omega (arith, eqb-false w 0 q) in same refl refl (rw e) p (λ s. refl)

module _ (x : ℕ) (plain : List ℕ) where
  abbrev Of : ℕ → Type 0
  Of kind =
      length_fits (layout_of kind) (body_size kind plain) ≡ true
      → Recaptured kind (unpacked (layout_of kind).fields x) plain (event_of kind (unpacked (layout_of kind).fields x) plain)

  pub recaptured : (kind : ℕ) → 0 < kind → kind < 8 → Of kind
  recaptured =
      seven Of
      (λ f. same (some_beats_lem (x / 2 ^ 2 % 2 ^ 8)) refl (burst_back _ _ _ _) (no_plain 1 plain (omega arith) f) (λ s. refl))
      (λ f. same (some_beats_lem (x / 2 ^ 2 % 2 ^ 8)) refl (burst_back _ _ _ _) refl (λ s. refl))
      (λ f. config_back _ _ _ _ plain (mod-lt (x / 2 ^ 36) (lit< tt)) (no_plain 3 plain (omega arith) f))
      (λ f. same refl refl refl refl (λ s. refl))
      (λ f. same refl refl (ap (λ (v : ℕ). v ∷ []) (flag_back _ (mod-lt (x / 1) (lit< tt))))
      (no_plain 5 plain (omega arith) f) (λ s. refl))
      (λ f. same refl refl refl (no_plain 6 plain (omega arith) f) (λ s. refl))
      (λ f. same refl refl refl (no_plain 7 plain (omega arith) f) (λ s. refl))
