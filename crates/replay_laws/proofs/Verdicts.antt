-- A file's verdict, from record to record.
use Prim.Native.Nat.{ℕ, zero, suc, ◌+◌, ◌≤◌, zero-le}
use mathlib.Core.Path.{◌≡◌, refl, sym, ap, ◌∙◌}
use mathlib.Core.List.{List, ◌++◌}
use native.Mathlib.Nat.{suc-ne-zero}
use native.Mathlib.Omega.{arith}
use lib.ListN.{length, drop, length-append, length-drop}
use lib.Seq.{drop-append-le, drop-drop}
use Rattle.records.specs.Reading.{Next, more, bad, end, event, next}
use Rattle.records.specs.File.{File, with_event, file_by, file_from, file}
use Rattle.records.proofs.Judged.{judged_stays}
use Rattle.records.proofs.Known.{whole_is_there}
use Rattle.replay_laws.specs.File.{Stopped, BehindIsNotRead, Stated, VerdictStates}

no_path : {A : Type 0} → ◌≡◌ {A = ℕ} 0 1 → A
no_path e = absurd (suc-ne-zero 0 (sym e))

abbrev behind : ℕ → ℕ → ℕ → List ℕ → ℕ → File
behind turns n at s size = file_from turns (n + 1) (at + size) (drop size s)

-- ---- more bytes, with turns enough

abbrev Kept : ℕ → Type 0
Kept t =
    (u n at : ℕ) (s z : List ℕ) → t ≤ u → Stopped (file_from t n at s).verdict → file_from u n at (s ++ z) ≡ file_from t n at s

module _ (t : ℕ) (rest : Kept t) (u n at : ℕ) (s z : List ℕ) (l : suc t ≤ suc u) where
  judged : (x : Next) → next n s ≡ x → (x ≡ more → ⊥) → next n (s ++ z) ≡ x
  judged x e k = judged_stays n s z (λ m. k (sym e ∙ m)) ∙ e

  kept_by : (x : Next) → next n s ≡ x → Stopped (file_by n at (behind t n at s) x).verdict
      → file_from (suc u) n at (s ++ z) ≡ file_by n at (behind t n at s) x
  kept_by more e v = absurd v
  kept_by (bad f) e v = ap (file_by n at (behind u n at (s ++ z))) (judged (bad f) e (λ (i : bad f ≡ more). no_path (cc)))
  kept_by end e v = ap (file_by n at (behind u n at (s ++ z))) (judged end e (λ (i : end ≡ more). no_path (cc)))
  kept_by (event c size) e v =
      ap (file_by n at (behind u n at (s ++ z))) (judged (event c size) e (λ (i : event c size ≡ more). no_path (cc)))
      ∙ ap (λ (r : List ℕ). with_event c (file_from u (n + 1) (at + size) r)) (drop-append-le size s z (whole_is_there n s c size e).1)
      ∙ ap (with_event c) (rest u (n + 1) (at + size) (drop size s) z (omega arith) v)

kept : (t : ℕ) → Kept t
kept zero u n at s z l v = absurd v
kept (suc t) zero n at s z l v = absurd (omega arith)
kept (suc t) (suc u) n at s z l v = kept_by t (kept t) u n at s z l (next n s) refl v

pub behind_is_not_read : BehindIsNotRead
behind_is_not_read x z v = kept (length x) (length (x ++ z)) 0 0 x z (omega (arith, length-append x z)) v

-- ---- what a verdict states

module _ (x : List ℕ) where
  stated : (turns n at k : ℕ) → at ≤ length x → k ≡ n + length (file_from turns n at (drop at x)).events
      → Stated x k (file_from turns n at (drop at x)).verdict
  stated zero n at k l e = omega (arith, e)
  stated (suc turns) n at k l e = by (next n (drop at x)) refl (λ size. stated turns (n + 1) (at + size) k) e
    where
      by : (y : Next) → next n (drop at x) ≡ y
          → ((size : ℕ) → at + size ≤ length x → k ≡ n + 1 + length (file_from turns (n + 1) (at + size) (drop (at + size) x)).events
          → Stated x k (file_from turns (n + 1) (at + size) (drop (at + size) x)).verdict)
          → k ≡ n + length (file_by n at (behind turns n at (drop at x)) (next n (drop at x))).events
          → Stated x k (file_by n at (behind turns n at (drop at x)) (next n (drop at x))).verdict
      by more i rest c = rw i (omega (arith, rw i at c))
      by (bad f) i rest c =
          let m : k ≡ n = omega (arith, rw i at c) in
          rw i (l, rw m i)
      by end i rest c = rw i (omega (arith, rw i at c))
      by (event v size) i rest c =
          let there = (whole_is_there n (drop at x) v size i).1 in
          let d = drop-drop size at x in
          rw (i, d) (rest size (omega (arith, there, length-drop at x)) (omega (arith, rw (i, d) at c)))

pub verdict_states : VerdictStates
verdict_states x = stated x (length x) 0 0 (length (file x).events) zero-le (omega arith)
