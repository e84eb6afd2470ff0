-- Bytes put into a store: which byte is where, and that those of other slots stay.
use Prim.Native.Nat.{ℕ, ◌+◌, ◌-◌, ◌*◌, ◌≤◌, ◌<◌}
use mathlib.Core.Path.{◌≡◌, refl, sym, ap, subst, ◌∙◌}
use mathlib.Core.List.{List, ◌++◌}
use mathlib.Core.Logic.{◌≢◌, ◌⊎◌, inl, inr, by_cases}
use mathlib.Core.Bool.{Bool, true, false, cond}
use native.Mathlib.Omega.{arith}
use native.Mathlib.Decide.{dec_lt}
use lib.ListN.{length, get_or, take, drop, get_or-append}
use lib.Seq.{paste, length_paste_head, drop-paste, get_or-take, get_or-drop, get_or-append-add, length-take-le}
use Rattle.bridge_laws.specs.CompletionLaws.{Outside, BytesOnly}

-- whichever way a test goes
pub either : {A : Type 0} (P : A → Type 0) (z : Bool) {x y : A} → P x → P y → P (cond z x y)
either P true p q = p
either P false p q = q

module _ (d : List ℕ) (at : ℕ) (s : List ℕ) (n : ℕ) (fits : at + n ≤ length d) (enough : n ≤ length s) where
  pub put_here : (i : ℕ) → i < n → get_or (paste d at s n) (at + i) 0 ≡ get_or s i 0
  put_here i h =
      let a = length_paste_head d at s n (omega arith) enough in
      let b = length-take-le at d (omega arith) in
      let z : at + i ≡ length (take at d) + i = omega arith in
      get_or-append (take at d ++ take n s) (drop (at + n) d) 0 (at + i) (omega arith)
      ∙ (ap (λ (j : ℕ). get_or (take at d ++ take n s) j 0) z
      ∙ (get_or-append-add (take at d) (take n s) i 0 ∙ get_or-take n s i 0 h))

  pub put_outside : (i : ℕ) → (i < at) ⊎ (at + n ≤ i) → get_or (paste d at s n) i 0 ≡ get_or d i 0
  put_outside i (inl h) =
      let a = length_paste_head d at s n (omega arith) enough in
      let b = length-take-le at d (omega arith) in
      get_or-append (take at d ++ take n s) (drop (at + n) d) 0 i (omega arith)
      ∙ (get_or-append (take at d) (take n s) 0 i (omega arith) ∙ get_or-take at d i 0 h)
  put_outside i (inr h) =
      let j = i - (at + n) in
      let q : at + n + j ≡ i = omega arith in
      subst (λ (x : ℕ). get_or (paste d at s n) x 0 ≡ get_or d x 0) q
      (sym (get_or-drop (at + n) (paste d at s n) j 0) ∙ (ap (λ (x : List ℕ). get_or x j 0) (drop-paste d at s n (omega arith) enough) ∙ get_or-drop (at + n) d j 0))

-- ---- slots

-- a byte of slot j is none of slot k's
pub apart : (j k i : ℕ) → j ≢ k → i < 4096 → Outside k (4096 * j + i)
apart j k i n l = by_cases (dec_lt j k) (λ x. inl (omega arith)) (λ x. let y : k < j = omega arith in inr (omega arith))

pub only_then : {k : ℕ} {d e f : List ℕ} → BytesOnly k d e → BytesOnly k e f → BytesOnly k d f
only_then p q = record { room = q.room ∙ p.room; bytes = λ i o. q.bytes i o ∙ p.bytes i o }

pub only_none : (k : ℕ) (d : List ℕ) → BytesOnly k d d
only_none k d = record { room = refl; bytes = λ i o. refl }
