-- Useful bytes count down the missing ones.
use Prim.Native.Nat.{ℕ, ◌-◌, ◌≤◌, ◌<◌}
use mathlib.Core.Path.{◌≡◌, refl, ◌∙◌}
use mathlib.Core.Logic.{inl, inr}
use mathlib.Core.List.{List}
use native.Mathlib.Omega.{arith}
use lib.ListN.{length}
use Rattle.verdict.specs.declared.Cause.TheVariants.{Poison}
use Rattle.verdict.specs.declared.Verdict.{Verdict}
use Rattle.verdict.specs.declared.Verdict.TheVariants.{Good, Poisoned}
use Rattle.machine.specs.State.{Bridge, tag_at, missing_of, place_of, counted, shut, freed}
use Rattle.machine.specs.Completions.{Held, held, closed}
use Rattle.bridge_laws.specs.Rows.{shut_tag}
use Rattle.bridge_laws.specs.CompletionLaws.{Counts, CountsDown}
use Rattle.bridge_laws.proofs.Parts.{same_missing, same_place, same_next}
use Rattle.bridge_laws.proofs.Verbs.{counted_counts, freed_tag, shut_tag_lem, failed_leaves, piece_leaves}
use Rattle.bridge_laws.proofs.Steps.{Begins, good, poisoned, Steps, part, last, memory_steps}

-- the last bytes close the tag: none is missing
closed_tag : (t k : ℕ) (h : Held) → tag_at (closed t k h).bridge t ≡ shut_tag (tag_at h.bridge t)
closed_tag t k h =
    (piece_leaves k (held (freed t (shut t h.bridge)) h.store)).tag t ∙ (freed_tag t t (shut t h.bridge) ∙ shut_tag_lem t h.bridge)

shut_counts : {t n : ℕ} {b x y : Bridge} → Counts t n b x → missing_of b t ≤ n → tag_at y t ≡ shut_tag (tag_at x t) → Counts t n b y
shut_counts {t} {n} {b} p l e =
    let z : 0 ≡ missing_of b t - n = omega arith in
    record { missing = same_missing e ∙ z; place = same_place e ∙ p.place; next = λ m. same_next e ∙ p.next m }

module _ (h : Held) (t k skip : ℕ) (payload : List ℕ) (lm : t < length h.bridge.missing) (lp : t < length h.bridge.place) where
  begun : {n : ℕ} {x : Held} {v : Verdict} → Begins h t k skip payload n x v → Counts t n h.bridge (counted t n x.bridge)
  begun {n} good = counted_counts t n h.bridge h.bridge refl refl refl lm lp
  begun {n} {x} poisoned =
      let f = failed_leaves k (place_of h.bridge t) Poison h.bridge in
      counted_counts t n h.bridge x.bridge f.missing f.place f.next lm lp

  counts : {x : Held} {n : ℕ} → Steps h t k skip payload x (Good n) → Counts t n h.bridge x.bridge
  counts (part good e) = begun good
  counts (last {n} {x} good e) = shut_counts (begun good) e (closed_tag t k (held (counted t n x.bridge) x.store))

  poison_counts : {x : Held} {n : ℕ} → Steps h t k skip payload x (Poisoned n) → Counts t n h.bridge x.bridge
  poison_counts (part poisoned e) = begun poisoned
  poison_counts (last {n} {x} poisoned e) = shut_counts (begun poisoned) e (closed_tag t k (held (counted t n x.bridge) x.store))

pub counts_down : CountsDown
counts_down h t k skip n payload lm lp v (inl e) = rw e (counts h t k skip payload lm lp (memory_steps h t k skip payload (Good n) refl))
counts_down h t k skip n payload lm lp v (inr e) = rw e (poison_counts h t k skip payload lm lp (memory_steps h t k skip payload (Poisoned n) refl))
