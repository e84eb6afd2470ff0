-- What holds of the rows that an effect leaves: of the new row of the tag or slot that it concerns, and of the old rows of the
-- others.
use Prim.Native.Nat.{ℕ}
use mathlib.Core.Path.{◌≡◌, sym, subst}
use mathlib.Core.Logic.{◌≢◌}
use native.Mathlib.Decide.{ℕ_discrete}
use Rattle.parts.specs.Cores.{Core}
use Rattle.machine.specs.State.{Bridge, Tag, Slot, tag_at, slot_at}
use Rattle.bridge_laws.specs.Effects.{Acts}

module _ {t j : ℕ} {f : Tag → Tag} {g : Slot → Slot} {c : Core → Core} {b x : Bridge} (e : Acts t j f g c b x) where
  pub each_tag_row : (P : ℕ → Tag → Type 0) → P t (f (tag_at b t)) → ((u : ℕ) → u ≢ t → P u (tag_at b u)) → (u : ℕ) → P u (tag_at x u)
  each_tag_row P here there u = go (ℕ_discrete u t)
    where
      go : Dec (u ≡ t) → P u (tag_at x u)
      go (yes z) = subst (λ i. P i (tag_at x i)) (sym z) (subst (P t) (sym e.tag) here)
      go (no d) = subst (P u) (sym (e.tags u d)) (there u d)

  pub each_slot_row : (P : ℕ → Slot → Type 0) → P j (g (slot_at b j)) → ((k : ℕ) → k ≢ j → P k (slot_at b k)) → (k : ℕ) → P k (slot_at x k)
  each_slot_row P here there k = go (ℕ_discrete k j)
    where
      go : Dec (k ≡ j) → P k (slot_at x k)
      go (yes z) = subst (λ i. P i (slot_at x i)) (sym z) (subst (P j) (sym e.slot) here)
      go (no d) = subst (P k) (sym (e.slots k d)) (there k d)
