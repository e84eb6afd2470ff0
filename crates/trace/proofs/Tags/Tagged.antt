-- The invariant under steps on rows: it is looked at where a row changes, and in no other place.
use Prim.Native.Nat.{ℕ, ◌≤◌, ◌<◌}
use mathlib.Core.Path.{◌≡◌, refl, sym, ap, subst, ◌∙◌}
use mathlib.Core.Logic.{◌≢◌, ◌⊎◌, inl, inr}
use mathlib.Core.List.Memᴰ
use mathlib.Core.List.{List, []}
use native.Mathlib.Decide.{ℕ_discrete}
use Rattle.bits.specs.Bits.{is_set, set_bit}
use Rattle.bits.proofs.Bits.{set_sets}
use Rattle.parts.specs.Cores.{Core}
use Rattle.machine.specs.State.{Bridge, Tag, Slot, tag_at, missing_of, tag_count}
use Rattle.machine.specs.Completions.{Held}
use Rattle.machine.specs.Ticks.{expire_to}
use Rattle.bridge_laws.specs.MemoryLaws.{Tables}
use Rattle.bridge_laws.specs.Effects.{Acts, Expires, memory, config}
use Rattle.bridge_laws.proofs.Parts.{same_missing}
use Rattle.bridge_laws.proofs.Cores.{raised_core_lem}
use Rattle.bridge_laws.proofs.Effects.{timed_out_expires}
use Rattle.bridge_laws.proofs.Turns.{each_tag}
use Rattle.trace.specs.Events.{Event}
use Rattle.trace.specs.FarSide.{Wire, paired, Some}
use Rattle.trace.proofs.Tags.Wire.{At, own_of, OpenFine, TagFine, Wired}

-- of the free tags, tag t alone may be new
abbrev pub FreesAtMost : ℕ → ℕ → ℕ → Type 0
FreesAtMost t v w = (w ≡ v) ⊎ (w ≡ set_bit tag_count v t)

bits_kept : {v w : ℕ} (t u : ℕ) → t < tag_count → u ≢ t → FreesAtMost t v w → is_set w u ≡ is_set v u
bits_kept t u l n (inl e) = ap (λ w. is_set w u) e
bits_kept {v} t u l n (inr e) = ap (λ w. is_set w u) e ∙ (set_sets tag_count v t l).others u n

module _ (sent : ℕ → List (List ℕ)) where
  -- ---- one tag

  -- the row and the free bit are the same
  pub same_tag : {b x : Bridge} {w : Wire} {es : List Event} {t : ℕ} → tag_at x t ≡ tag_at b t → is_set x.core.free t ≡ is_set b.core.free t
      → TagFine sent b w es t → TagFine sent x w es t
  same_tag {w = w} {es = es} {t = t} e z f =
      record {
        quiet = λ s. f.quiet (sym z ∙ s);
        others = f.others;
        opens = λ m. subst (λ r. OpenFine sent r w es t) (sym e) (f.opens (λ n. m (same_missing e ∙ n)));
      }

  -- ---- all tags

  pub same_wired : {h x : Held} {w : Wire} {es : List Event} → ((t : ℕ) → tag_at x.bridge t ≡ tag_at h.bridge t)
      → x.bridge.core.free ≡ h.bridge.core.free → Wired sent h w es → Wired sent x w es
  same_wired r z v = record { labels = v.labels; tags = λ t. same_tag (r t) (ap (λ f. is_set f t) z) (v.tags t) }

  -- one row changes
  pub acts_wired : {h x : Held} {w : Wire} {es : List Event} {t k : ℕ} {f : Tag → Tag} {g : Slot → Slot} {c : Core → Core} → t < tag_count
      → Acts t k f g c h.bridge x.bridge → FreesAtMost t h.bridge.core.free (c h.bridge.core).free
      → TagFine sent x.bridge w es t → Wired sent h w es → Wired sent x w es
  acts_wired {h} {x} {w} {es} {t} l a z p v = record { labels = v.labels; tags = λ u. by u (ℕ_discrete u t) }
    where
      by : (u : ℕ) → Dec (u ≡ t) → TagFine sent x.bridge w es u
      by u (yes y) = subst (TagFine sent x.bridge w es) (sym y) p
      by u (no n) = same_tag (a.tags u n) (ap (λ (d : Core). is_set d.free u) a.core ∙ bits_kept t u l n z) (v.tags u)

  -- and the tag is as free as it was
  pub kept_wired : {h x : Held} {w : Wire} {es : List Event} {t k : ℕ} {f : Tag → Tag} {g : Slot → Slot} {c : Core → Core} → t < tag_count
      → Acts t k f g c h.bridge x.bridge → (c h.bridge.core).free ≡ h.bridge.core.free
      → ((f (tag_at h.bridge t)).missing ≢ 0 → OpenFine sent (f (tag_at h.bridge t)) w es t) → Wired sent h w es → Wired sent x w es
  kept_wired {w = w} {es = es} {t = t} l a z o v =
      let n = v.tags t in
      acts_wired l a (inl z)
      (record {
        quiet = λ s. n.quiet (sym (ap (λ (d : Core). is_set d.free t) a.core ∙ ap (λ f. is_set f t) z) ∙ s);
        others = n.others;
        opens = λ m. subst (λ r. OpenFine sent r w es t) (sym a.tag) (o (λ y. m (same_missing a.tag ∙ y)));
      }) v

  -- or it is closed and free, and nothing more comes for its request
  pub freed_wired : {h x : Held} {w : Wire} {es : List Event} {t k : ℕ} {f : Tag → Tag} {g : Slot → Slot} {c : Core → Core} → t < tag_count
      → Acts t k f g c h.bridge x.bridge → (c h.bridge.core).free ≡ set_bit tag_count h.bridge.core.free t
      → (f (tag_at h.bridge t)).missing ≡ 0 → paired (own_of w.live t) es ≡ [] → Wired sent h w es → Wired sent x w es
  freed_wired {w = w} {es = es} {t = t} l a z m y v =
      acts_wired l a (inr z)
      (record { quiet = λ s i p. by i p (ℕ_discrete i (own_of w.live t)); others = (v.tags t).others; opens = λ o. absurd (o (same_missing a.tag ∙ m)) }) v
    where
      by : (i : ℕ) → At i t w.live → Dec (i ≡ own_of w.live t) → paired i es ≡ []
      by i p (yes e) = rw e y
      by i p (no n) = (v.tags t).others i p n

  -- or it is closed and rests
  expired : {h x : Held} {w : Wire} {es : List Event} {t : ℕ} → t < tag_count → Expires t h x → Wired sent h w es → Tables x.bridge × Wired sent x w es
  expired l (memory o a s) v = (a.tables, kept_wired l a (raised_core_lem _ _).free (λ m. absurd (m refl)) v)
  expired l (config o a s) v = ((a 0).tables, kept_wired l (a 0) (raised_core_lem _ _).free (λ m. absurd (m refl)) v)

  -- time passes: each tag in turn rests, or stays as it is
  pub time_wired : {w : Wire} {es : List Event} (h : Held) → Tables h.bridge → Wired sent h w es → Wired sent (expire_to h tag_count) w es
  time_wired {w} {es} h b v =
      (each_tag (λ n x. Tables x.bridge × Wired sent x w es) h (b, v) (λ n x l e p. p) (λ n x l e p. expired l (timed_out_expires x n p.0 l) p.1)).1

  -- nothing is on the wire, and no tag is open
  pub bare_wired : {x : Held} {es : List Event} (n : ℕ) → ((i : ℕ) → n ≤ i → Some (paired i es) (sent i)) → ((t : ℕ) → missing_of x.bridge t ≡ 0)
      → Wired sent x (record { count = n; live = [] }) es
  bare_wired n f z =
      record {
        labels = record { known = λ i t a. absurd (Memᴰ.not-nil a); once = λ i t u a c. absurd (Memᴰ.not-nil a); future = f };
        tags = λ t. record {
          quiet = λ s i a. absurd (Memᴰ.not-nil a);
          others = λ i a. absurd (Memᴰ.not-nil a);
          opens = λ m. absurd (m (z t));
        };
      }
