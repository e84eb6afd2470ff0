-- Two stores alike: bytes that a look can show are the same in both, or are still to come. Both stores get the same writes at
-- the same places.
use Prim.Native.Nat.{ℕ, zero, suc, ◌+◌, ◌*◌, ◌≤◌, ◌<◌, min}
use mathlib.Core.Path.{◌≡◌, refl, sym, ap, ◌∙◌, subst}
use mathlib.Core.Logic.{◌⊎◌, inl, inr, ◌≢◌}
use mathlib.Core.List.{List, [], ◌∷◌, ◌++◌}
use mathlib.Core.Bool.{Bool, true, false, cond}
use native.Mathlib.Omega.{arith}
use native.Mathlib.Decide.{ℕ_discrete}
use lib.ListN.{length, get_or, take, drop, replicate, length-replicate}
use lib.Seq.{paste, length-paste, length_paste_head, length-take-le, get_or-take, get_or-drop}
use lib.Dec.{eqb, leb}
use borrow.Author.Tests.{eqb-true, leb-true}
use Rattle.parts.specs.Cores.{Core}
use Rattle.machine.specs.State.{Tag, Slot, tag_at, slot_at, missing_of, owner_of, Open, core_in, tag_count, slot_count, slot_size, okay}
use Rattle.machine.specs.Completions.{store_size, Held, held, zeroed}
use Rattle.bridge_laws.specs.Rows.{finished_slot, closed_slot, closed_store, fewer_slot}
use Rattle.bridge_laws.specs.Effects.{Acts}
use Rattle.bridge_laws.proofs.Effects.{core_acts}
use Rattle.trace.proofs.Soundness.Fine.{entry_below}
use Rattle.trace.proofs.Alike.Twin.{TagsLike, SlotsLike, Cores, Twin, act_twin}

-- ---- the same write in two stores

append_same : (a b c e : List ℕ) (i : ℕ) → length a ≡ length b → (i < length a → get_or a i 0 ≡ get_or b i 0)
    → ((j : ℕ) → i ≡ length a + j → get_or c j 0 ≡ get_or e j 0) → get_or (a ++ c) i 0 ≡ get_or (b ++ e) i 0
append_same [] [] c e i l f g = g i (omega arith)
append_same [] (y ∷ b) c e i l f g = absurd (omega arith)
append_same (x ∷ a) [] c e i l f g = absurd (omega arith)
append_same (x ∷ a) (y ∷ b) c e zero l f g = f (omega arith)
append_same (x ∷ a) (y ∷ b) c e (suc i) l f g = append_same a b c e i (omega arith) (λ h. f (omega arith)) (λ j q. g j (omega arith))

-- a byte is the same after it that is written or was the same before
paste_same : (d e s : List ℕ) (at n i : ℕ) → at + n ≤ length d → at + n ≤ length e → n ≤ length s
    → (i < at → get_or d i 0 ≡ get_or e i 0) → (at + n ≤ i → get_or d i 0 ≡ get_or e i 0) → get_or (paste d at s n) i 0 ≡ get_or (paste e at s n) i 0
paste_same d e s at n i hd he hs f g =
    let a = length-take-le at d (omega arith) in
    let b = length-take-le at e (omega arith) in
    let x = length_paste_head d at s n (omega arith) hs in
    let y = length_paste_head e at s n (omega arith) hs in
    append_same (take at d ++ take n s) (take at e ++ take n s) (drop (at + n) d) (drop (at + n) e) i (x ∙ sym y)
    (λ l. append_same (take at d) (take at e) (take n s) (take n s) i (a ∙ sym b)
    (λ l. let m : i < at = omega (arith, l, a) in get_or-take at d i 0 m ∙ (f m ∙ sym (get_or-take at e i 0 m)))
    (λ j q. refl))
    (λ j q. let m : i ≡ at + n + j = omega (arith, q, x) in
    get_or-drop (at + n) d j 0 ∙ (subst (λ z. get_or d z 0 ≡ get_or e z 0) m (g (omega arith)) ∙ sym (get_or-drop (at + n) e j 0)))

-- stores d and e become d' and e': no shorter, and what was the same is the same
pub record Still (d e d' e' : List ℕ) : Type 0 where
  pub early : length d' ≡ length d
  pub late : length e' ≡ length e
  pub kept : (i : ℕ) → get_or d i 0 ≡ get_or e i 0 → get_or d' i 0 ≡ get_or e' i 0

pub still : {d e : List ℕ} → Still d e d e
still = record { early = refl; late = refl; kept = λ i q. q }

pub still_then : {d e d' e' d'' e'' : List ℕ} → Still d e d' e' → Still d' e' d'' e'' → Still d e d'' e''
still_then p q = record { early = q.early ∙ p.early; late = q.late ∙ p.late; kept = λ i w. q.kept i (p.kept i w) }

abbrev pub SameAt : ℕ → ℕ → List ℕ → List ℕ → Type 0
SameAt k i d e = get_or d (slot_size * k + i) 0 ≡ get_or e (slot_size * k + i) 0

-- slot k lies in both stores
pub record Room (k : ℕ) (d e : List ℕ) : Type 0 where
  pub small : k < slot_count
  pub early : store_size ≤ length d
  pub late : store_size ≤ length e

module _ {k : ℕ} {d e : List ℕ} (r : Room k d e) where
  -- n bytes written
  pub put_still : (s : List ℕ) (at n : ℕ) → at + n ≤ store_size → n ≤ length s → Still d e (paste d at s n) (paste e at s n)
  put_still s at n fits enough = record {
    early = length-paste d at s n (omega arith) enough;
    late = length-paste e at s n (omega arith) enough;
    kept = λ i w. paste_same d e s at n i (omega arith) (omega arith) enough (λ l. w) (λ l. w);
  }

  pub put_same : (s : List ℕ) (at n i : ℕ) → at + n ≤ store_size → n ≤ length s → at ≤ i → i < at + n
      → get_or (paste d at s n) i 0 ≡ get_or (paste e at s n) i 0
  put_same s at n i fits enough a b = paste_same d e s at n i (omega arith) (omega arith) enough (λ l. absurd (omega arith)) (λ l. absurd (omega arith))

  -- the first n bytes of slot k zeroed
  pub zeroed_still : (n : ℕ) → n ≤ slot_size → Still d e (zeroed k n d) (zeroed k n e)
  zeroed_still n most = put_still (replicate n 0) (slot_size * k) n (omega arith) (omega (arith, length-replicate {A = ℕ} n 0))

  pub zeroed_same : (n : ℕ) → n ≤ slot_size → (i : ℕ) → i < n → SameAt k i (zeroed k n d) (zeroed k n e)
  zeroed_same n most i l = put_same (replicate n 0) (slot_size * k) n (slot_size * k + i) (omega arith) (omega (arith, length-replicate {A = ℕ} n 0)) (omega arith) (omega arith)

-- ---- the relation

-- byte i of slot k is still to come: inside what an open tag of the slot still misses, by the tags' rows
pub record Gap (row : ℕ → Tag) (k i : ℕ) : Type 0 where
  pub tag : ℕ
  pub opened : (row tag).missing ≢ 0
  pub owner : (row tag).owner ≡ k
  pub from : (row tag).place ≤ i
  pub to : i < (row tag).place + (row tag).missing

-- a tag whose row stays keeps its gap
pub gap_of : {r s : ℕ → Tag} {k i : ℕ} (f : Gap r k i) → s f.tag ≡ r f.tag → Gap s k i
gap_of f e = record { tag = f.tag; opened = rw e f.opened; owner = rw e f.owner; from = rw e f.from; to = rw e f.to }

-- slot k with row s, of a finished read every byte is the same, of an open one that has not failed every byte but the gaps
pub record Shown (k : ℕ) (s : Slot) (gap : ℕ → Type 0) (d e : List ℕ) : Type 0 where
  pub done : s.state ≡ 2 → (i : ℕ) → i < min s.size slot_size → SameAt k i d e
  pub part : s.state ≡ 1 → s.cause ≡ okay → (i : ℕ) → i < min s.size slot_size → SameAt k i d e ⊎ gap i

-- a bridge with its store alike another
pub record Pair (h g : Held) : Type 0 where
  pub twin : Twin h.bridge g.bridge
  pub early : store_size ≤ length h.store
  pub late : store_size ≤ length g.store
  pub bytes : (k : ℕ) → k < slot_count → Shown k (slot_at h.bridge k) (Gap (tag_at h.bridge) k) h.store g.store

-- ---- a slot that stays, and a piece closed

-- a gap is filled or stays one
pub shown_still : {k : ℕ} {s : Slot} {gap gap' : ℕ → Type 0} {d e d' e' : List ℕ} → Still d e d' e' → ((i : ℕ) → gap i → SameAt k i d' e' ⊎ gap' i)
    → Shown k s gap d e → Shown k s gap' d' e'
shown_still {k} {s} {gap} {gap'} {d} {e} {d'} {e'} w f p = record {
  done = λ a i l. w.kept (slot_size * k + i) (p.done a i l);
  part = λ a c i l. by i (p.part a c i l);
}
  where
    by : (i : ℕ) → SameAt k i d e ⊎ gap i → SameAt k i d' e' ⊎ gap' i
    by i (inl z) = inl (w.kept (slot_size * k + i) z)
    by i (inr z) = f i z

-- if it is the last and none has failed, every byte is the same
pub closed_shown : {k : ℕ} {d e : List ℕ} {gap : ℕ → Type 0} → Room k d e → (s : Slot) → Shown k s gap d e
    → (s.pieces ≤ 1 → s.cause ≡ okay → (i : ℕ) → i < min s.size slot_size → SameAt k i d e)
    → Still d e (closed_store k s d) (closed_store k s e) × Shown k (closed_slot s) gap (closed_store k s d) (closed_store k s e)
closed_shown {k} {d} {e} {gap} r s p last = by (leb s.pieces 1) (eqb s.cause okay) refl refl
  where
    stored : Bool → Bool → List ℕ → List ℕ
    stored z w x = cond z (cond w x (zeroed k (min s.size slot_size) x)) x

    by : (z w : Bool) → leb s.pieces 1 ≡ z → eqb s.cause okay ≡ w
        → Still d e (stored z w d) (stored z w e)
        × Shown k (cond z (finished_slot s) (fewer_slot s)) gap (stored z w d) (stored z w e)
    by true true z w = (still, record { done = λ a. last (leb-true _ _ z) (eqb-true _ _ w); part = λ a. absurd (omega arith) })
    by true false z w =
        (zeroed_still r (min s.size slot_size) (omega arith), record { done = λ a. zeroed_same r (min s.size slot_size) (omega arith); part = λ a. absurd (omega arith) })
    by false w z v = (still, record { done = p.done; part = p.part })

-- ---- a step on tag t, which is of slot k if it is open, on slot k and the core

module _ {t k : ℕ} {f f' : Tag → Tag} {g g' : Slot → Slot} {c c' : Core → Core} {h l x y : Held} (p : Pair h l)
    (m : Acts t k f g c h.bridge x.bridge) (n : Acts t k f' g' c' l.bridge y.bridge)
    (mine : Open h.bridge t → owner_of h.bridge t ≡ k)
    (core : Cores h.bridge.core.ticks l.bridge.core.ticks (c h.bridge.core) (c' l.bridge.core))
    (tag : TagsLike h.bridge.core.ticks l.bridge.core.ticks (f (tag_at h.bridge t)) (f' (tag_at l.bridge t)))
    (slot : k < slot_count → SlotsLike (g (slot_at h.bridge k)) (g' (slot_at l.bridge k)))
    (stores : Still h.store l.store x.store y.store)
    (here : k < slot_count → Shown k (g (slot_at h.bridge k)) (Gap (tag_at x.bridge) k) x.store y.store) where
  -- a gap of another slot
  gap_other : (j : ℕ) → j ≢ k → (i : ℕ) → Gap (tag_at h.bridge) j i → Gap (tag_at x.bridge) j i
  gap_other j d i q =
      gap_of q (m.tags q.tag (λ e. d (sym q.owner ∙ (ap (owner_of h.bridge) e ∙ mine (λ z. q.opened (ap (missing_of h.bridge) e ∙ z))))))

  bytes_of : (j : ℕ) → j < slot_count → Dec (j ≡ k) → Shown j (slot_at x.bridge j) (Gap (tag_at x.bridge) j) x.store y.store
  bytes_of j b (yes e) =
      subst (λ i. Shown i (slot_at x.bridge i) (Gap (tag_at x.bridge) i) x.store y.store) (sym e)
      (subst (λ s. Shown k s (Gap (tag_at x.bridge) k) x.store y.store) (sym m.slot) (here (rw e at b)))
  bytes_of j b (no d) =
      subst (λ s. Shown j s (Gap (tag_at x.bridge) j) x.store y.store) (sym (m.slots j d)) (shown_still stores (λ i q. inr (gap_other j d i q)) (p.bytes j b))

  pub act_pair : Pair x y
  act_pair = record {
    twin = act_twin p.twin m n core tag slot;
    early = rw stores.early p.early;
    late = rw stores.late p.late;
    bytes = λ j b. bytes_of j b (ℕ_discrete j k);
  }

-- ---- a step on no tag, and on the core alone

pub no_tag : {h g : Held} {A : Type 0} → Pair h g → Open h.bridge tag_count → A
no_tag {h} p o = absurd (omega (arith, entry_below h.bridge.missing tag_count o, p.twin.early.missing))

pub core_pair : {h g : Held} (p : Pair h g) (c : Core → Core)
    → Cores h.bridge.core.ticks g.bridge.core.ticks (c h.bridge.core) (c g.bridge.core)
    → Pair (held (core_in (c h.bridge.core) h.bridge) h.store) (held (core_in (c g.bridge.core) g.bridge) g.store)
core_pair {h} {g} p c q =
    act_pair p (core_acts tag_count slot_count c h.bridge p.twin.early) (core_acts tag_count slot_count c g.bridge p.twin.late)
    (no_tag p) q (p.twin.tags tag_count) (p.twin.slots slot_count) still (λ l. absurd (omega arith))
