-- Two bridges alike stay alike when the link changes.
use Prim.Native.Nat.{ℕ, zero, suc, ◌-◌, ◌*◌, ◌+◌, ◌^◌, ◌≤◌, ◌<◌, min}
use mathlib.Core.Path.{◌≡◌, refl, sym, ap, ◌∙◌, subst}
use mathlib.Core.List.{List}
use mathlib.Core.Bool.{Bool, true, false, cond, not, ◌&&◌}
use native.Mathlib.Omega.{arith}
use native.Mathlib.Decide.{ℕ_discrete}
use lib.ListN.{length}
use lib.Dec.{eqb}
use borrow.Author.Tests.{eqb-true, eqb-false, le-ltb}
use Rattle.machine.specs.State.{Slot, tag_at, slot_at, slot_state, tag_count, slot_count, slot_size, slverr, core_in}
use Rattle.machine.specs.Completions.{store_size, Held, held, zeroed, config_done}
use Rattle.machine.specs.Ticks.{session_after, link_to, drop_slots, link_lost, linked}
use Rattle.bridge_laws.specs.Rows.{dropped_store, dropped_to, lost_slot}
use Rattle.bridge_laws.specs.Effects.{Lost}
use Rattle.bridge_laws.proofs.Effects.{drop_loses}
use Rattle.bridge_laws.proofs.Parts.{same_missing}
use Rattle.trace.proofs.Alike.Twin.{Like, equal, unused, like_of, SlotsLike, bare_slot, bare_dropped, bare_lost, Twin, config_cores, free_cores, session_cores, link_cores, raised_cores, twin_of}
use Rattle.trace.proofs.Alike.Stores.{Still, still, still_then, SameAt, Room, zeroed_still, zeroed_same, Gap, Shown, Pair, core_pair}

-- ---- the slots and the cores

-- what is put in the place of an open one leaves a free one free
drop_like : {A : Type 0} {n : A → ℕ} {r s : A} (f : A → A) → Like n r s → Like n (cond (eqb (n r) 1) (f r) r) (cond (eqb (n s) 1) (f s) s)
drop_like {n = n} f (equal e) = equal (ap (λ x. cond (eqb (n x) 1) (f x) x) e)
drop_like f (unused e i) = unused (rw e e) (rw i i)

lost_twin : {h g x y : Held} → Pair h g → Lost h x → Lost g y → Twin x.bridge y.bridge
lost_twin {h} {g} {x} {y} p a b =
    let c = p.twin.core in
    twin_of p.twin a.settings b.settings a.core b.core
    (raised_cores (link_cores (free_cores (config_cores c (like_of (bare_lost h.bridge.core.config) (bare_lost g.bridge.core.config) (drop_like (λ z. config_done z slverr 0) c.config))) (λ w. 2 ^ tag_count - 1)) false) 0)
    (λ t. unused (same_missing (a.tag t)) (same_missing (b.tag t)))
    (λ k l.
    like_of (ap bare_slot (a.slot k l) ∙ bare_dropped (slot_at h.bridge k)) (ap bare_slot (b.slot k l) ∙ bare_dropped (slot_at g.bridge k))
    (drop_like lost_slot (p.twin.slots k l)))
    a.tables b.tables

-- ---- the stores: a read that was open is zero in both

dropped : {k : ℕ} {d e : List ℕ} (r s : Slot) → Room k d e → SlotsLike r s
    → Still d e (dropped_store k r d) (dropped_store k s e)
    × (r.state ≡ 1 → (i : ℕ) → i < min r.size slot_size → SameAt k i (dropped_store k r d) (dropped_store k s e))
dropped {k} {d} {e} r s w (equal q) =
    subst (λ (z : Slot). Still d e (dropped_store k r d) (dropped_store k z e) × (r.state ≡ 1 → (i : ℕ) → i < n → SameAt k i (dropped_store k r d) (dropped_store k z e))) q
    (by (eqb r.state 1) refl)
  where
    n : ℕ
    n = min r.size slot_size

    by : (z : Bool) → eqb r.state 1 ≡ z → Still d e (cond z (zeroed k n d) d) (cond z (zeroed k n e) e)
        × (r.state ≡ 1 → (i : ℕ) → i < n → SameAt k i (cond z (zeroed k n d) d) (cond z (zeroed k n e) e))
    by true f = (zeroed_still w n (omega arith), λ g. zeroed_same w n (omega arith))
    by false f = (still, λ g. absurd (eqb-false _ _ f g))
dropped r s w (unused q f) = (rw (q, f) still, λ g. absurd (omega arith))

-- the store when the slots below n have been dropped
abbrev after : Held → ℕ → List ℕ
after h n = dropped_to (slot_at h.bridge) h.store n

module _ {h g : Held} (p : Pair h g) where
  record Drops (n : ℕ) : Type 0 where
    stores : Still h.store g.store (after h n) (after g n)
    zeroes : (k : ℕ) → k < n → slot_state h.bridge k ≡ 1 → (i : ℕ) → i < min (slot_at h.bridge k).size slot_size → SameAt k i (after h n) (after g n)

  drops : (n : ℕ) → n ≤ slot_count → Drops n
  drops zero l = record { stores = still; zeroes = λ k m. absurd (omega arith) }
  drops (suc n) l =
      let q = drops n (omega arith) in
      let w : Room n (after h n) (after g n) = record { small = l; early = rw q.stores.early p.early; late = rw q.stores.late p.late } in
      let s = dropped (slot_at h.bridge n) (slot_at g.bridge n) w (p.twin.slots n l) in
      record { stores = still_then q.stores s.0; zeroes = λ k m f i v. by q s.0 s.1 k m f i v (ℕ_discrete k n) }
    where
      by : Drops n → Still (after h n) (after g n) (after h (suc n)) (after g (suc n))
          → (slot_state h.bridge n ≡ 1 → (i : ℕ) → i < min (slot_at h.bridge n).size slot_size → SameAt n i (after h (suc n)) (after g (suc n)))
          → (k : ℕ) → k < suc n → slot_state h.bridge k ≡ 1 → (i : ℕ) → i < min (slot_at h.bridge k).size slot_size → Dec (k ≡ n)
          → SameAt k i (after h (suc n)) (after g (suc n))
      by q s t k m f i v (yes e) = subst (λ j. SameAt j i (after h (suc n)) (after g (suc n))) (sym e) (t (rw e at f) i (rw e at v))
      by q s t k m f i v (no d) = s.kept (slot_size * k + i) (q.zeroes k (omega arith) f i v)

  lost_pair : {x y : Held} → Lost h x → Lost g y → Pair x y
  lost_pair {x} a b =
      let s = drops slot_count (omega arith) in
      record {
        twin = lost_twin p a b;
        early = rw (ap length a.store ∙ s.stores.early) p.early;
        late = rw (ap length b.store ∙ s.stores.late) p.late;
        bytes = λ k l. rw (a.store, b.store)
            (subst (λ r. Shown k r (Gap (tag_at x.bridge) k) (after h slot_count) (after g slot_count)) (sym (a.slot k l)) (shown k l s (eqb (slot_state h.bridge k) 1) refl));
      }
    where
      shown : (k : ℕ) → k < slot_count → Drops slot_count → (z : Bool) → eqb (slot_state h.bridge k) 1 ≡ z → {gap : ℕ → Type 0}
          → Shown k (cond z (lost_slot (slot_at h.bridge k)) (slot_at h.bridge k))
          gap (after h slot_count) (after g slot_count)
      shown k l s true z = record { done = λ f. s.zeroes k l (eqb-true _ _ z); part = λ f. absurd (omega arith) }
      shown k l s false z = record { done = λ f i m. s.stores.kept (slot_size * k + i) ((p.bytes k l).done f i m); part = λ f. absurd (eqb-false _ _ z f) }

  -- ---- the event

  pub linked_pair : (up : Bool) → Pair (linked up h) (linked up g)
  unfolding linked
  linked_pair up =
      rw (le-ltb (length h.store) store_size p.early, le-ltb (length g.store) store_size p.late)
      (subst (Pair (choice h (not up && h.bridge.core.registers.link))) (λ i. choice g (not up && (p.twin.core.registers i).link))
      (by (not up && h.bridge.core.registers.link)))
    where
      choice : Held → Bool → Held
      choice x z = cond z (drop_slots (held (link_lost x.bridge) x.store) slot_count) (held (core_in (link_to up x.bridge.core) x.bridge) x.store)

      by : (z : Bool) → Pair (choice h z) (choice g z)
      by true = lost_pair (drop_loses h p.twin.early) (drop_loses g p.twin.late)
      by false = core_pair p (link_to up) (link_cores (session_cores p.twin.core (session_after up h.bridge.core) (session_after up g.bridge.core)) up)
