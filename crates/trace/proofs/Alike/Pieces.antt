-- Two bridges alike stay alike when a piece of a read is served, fails or is closed, and when the configuration access is answered.
use Prim.Native.Nat.{ℕ, ◌+◌, ◌≤◌, ◌<◌, min, ◌*◌}
use mathlib.Core.Path.{◌≡◌, refl, sym, ap, ◌∙◌}
use mathlib.Core.Logic.{◌⊎◌, inl, inr, ◌≢◌}
use mathlib.Core.List.{List}
use mathlib.Core.Bool.{Bool, true, false, cond}
use native.Mathlib.Omega.{arith}
use lib.Dec.{ltb}
use borrow.Author.Tests.{ltb-false}
use native.Mathlib.Decide.{ℕ_discrete, dec_lt}
use lib.ListN.{length}
use lib.Seq.{paste}
use Rattle.parts.specs.Cores.{Core}
use Rattle.machine.specs.State.{Bridge, Tag, Slot, tag_at, slot_at, missing_of, owner_of, place_of, Open, slot_count, slot_size, okay, slot_state, open_pieces, tag_count}
use Rattle.machine.specs.Completions.{Held, held, useful_bytes, config_answer, config_completed}
use Rattle.bridge_laws.specs.Rows.{faulted_slot, closed_slot, closed_store, counted_tag, shut_tag, noted_slot}
use Rattle.bridge_laws.specs.Effects.{Acts, same, Serves, good_part, good_last, poison_part, poison_last, fails}
use Rattle.bridge_laws.proofs.Parts.{same_place, same_owner}
use Rattle.trace.proofs.Alike.Twin.{equal, unused, bare_slot, bare_closed, bare_faulted, bare_answer, like_equal, Cores, tag_same, like_number, config_cores, freed_cores, raised_cores}
use Rattle.trace.proofs.Alike.Stores.{Still, still, still_then, SameAt, Room, Gap, Shown, Pair, closed_shown, act_pair, put_still, put_same, gap_of, shown_still}
use Rattle.parts.specs.declared.ConfigSlot.{ConfigSlot}
use Rattle.verdict.specs.declared.Cause.TheVariants.{Poison}
use Rattle.verdict.specs.declared.Verdict.{Verdict}
use Rattle.verdict.specs.declared.Verdict.TheVariants.{Good}
use Rattle.machine.specs.Verdict.{cause_response, cause_bit}
use Rattle.bridge_laws.proofs.Effects.{config_serves}
pub use Rattle.trace.proofs.Soundness.Serving.{cause_not_okay}

-- ---- a failed piece

-- a failure is noted if it is the first in address order
faulted_by : (P : Slot → Type 0) (place code : ℕ) (s : Slot)
    → P (noted_slot place code s) → (s.fault ≤ place → P s) → P (faulted_slot place code s)
faulted_by P place code s yes' no' = by (ltb place s.fault) refl
  where
    by : (z : Bool) → ltb place s.fault ≡ z → P (cond z (noted_slot place code s) s)
    by true e = yes'
    by false e = no' (ltb-false place s.fault e)

-- a slot in use, in which a failure leaves a response that is not OKAY
pub record Failable (s : Slot) : Type 0 where
  pub used : s.state ≢ 0
  pub marked : (s.fault ≡ slot_size) ⊎ (s.cause ≢ okay)

pub faulted_failable : (place code : ℕ) (s : Slot) → code ≢ okay → Failable s → Failable (faulted_slot place code s)
faulted_failable place code s n f = faulted_by Failable place code s (record { used = f.used; marked = inr n }) (λ l. f)

fault_marks : (place code : ℕ) (s : Slot) → place < slot_size → code ≢ okay → Failable s → (faulted_slot place code s).cause ≢ okay
fault_marks place code s l n f = faulted_by (λ r. r.cause ≢ okay) place code s n (by f.marked)
  where
    by : (s.fault ≡ slot_size) ⊎ (s.cause ≢ okay) → s.fault ≤ place → s.cause ≢ okay
    by (inl e) m = absurd (omega arith)
    by (inr e) m = e

-- of its bytes nothing need be known from then on, but for a read that is finished
fault_shown : {k : ℕ} {gap gap' : ℕ → Type 0} {d e : List ℕ} (place code : ℕ) (s : Slot) → (faulted_slot place code s).cause ≢ okay
    → Shown k s gap d e → Shown k (faulted_slot place code s) gap' d e
fault_shown {k} {gap' = gap'} {d = d} {e = e} place code s n p =
    faulted_by (λ r. r.cause ≢ okay → Shown k r gap' d e) place code s
    (λ m. record { done = p.done; part = λ a c. absurd (m c) }) (λ l m. record { done = p.done; part = λ a c. absurd (m c) }) n

-- ---- tag t is open for the read in slot k

pub record Waits (b : Bridge) (t k : ℕ) : Type 0 where
  pub opened : Open b t
  pub owner : owner_of b t ≡ k
  pub inside : place_of b t + missing_of b t ≤ slot_size
  pub small : k < slot_count
  pub slot : Failable (slot_at b k)

module _ {h g : Held} (p : Pair h g) {t k : ℕ} (w : Waits h.bridge t k) where
  row_same : bare_slot (slot_at h.bridge k) ≡ bare_slot (slot_at g.bridge k)
  row_same = like_equal (p.twin.slots k w.small) w.slot.used

  place_same : place_of h.bridge t ≡ place_of g.bridge t
  place_same = same_place (tag_same p.twin t w.opened)

  room : Room k h.store g.store
  room = record { small = w.small; early = p.early; late = p.late }

  -- what a failure at the tag's place makes of the slot is the same
  fault_same : (code : ℕ)
      → bare_slot (faulted_slot (place_of h.bridge t) code (slot_at h.bridge k)) ≡ bare_slot (faulted_slot (place_of g.bridge t) code (slot_at g.bridge k))
  fault_same code =
      bare_faulted (place_of h.bridge t) code (slot_at h.bridge k)
      ∙ ((λ i. faulted_slot (place_same i) code (row_same i)) ∙ sym (bare_faulted (place_of g.bridge t) code (slot_at g.bridge k)))

  spoiled : (code : ℕ) → code ≢ 0 → (faulted_slot (place_of h.bridge t) code (slot_at h.bridge k)).cause ≢ okay
  spoiled code n = let m = w.opened in fault_marks (place_of h.bridge t) code (slot_at h.bridge k) (omega (arith, w.inside)) n w.slot

  spoiled_shown : {gap : ℕ → Type 0} (code : ℕ) → code ≢ 0
      → Shown k (faulted_slot (place_of h.bridge t) code (slot_at h.bridge k)) gap h.store g.store
  spoiled_shown code n = fault_shown (place_of h.bridge t) code (slot_at h.bridge k) (spoiled code n) (p.bytes k w.small)

  -- ---- the tag is closed: slots are first u and u' of what they were, stores d and e

  module _ {x y : Held} (f : Tag → Tag) (gone : (r : Tag) → (f r).missing ≡ 0) {c : Core → Core}
      (core : Cores h.bridge.core.ticks g.bridge.core.ticks (c h.bridge.core) (c g.bridge.core)) where
    close_pair : (u u' : Slot → Slot) {d e : List ℕ}
        → Acts t k f (λ s. closed_slot (u s)) c h.bridge x.bridge
        → Acts t k f (λ s. closed_slot (u' s)) c g.bridge y.bridge
        → bare_slot (u (slot_at h.bridge k)) ≡ bare_slot (u' (slot_at g.bridge k))
        → x.store ≡ closed_store k (u (slot_at h.bridge k)) d
        → y.store ≡ closed_store k (u' (slot_at g.bridge k)) e
        → Still h.store g.store d e
        → Shown k (u (slot_at h.bridge k)) (Gap (tag_at x.bridge) k) d e
        → ((u (slot_at h.bridge k)).pieces ≤ 1 → (u (slot_at h.bridge k)).cause ≡ okay
        → (i : ℕ) → i < min (u (slot_at h.bridge k)).size slot_size → SameAt k i d e)
        → Pair x y
    close_pair u u' {d} {e} a b same ex ey s shown last =
        let r : Room k d e = record { small = w.small; early = rw s.early p.early; late = rw s.late p.late } in
        let z = u (slot_at h.bridge k) in
        let ey' : y.store ≡ closed_store k z e = ey ∙ ap (λ (q : Slot). closed_store k q e) (sym same) in
        let q = closed_shown r z shown last in
        act_pair p a b (λ o. w.owner) core (unused (gone _) (gone _)) (λ l. equal (bare_closed z ∙ (ap closed_slot same ∙ sym (bare_closed (u' (slot_at g.bridge k)))))) (rw (ex, ey') (still_then s q.0)) (λ l. rw (ex, ey') q.1)

    -- it fails
    pub fail_pair : (code : ℕ) → code ≢ 0
        → Acts t k f (λ s. closed_slot (faulted_slot (place_of h.bridge t) code s)) c h.bridge x.bridge
        → Acts t k f (λ s. closed_slot (faulted_slot (place_of g.bridge t) code s)) c g.bridge y.bridge
        → x.store ≡ closed_store k (faulted_slot (place_of h.bridge t) code (slot_at h.bridge k)) h.store
        → y.store ≡ closed_store k (faulted_slot (place_of g.bridge t) code (slot_at g.bridge k)) g.store
        → Pair x y
    fail_pair code n a b ex ey =
        close_pair (faulted_slot (place_of h.bridge t) code) (faulted_slot (place_of g.bridge t) code) a b (fault_same code) ex ey still
        (spoiled_shown code n) (λ i c. absurd (spoiled code n c))

  -- ---- n good bytes

  module _ (n : ℕ) (bytes : List ℕ) (fits : (place_of h.bridge t + n ≤ slot_size) × (n ≤ length bytes)) where
    abbrev put : List ℕ → List ℕ
    put d = paste d (slot_size * k + place_of h.bridge t) bytes n

    stays : Still h.store g.store (put h.store) (put g.store)
    stays = let r = room in put_still r bytes (slot_size * k + place_of h.bridge t) n (omega (arith, fits.0)) fits.1

    come : (i : ℕ) → place_of h.bridge t ≤ i → i < place_of h.bridge t + n → SameAt k i (put h.store) (put g.store)
    come i a b =
        let r = room in
        put_same r bytes (slot_size * k + place_of h.bridge t) n (slot_size * k + i) (omega (arith, fits.0)) fits.1 (omega arith) (omega arith)

    -- a gap is filled or stays one: rest says so of what tag t still misses
    module _ {x : Bridge} {f : Tag → Tag} {u : Slot → Slot} {c : Core → Core} (a : Acts t k f u c h.bridge x)
        (rest : (i : ℕ) → place_of h.bridge t + n ≤ i → i < place_of h.bridge t + missing_of h.bridge t → Gap (tag_at x) k i) where
      own : (i : ℕ) → place_of h.bridge t ≤ i → i < place_of h.bridge t + missing_of h.bridge t
          → Dec (i < place_of h.bridge t + n) → SameAt k i (put h.store) (put g.store) ⊎ Gap (tag_at x) k i
      own i l m (yes z) = inl (come i l z)
      own i l m (no z) = inr (rest i (omega arith) m)

      filled : (i : ℕ) (q : Gap (tag_at h.bridge) k i) → Dec (q.tag ≡ t) → SameAt k i (put h.store) (put g.store) ⊎ Gap (tag_at x) k i
      filled i q (yes e) = own i (rw e at q.from) (rw e at q.to) (dec_lt i (place_of h.bridge t + n))
      filled i q (no d) = inr (gap_of q (a.tags q.tag d))

      put_shown : Shown k (slot_at h.bridge k) (Gap (tag_at x) k) (put h.store) (put g.store)
      put_shown = shown_still stays (λ i q. filled i q (ℕ_discrete q.tag t)) (p.bytes k w.small)

    -- what the tag misses after a part of it has come
    part_rest : {row : ℕ → Tag} → n < missing_of h.bridge t → row t ≡ counted_tag n (tag_at h.bridge t)
        → (i : ℕ) → place_of h.bridge t + n ≤ i → i < place_of h.bridge t + missing_of h.bridge t → Gap row k i
    part_rest l e i a b =
        record { tag = t; opened = rw e (λ z. omega arith); owner = same_owner e ∙ w.owner; from = rw e a; to = rw e (omega arith) }

    -- if it is the slot's last piece, no byte is missing any more
    put_last : slot_state h.bridge k ≡ 1 → missing_of h.bridge t ≤ n → ((v : ℕ) → Open h.bridge v → owner_of h.bridge v ≡ k → v ≡ t)
        → (slot_at h.bridge k).cause ≡ 0 → (i : ℕ) → i < min (slot_at h.bridge k).size slot_size → SameAt k i (put h.store) (put g.store)
    put_last s m alone c i l = by ((p.bytes k w.small).part s c i l)
      where
        by : SameAt k i h.store g.store ⊎ Gap (tag_at h.bridge) k i → SameAt k i (put h.store) (put g.store)
        by (inl z) = stays.kept (slot_size * k + i) z
        by (inr q) =
            let e = alone q.tag q.opened q.owner in
            let a : place_of h.bridge t ≤ i = rw e at q.from in
            let b : i < place_of h.bridge t + missing_of h.bridge t = rw e at q.to in
            come i a (omega arith)

  -- both write at the same place
  put_too : (bytes : List ℕ) (n : ℕ) → paste g.store (slot_size * k + place_of g.bridge t) bytes n ≡ paste g.store (slot_size * k + place_of h.bridge t) bytes n
  put_too bytes n = ap (λ a. paste g.store (slot_size * k + a) bytes n) (sym place_same)

  -- ---- a completion

  module _ {x y : Held} {skip : ℕ} {payload : List ℕ} (waits : slot_state h.bridge k ≡ 1)
      (alone : open_pieces h.bridge k ≤ 1 → (v : ℕ) → Open h.bridge v → owner_of h.bridge v ≡ k → v ≡ t) where
    pub serve_pair : {v : Verdict} → ((n : ℕ) → v ≡ Good n → (place_of h.bridge t + n ≤ slot_size) × (n ≤ length (useful_bytes skip n payload)))
        → Serves t k skip payload h x v → Serves t k skip payload g y v → Pair x y
    serve_pair z (good_part n l a e) (good_part _ m b f) =
        let s = useful_bytes skip n payload in
        act_pair p a b (λ o. w.owner) p.twin.core (equal (ap (counted_tag n) (tag_same p.twin t w.opened))) (p.twin.slots k)
        (rw (e, f ∙ put_too s n) (stays n s (z n refl)))
        (λ l'. rw (e, f ∙ put_too s n) (put_shown n s (z n refl) a (part_rest n s (z n refl) l a.tag)))
    serve_pair z (good_last n l a e) (good_last _ m b f) =
        let s = useful_bytes skip n payload in
        close_pair (λ r. shut_tag (counted_tag n r)) (λ r. refl) (freed_cores p.twin.core t) same same a b row_same e
        (f ∙ ap (closed_store k (slot_at g.bridge k)) (put_too s n)) (stays n s (z n refl)) (put_shown n s (z n refl) a (λ i u v. absurd (omega arith)))
        (λ few. put_last n s (z n refl) waits l (alone few))
    serve_pair z (good_part n l a e) (good_last _ m b f) = absurd (omega (arith, like_number (p.twin.tags t)))
    serve_pair z (good_last n l a e) (good_part _ m b f) = absurd (omega (arith, like_number (p.twin.tags t)))
    serve_pair z (poison_part n l a e) (poison_part _ m b f) =
        act_pair p a b (λ o. w.owner) (raised_cores p.twin.core (cause_bit Poison)) (equal (ap (counted_tag n) (tag_same p.twin t w.opened)))
        (λ l'. equal (fault_same (cause_response Poison))) (rw (e, f) still) (λ l'. rw (e, f) (spoiled_shown (cause_response Poison) (cause_not_okay Poison)))
    serve_pair z (poison_last n l a e) (poison_last _ m b f) =
        fail_pair (λ r. shut_tag (counted_tag n r)) (λ r. refl) (freed_cores (raised_cores p.twin.core (cause_bit Poison)) t) (cause_response Poison) (cause_not_okay Poison) a b e f
    serve_pair z (poison_part n l a e) (poison_last _ m b f) = absurd (omega (arith, like_number (p.twin.tags t)))
    serve_pair z (poison_last n l a e) (poison_part _ m b f) = absurd (omega (arith, like_number (p.twin.tags t)))
    serve_pair z (fails why a e) (fails _ b f) =
        fail_pair shut_tag (λ r. refl) (freed_cores (raised_cores p.twin.core (cause_bit why)) t) (cause_response why) (cause_not_okay why) a b e f

-- ---- a completion for the configuration access

pub word_pair : {h g : Held} (p : Pair h g) (t : ℕ) (payload : List ℕ) (v : Verdict) → t < tag_count → slot_count ≤ owner_of h.bridge t → h.bridge.core.config.state ≢ 0
    → Pair (held (config_completed h.bridge t payload v) h.store) (held (config_completed g.bridge t payload v) g.store)
word_pair {h} {g} p t payload v l m n =
    let k = owner_of h.bridge t in
    act_pair p (config_serves h.bridge t k payload v p.twin.early l) (config_serves g.bridge t k payload v p.twin.late l) (λ o. refl)
    (freed_cores (config_cores p.twin.core (equal
    (bare_answer h.bridge.core.config payload v
    ∙ (ap (λ (z : ConfigSlot). config_answer z payload v) (like_equal p.twin.core.config n) ∙ sym (bare_answer g.bridge.core.config payload v))))) t)
    (unused refl refl) (p.twin.slots k) still (λ s. absurd (omega arith))
