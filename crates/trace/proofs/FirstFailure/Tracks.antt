-- The failure that a slot keeps is that of its read's first failed piece in address order: said over rows, the slot's and those of
-- the tags that are open for it.
use Prim.Native.Nat.{ℕ, ◌+◌, ◌-◌, ◌≤◌, ◌<◌}
use mathlib.Core.Path.{◌≡◌, refl, sym, ap, ◌∙◌}
use mathlib.Core.Logic.{◌≢◌}
use mathlib.Core.Option.{Option, none, some}
use mathlib.Core.Bool.{Bool, true, false, cond}
use native.Mathlib.Omega.{arith}
use lib.Dec.{ltb, leb}
use borrow.Author.Tests.{ltb-true, ltb-false, lt-ltb, le-ltb}
use Rattle.burst.proofs.Cut.{div_mono}
use Rattle.verdict.specs.declared.Cause.{Cause}
use Rattle.machine.specs.State.{Tag, Slot, slot_free, slot_count, slot_size, okay}
use Rattle.machine.specs.Verdict.{cause_response}
use Rattle.bridge_laws.specs.Rows.{counted_tag, faulted_slot, finished_slot, closed_slot, fewer_slot, noted_slot}
use Rattle.trace.specs.FirstFailure.{Failure, better, piece_at_place}

-- ---- what becomes of a tag

-- it is open for slot k
pub record For (k : ℕ) (r : Tag) : Type 0 where
  pub some_left : r.missing ≢ 0
  pub owner : r.owner ≡ k

-- it was open for slot k, and has gone on towards the same end
pub record Went (k : ℕ) (r s : Tag) : Type 0 where
  pub was : For k r
  pub on : r.place ≤ s.place
  pub ends : s.place + s.missing ≡ r.place + r.missing

abbrev pub Onward : ℕ → Tag → Tag → Type 0
Onward k r s = For k s → Went k r s

pub stays : (k : ℕ) (r : Tag) → Onward k r r
stays k r q = record { was = q; on = omega arith; ends = refl }

pub counts : (k n : ℕ) (r : Tag) → n < r.missing → Onward k r (counted_tag n r)
counts k n r h q = record { was = record { some_left = λ e. omega arith; owner = q.owner }; on = omega arith; ends = omega arith }

-- ---- and of a slot: it keeps its failure, and does not become free

pub record Left (s x : Slot) : Type 0 where
  pub busy : s.state ≢ slot_free → x.state ≢ slot_free
  pub fault : x.fault ≡ s.fault
  pub cause : x.cause ≡ s.cause

pub left_same : (s : Slot) → Left s s
left_same s = record { busy = λ n. n; fault = refl; cause = refl }

pub left_closed : (s : Slot) → Left s (closed_slot s)
left_closed s = go (leb s.pieces 1)
  where
    go : (z : Bool) → Left s (cond z (finished_slot s) (fewer_slot s))
    go true = record { busy = λ n e. omega arith; fault = refl; cause = refl }
    go false = record { busy = λ n. n; fault = refl; cause = refl }

-- ---- what slot k and its tags tell of the first failure of a read, cut at a limit from an address on

module _ (l a : ℕ) where
  abbrev pub Agrees : Option Failure → Slot → Type 0
  Agrees none s = (s.fault ≡ slot_size) × (s.cause ≡ okay)
  Agrees (some g) s = (s.cause ≡ cause_response g.cause) × (piece_at_place l a s.fault ≡ g.piece)

  -- a piece that is open after its own failure goes on at that place or later
  abbrev pub After : Option Failure → ℕ → ℕ → Type 0
  After none fault p = Unit
  After (some g) fault p = piece_at_place l a p ≡ g.piece → fault ≤ p

  pub record Tracks (k : ℕ) (o : Option Failure) (s : Slot) (r : ℕ → Tag) : Type 0 where
    pub limit : 0 < l
    pub slot : k < slot_count
    pub busy : s.state ≢ slot_free
    pub agrees : Agrees o s
    -- each open tag is in one piece, and no two in the same
    pub one : (t : ℕ) → For k (r t) → piece_at_place l a ((r t).place + (r t).missing - 1) ≡ piece_at_place l a (r t).place
    pub alone : (t : ℕ) → For k (r t) → (u : ℕ) → For k (r u) → piece_at_place l a (r t).place ≡ piece_at_place l a (r u).place → t ≡ u
    pub after : (t : ℕ) → For k (r t) → After o s.fault (r t).place

-- ---- places and pieces

module _ (l a : ℕ) (pos : 0 < l) where
  abbrev at : ℕ → ℕ
  at p = piece_at_place l a p

  at_mono : (p q : ℕ) → p ≤ q → at p ≤ at q
  at_mono p q h = omega (arith, div_mono l (a + p) (a + q) pos (omega arith))

  -- a failure is in an earlier piece just where its place is lower
  earlier : (p fault piece : ℕ) → at fault ≡ piece → (at p ≡ piece → fault ≤ p) → (z : Bool) → ltb p fault ≡ z → ltb (at p) piece ≡ z
  earlier p fault piece e f true i =
      let h = ltb-true p fault i in
      let n : at p ≢ piece = λ d. omega (arith, f d) in
      lt-ltb (at p) piece (omega (arith, at_mono p fault (omega arith)))
  earlier p fault piece e f false i = le-ltb (at p) piece (omega (arith, at_mono fault p (ltb-false p fault i)))

  abbrev failure : ℕ → Cause → Failure
  failure p why = record { piece = at p; cause = why }

  -- so the slot's test finds the better failure
  better_by : (o : Option Failure) (s : Slot) (p : ℕ) (why : Cause) → p < slot_size → Agrees l a o s → After l a o s.fault p
      → better o (failure p why) ≡ cond (ltb p s.fault) (some (failure p why)) o
  better_by none s p why h g f = rw (lt-ltb p s.fault (omega (arith, g.0)))
  better_by (some x) s p why h g f = rw (earlier p s.fault x.piece g.1 f (ltb p s.fault) refl)

  after_on : (o : Option Failure) (fault p q : ℕ) → p ≤ q → at q ≡ at p → After l a o fault p → After l a o fault q
  after_on none fault p q h e w = tt
  after_on (some g) fault p q h e w = λ x. omega (arith, w (sym e ∙ x))

module _ {l a k : ℕ} {o : Option Failure} {s : Slot} {r : ℕ → Tag} (v : Tracks l a k o s r) where
  -- ---- a piece fails at the place of its tag

  module _ (t : ℕ) (why : Cause) (q : For k (r t)) where
    abbrev new : Failure
    new = failure l a v.limit (r t).place why

    failed_by : (z : Bool)
        → Tracks l a k (cond z (some new) o)
        (cond z (noted_slot (r t).place (cause_response why) s) s) r
    failed_by true = record {
      limit = v.limit;
      slot = v.slot;
      busy = v.busy;
      agrees = (refl, refl);
      one = v.one;
      alone = v.alone;
      after = λ u w e. omega (arith, ap (λ i. (r i).place) (v.alone u w t q e));
    }
    failed_by false = v

    pub tracks_failed : (r t).place < slot_size → Tracks l a k (better o new) (faulted_slot (r t).place (cause_response why) s) r
    tracks_failed h = rw (better_by l a v.limit o s (r t).place why h v.agrees (v.after t q)) (failed_by (ltb (r t).place s.fault))

  -- ---- the failure stays, and the open tags go on inside their pieces or close

  module _ {x : Slot} {y : ℕ → Tag} (d : Left s x) (f : (t : ℕ) → Onward k (r t) (y t)) where
    piece : (t : ℕ) → For k (y t) → piece_at_place l a (y t).place ≡ piece_at_place l a (r t).place
    piece t q =
        let w = f t q in
        let n = q.some_left in
        let m = at_mono l a v.limit (y t).place ((r t).place + (r t).missing - 1) (omega arith) in
        omega (arith, at_mono l a v.limit (r t).place (y t).place w.on, v.one t w.was)

    pub tracks_on : Tracks l a k o x y
    tracks_on = record {
      limit = v.limit;
      slot = v.slot;
      busy = d.busy v.busy;
      agrees = agrees o v.agrees;
      one = λ t q. ap (λ n. piece_at_place l a (n - 1)) (f t q).ends ∙ v.one t (f t q).was ∙ sym (piece t q);
      alone = λ t q u w e. v.alone t (f t q).was u (f u w).was (sym (piece t q) ∙ e ∙ piece u w);
      after = λ t q. rw d.fault (after_on l a v.limit o s.fault (r t).place (y t).place (f t q).on (piece t q) (v.after t (f t q).was));
    }
      where
        agrees : (o : Option Failure) → Agrees l a o s → Agrees l a o x
        agrees none g = (d.fault ∙ g.0, d.cause ∙ g.1)
        agrees (some h) g = (d.cause ∙ g.0, ap (piece_at_place l a) d.fault ∙ g.1)
