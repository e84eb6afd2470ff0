-- Requests that go out: their numbers and tags on the wire, and one more request, for which a tag is opened.
use Prim.Native.Nat.{ℕ, zero, suc, ◌+◌, ◌%◌, ◌≤◌, ◌<◌}
use mathlib.Core.Path.{◌≡◌, refl, sym, ap, subst, ◌∙◌}
use mathlib.Core.Logic.{◌≢◌, ◌⊎◌, inl, inr}
use mathlib.Core.List.Memᴰ
use mathlib.Core.List.{List, [], ◌∷◌, map}
use mathlib.Core.Bool.{false}
use native.Mathlib.Omega.{arith}
use native.Mathlib.Nat.{add-zero}
use native.Mathlib.Decide.{ℕ_discrete}
use lib.ListN.{length, get_or}
use borrow.Author.Tests.{eq-eqb, ne_eqb}
use Rattle.bits.specs.Bits.{is_set, clear_bit}
use Rattle.bits.proofs.Bits.{clear_clears}
use Rattle.tags.specs.Tags.{lowest, available}
use Rattle.tags.proofs.Tags.{lowest_is}
use Rattle.burst.specs.Pieces.{addresses}
use Rattle.parts.specs.Cores.{Core}
use Rattle.parts.specs.declared.Pending.{Pending}
use Rattle.machine.specs.State.{Bridge, Tag, Slot, tag_at, tag_count, slot_count}
use Rattle.machine.specs.Completions.{Held}
use Rattle.bridge_laws.specs.Rows.{pending_tag, taken_core}
use Rattle.bridge_laws.specs.Effects.{Acts}
use Rattle.trace.specs.Events.{Event}
use Rattle.trace.specs.FarSide.{Wanted, bytes, word, Ask, Answers, Request, Wire, sending, paired, Some, AllAnswered}
use Rattle.trace.proofs.Tags.Turn.{no_way, some_length}
use Rattle.trace.proofs.Tags.Wire.{At, own_of, OpenFine, TagFine, Labels, Wired}
use Rattle.trace.proofs.Tags.Tagged.{same_tag}

-- ---- on the wire

abbrev pub no_ask : Ask
no_ask = record { tag = 0; wanted = word }

abbrev pub ask_at : List Ask → ℕ → Ask
ask_at l j = get_or l j no_ask

pub sending_count : (l : List Ask) (w : Wire) → (sending w l).count ≡ w.count + length l
sending_count [] w = omega arith
sending_count (a ∷ l) w = omega (arith, sending_count l (sending w (a ∷ [])))

-- a turn more is a request more
pub sending_more : (f : ℕ → Ask) (w : Wire) (s n : ℕ) → sending w (map f (addresses s (suc n))) ≡ sending (sending w (map f (addresses s n))) (f (s + n) ∷ [])
unfolding addresses
sending_more f w s zero = rw (add-zero s)
sending_more f w s (suc n) = let z : s + suc n ≡ suc s + n = omega arith in rw z (sending_more f (sending w (f s ∷ [])) (suc s) n)

pub own_kept : (l : List Ask) (w : Wire) (t : ℕ) → ((j : ℕ) → j < length l → (ask_at l j).tag ≢ t) → own_of (sending w l).live t ≡ own_of w.live t
own_kept [] w t f = refl
own_kept (a ∷ l) w t f = own_kept l (sending w (a ∷ [])) t (λ j h. f (suc j) (omega arith)) ∙ rw (ne_eqb a.tag t (f 0 (omega arith)))

abbrev pub Distinct : List Ask → Type 0
Distinct l = (i j : ℕ) → i < j → j < length l → (ask_at l i).tag ≢ (ask_at l j).tag

pub own_new : (l : List Ask) (w : Wire) (j : ℕ) → Distinct l → j < length l → own_of (sending w l).live (ask_at l j).tag ≡ w.count + j
own_new [] w j d h = absurd (omega arith)
own_new (a ∷ l) w zero d h =
    own_kept l (sending w (a ∷ [])) a.tag (λ j g e. d 0 (suc j) (omega arith) (omega arith) (sym e)) ∙ rw (eq-eqb a.tag a.tag refl, add-zero w.count)
own_new (a ∷ l) w (suc j) d h =
    let z : w.count + suc j ≡ suc w.count + j = omega arith in
    rw z (own_new l (sending w (a ∷ [])) j (λ i k g m. d (suc i) (suc k) (omega arith) (omega arith)) (omega arith))

-- a tag is that of one of them, or of none
abbrev Found : List Ask → ℕ → Type 0
Found l t = ((j : ℕ) × (j < length l) × ((ask_at l j).tag ≡ t)) ⊎ ((j : ℕ) → j < length l → (ask_at l j).tag ≢ t)

pub find : (l : List Ask) (t : ℕ) → Found l t
find [] t = inr (λ j h e. omega arith)
find (a ∷ l) t = by (ℕ_discrete a.tag t) (find l t)
  where
    neither : a.tag ≢ t → ((j : ℕ) → j < length l → (ask_at l j).tag ≢ t) → (j : ℕ) → j < suc (length l) → (ask_at (a ∷ l) j).tag ≢ t
    neither n f zero h = n
    neither n f (suc j) h = f j (omega arith)

    by : Dec (a.tag ≡ t) → Found l t → Found (a ∷ l) t
    by (yes e) r = inl (0, omega arith, e)
    by (no n) (inl (j, h, e)) = inl (suc j, omega arith, e)
    by (no n) (inr f) = inr (neither n f)

-- what is kept of a request is what it wants
abbrev pub Pends : Pending → Wanted → Type 0
Pends p (bytes a n) = (p.slot < slot_count) × (p.missing ≡ n) × (a % 128 ≡ p.next % 128)
Pends p word = slot_count ≤ p.slot

module _ (sent : ℕ → List (List ℕ)) where
  pub answered_at : (l : List Ask) (i j : ℕ) → AllAnswered sent i l → j < length l → Answers (ask_at l j).wanted (sent (i + j))
  answered_at [] i j a h = absurd (omega arith)
  answered_at (x ∷ l) i zero a h = rw (add-zero i) a.0
  answered_at (x ∷ l) i (suc j) a h =
      let z : i + suc j ≡ suc i + j = omega arith in
      rw z (answered_at l (suc i) j a.1 (omega arith))

  -- ---- one more request, with tag t

  module _ (w : Wire) (es : List Event) (t : ℕ) where
    abbrev more : Wire
    more = record { count = suc w.count; live = record { number = w.count; tag = t } ∷ w.live }

    labels_more : Labels sent w es → Labels sent more es
    labels_more v = record { known = known; once = once; future = λ i l. v.future i (omega arith) }
      where
        known : (i u : ℕ) → At i u more.live → i < suc w.count
        known i u (Memᴰ.head e) = omega (arith, ap (λ (r : Request). r.number) e)
        known i u (Memᴰ.tail m) = omega (arith, v.known i u m)

        once : (i a b : ℕ) → At i a more.live → At i b more.live → a ≡ b
        once i a b (Memᴰ.head e) (Memᴰ.head f) = ap (λ (r : Request). r.tag) (e ∙ sym f)
        once i a b (Memᴰ.head e) (Memᴰ.tail m) = absurd (omega (arith, ap (λ (r : Request). r.number) e, v.known i b m))
        once i a b (Memᴰ.tail m) (Memᴰ.head e) = absurd (omega (arith, ap (λ (r : Request). r.number) e, v.known i a m))
        once i a b (Memᴰ.tail m) (Memᴰ.tail n) = v.once i a b m n

    -- any other tag
    other_fine : (b : Bridge) (u : ℕ) → u ≢ t → TagFine sent b w es u → TagFine sent b more es u
    other_fine b u n f =
        record {
          quiet = λ s i m. f.quiet s i (old i m);
          others = λ i m d. f.others i (old i m) (rw z at d);
          opens = λ m. let o = f.opens m in record { here = rw z (Memᴰ.tail o.here); stream = λ g. rw z (o.stream g); word = λ g. rw z (o.word g) };
        }
      where
        z : own_of more.live u ≡ own_of w.live u
        z = rw (ne_eqb t u (λ y. n (sym y)))

        old : (i : ℕ) → At i u more.live → At i u w.live
        old i (Memᴰ.head e) = absurd (n (ap (λ (r : Request). r.tag) e))
        old i (Memᴰ.tail m) = m

    own_more : own_of more.live t ≡ w.count
    own_more = rw (eq-eqb t t refl)

    -- the row that is opened: all of the request's list is still to come
    new_open : (now : ℕ) (p : Pending) (q : Wanted) → Pends p q → Answers q (sent w.count) → Some (paired w.count es) (sent w.count) → OpenFine sent (pending_tag now p) more es t
    new_open now p (bytes a n) o r c =
        record {
          here = rw own_more (Memᴰ.head refl);
          stream = λ g. rw (own_more, o.1)
              (record { whole = n; next = a; flow = record { got = []; rest = sent w.count; size = omega arith; bytes = refl; sends = r; comes = c }; low = o.2 });
          word = λ g. absurd (omega (arith, o.0));
        }
    new_open now p word o r c =
        record { here = rw own_more (Memᴰ.head refl); stream = λ g. absurd (omega arith); word = λ g. rw own_more (omega (arith, some_length c, r)) }

    -- its tag, of which nothing was to come
    new_fine : {r : Tag} (x : Bridge) → OpenFine sent r more es t → tag_at x t ≡ r → is_set x.core.free t ≡ false → ((i : ℕ) → At i t w.live → paired i es ≡ []) → TagFine sent x more es t
    new_fine x o e u f =
        record {
          quiet = λ s. no_way (sym s ∙ u);
          others = λ i m n. others i m (rw own_more at n);
          opens = λ m. subst (λ k. OpenFine sent k more es t) (sym e) o;
        }
      where
        others : (i : ℕ) → At i t more.live → i ≢ w.count → paired i es ≡ []
        others i (Memᴰ.head y) n = absurd (n (ap (λ (r : Request). r.number) y))
        others i (Memᴰ.tail m) n = f i m

  -- the lowest free tag is opened for it
  pub opens_wired : {h x : Held} {k : ℕ} {g : Slot → Slot} {c : Core → Core} (w : Wire) (es : List Event) (now : ℕ) (p : Pending) (q : Wanted)
      → 0 < available tag_count h.bridge.core.free
      → Acts (lowest tag_count h.bridge.core.free) k (λ o. pending_tag now p) g c h.bridge x.bridge
      → (c h.bridge.core).free ≡ (taken_core h.bridge.core).free
      → Pends p q → Answers q (sent w.count) → Wired sent h w es
      → Wired sent x (sending w (record { tag = lowest tag_count h.bridge.core.free; wanted = q } ∷ [])) es
  opens_wired {h} {x} w es now p q some a z o r v =
      record { labels = labels_more w es t v.labels; tags = λ u. by u (ℕ_discrete u t) }
    where
      t : ℕ
      t = lowest tag_count h.bridge.core.free

      taken : x.bridge.core.free ≡ clear_bit h.bridge.core.free (lowest tag_count h.bridge.core.free)
      taken = ap (λ (d : Core). d.free) a.core ∙ z

      by : (u : ℕ) → Dec (u ≡ lowest tag_count h.bridge.core.free) → TagFine sent x.bridge (more w es (lowest tag_count h.bridge.core.free)) es u
      by u (yes y) =
          rw y
          (new_fine w es t x.bridge (new_open w es t now p q o r (v.labels.future w.count (omega arith))) a.tag (ap (λ f. is_set f t) taken ∙ (clear_clears h.bridge.core.free t).here)
          ((v.tags t).quiet (lowest_is tag_count h.bridge.core.free some).tag.free))
      by u (no n) = same_tag sent (a.tags u n) (ap (λ f. is_set f u) taken ∙ (clear_clears h.bridge.core.free t).others u n) (other_fine w es t h.bridge u n (v.tags u))
