-- What comes for a tag of the read itself: good data goes where it belongs, all else spoils the read.
use Prim.Native.Nat.{ℕ, ◌+◌, ◌-◌, ◌*◌, ◌%◌, ◌≤◌, ◌<◌}
use mathlib.Core.Path.{◌≡◌, refl, sym, ap, subst, ◌∙◌}
use mathlib.Core.Logic.{◌≢◌, ◌⊎◌, inl, inr, by_cases}
use mathlib.Core.List.{List, [], ◌∷◌, ◌++◌}
use native.Mathlib.Omega.{arith}
use native.Mathlib.Decide.{ℕ_discrete, dec_lt}
use lib.ListN.{length, get_or, drop, length-append, get_or-append}
use lib.Seq.{paste, get_or-append-add}
use lib.Dec.{leb}
use borrow.Author.Tests.{eq-eqb}
use Rattle.std.specs.Prelude.{Ok}
use Rattle.tlp.specs.declared.completion.Completion.{Completion}
use Rattle.burst.specs.Bursts.{length_of}
use Rattle.burst.proofs.Tiling.{piece_within}
use Rattle.verdict.specs.declared.Cause.{Cause}
use Rattle.verdict.specs.declared.Cause.TheVariants.{Poison, Timeout}
use Rattle.verdict.specs.declared.Verdict.{Verdict}
use Rattle.verdict.specs.declared.Verdict.TheVariants.{Good}
use Rattle.parts.specs.Cores.{Core}
use Rattle.machine.specs.State.{Tag, Slot, tag_at, slot_at, missing_of, owner_of, place_of, next_address}
use Rattle.machine.specs.Verdict.{useful, memory_verdict, cause_response}
use Rattle.machine.specs.Completions.{Held, useful_bytes, completion_of}
use Rattle.bridge_laws.specs.Rows.{faulted_slot, closed_slot, closed_store}
use Rattle.bridge_laws.specs.Effects.{Acts, Serves, good_part, good_last, poison_part, poison_last, fails, Expires, memory, config}
use Rattle.bridge_laws.proofs.Parts.{same_missing, same_owner, same_place}
use Rattle.trace.specs.Events.{Event, completion}
use Rattle.trace.specs.FarSide.{bytes_sent, Wire}
use Rattle.trace.specs.Sound.{Sound}
use Rattle.trace.proofs.Tags.Turn.{useful_length, sends_none}
use Rattle.trace.proofs.Tags.Wire.{own_of, Flow, Flows, flow_next, flow_later}
use Rattle.trace.proofs.Tags.Comes.{Data, verdict_data}
use Rattle.trace.proofs.Bytes.Joined.{one_piece}
use Rattle.trace.proofs.Bytes.Put.{either, put_here, put_outside}
use Rattle.trace.proofs.Bytes.Stage.{Spoilt, Sane, closed_spoilt, closed_sane, Waits, waits_same, Read, count, piece, place, part, Right, Mine, mine_stays, Whole, Clean, Stage, spoilt, clean, fails as failure}

-- a slot in which no piece has failed is not zeroed
closed_store_lem : (k n : ℕ) (s : Slot) (d : List ℕ) → Sane n s → closed_store k s d ≡ d
closed_store_lem k n s d p = rw (eq-eqb s.cause 0 p.cause) (either (λ (y : List ℕ). y ≡ d) (leb s.pieces 1) refl refl)

-- a completion for a tag of the read: its label is that of the tag's own request
module _ (r : Read) (h : Held) (w : Wire) (es : List Event) (s : List ℕ) (c : Completion) (e : completion_of s ≡ Ok c) (sound : Sound h) (waits : Waits r.slot h.bridge c.tag) where
  abbrev gone : ℕ
  gone = missing_of h.bridge c.tag

  abbrev at : ℕ
  at = place_of h.bridge c.tag

  abbrev u : ℕ
  u = useful c (missing_of h.bridge c.tag)

  abbrev came : List ℕ
  came = useful_bytes (c.lower % 4) (useful c (missing_of h.bridge c.tag)) (drop 12 s)

  abbrev now : List Event
  now = completion (own_of w.live c.tag) s ∷ es

  -- ---- good data

  module _ (n : ℕ) (d : Data c gone (next_address h.bridge c.tag) n) (old : Clean r h w now) where
    abbrev j : ℕ
    j = (old.mine c.tag waits).0

    low : j < count r
    low = (old.mine c.tag waits).1

    mine : Mine r h.store now (own_of w.live c.tag) (tag_at h.bridge c.tag) j
    mine = (old.mine c.tag waits).2

    flow : Flow r.sent (completion (r.first + j) s ∷ es) (r.first + j) (piece r j).length mine.next gone
    flow = subst (λ (x : ℕ). Flow r.sent (completion x s ∷ es) (r.first + j) (piece r j).length mine.next gone) mine.own mine.flow

    flows : Flows r.sent es (r.first + j) (piece r j).length mine.next gone c s flow
    flows = flow_next r.sent es (r.first + j) (piece r j).length mine.next gone c s flow e d.carry d.count

    -- what the request's list sends: the bytes that had come, these, and what is left
    parts : part r j ≡ (flow.got ++ came) ++ bytes_sent (gone - u) flows.after.rest
    unfolding part
    parts = sym flows.after.bytes ∙ ap (λ (y : List ℕ). y ++ bytes_sent (gone - u) flows.after.rest) flows.put

    byte_now : (x : ℕ) → x < u → get_or (part r j) (length flow.got + x) 0 ≡ get_or came x 0
    byte_now x g =
        ap (λ (v : List ℕ). get_or v (length flow.got + x) 0) parts
        ∙ (get_or-append (flow.got ++ came) (bytes_sent (gone - u) flows.after.rest) 0 (length flow.got + x) (omega (arith, useful_length gone s c e, length-append flow.got came))
        ∙ get_or-append-add flow.got came x 0)

    -- the last of them are the piece's last
    last_exact : gone - u ≡ 0 → length (part r j) ≡ (piece r j).length
    last_exact z =
        let f = flows.after in
        let n : f.rest ≡ [] = sends_none (mine.next + u) f.rest (rw z at f.sends) in
        let b : length (bytes_sent (gone - u) f.rest) ≡ 0 = ap (λ (l : List (List ℕ)). length (bytes_sent (gone - u) l)) n in
        ap length parts ∙ omega (arith, f.size, ap length flows.put, length-append (flow.got ++ came) (bytes_sent (gone - u) f.rest))

    -- they are put into the slot at the tag's place
    module _ (x : Held) (stored : x.store ≡ paste h.store (4096 * r.slot + at) (useful_bytes (c.lower % 4) n (drop 12 s)) n) where
      put : x.store ≡ paste h.store (4096 * r.slot + at) came u
      put = subst (λ (i : ℕ). x.store ≡ paste h.store (4096 * r.slot + at) (useful_bytes (c.lower % 4) i (drop 12 s)) i) d.amount stored

      room : 4096 * r.slot + at + u ≤ length h.store
      room = omega (arith, sound.room, (sound.tags c.tag waits.0).whole, r.small)

      right_put : (i y : ℕ) → i < count r → y < (piece r i).length → at ≤ place r i + y → place r i + y < at + u → Right r x.store i y
      right_put i y l g from to =
          let z = place r i + y - at in
          let k = 4096 * r.slot in
          let a = r.burst.start.0 in
          let n = length flow.got in
          let f = piece_within r.limit a (length_of r.burst) i r.some l in
          let f' = piece_within r.limit a (length_of r.burst) j r.some low in
          let here : at ≡ place r j + n = omega (arith, mine.ends, flow.size) in
          let o : i ≡ j = one_piece r.limit a (length_of r.burst) r.some i j y (n + z) g (omega (arith, flow.size)) (omega arith) in
          let q : n + z ≡ y = omega (arith, ap (place r) o) in
          let p : k + (place r i + y) ≡ k + at + z = omega arith in
          ap (λ (v : List ℕ). get_or v (k + (place r i + y)) 0) put
          ∙ (ap (λ (v : ℕ). get_or (paste h.store (k + at) came u) v 0) p
          ∙ (put_here h.store (k + at) came u room (omega (arith, useful_length gone s c e)) z (omega arith)
          ∙ (sym (byte_now z (omega arith)) ∙ (ap (λ (v : ℕ). get_or (part r j) v 0) q ∙ ap (λ (v : ℕ). get_or (part r v) y 0) (sym o)))))

      outside : (y : ℕ) → (4096 * r.slot + y < 4096 * r.slot + at) ⊎ (4096 * r.slot + at + u ≤ 4096 * r.slot + y) → get_or x.store (4096 * r.slot + y) 0 ≡ get_or h.store (4096 * r.slot + y) 0
      outside y o = ap (λ (v : List ℕ). get_or v (4096 * r.slot + y) 0) put ∙ put_outside h.store (4096 * r.slot + at) came u room (omega (arith, useful_length gone s c e)) (4096 * r.slot + y) o

      -- a byte is right that was so wherever they do not lie
      right_after : (i y : ℕ) → i < count r → y < (piece r i).length → (place r i + y < at → Right r h.store i y) → (at + u ≤ place r i + y → Right r h.store i y) → Right r x.store i y
      right_after i y l g before after =
          by_cases (dec_lt (place r i + y) at) (λ f. outside (place r i + y) (inl (omega arith)) ∙ before f)
          (λ f. by_cases (dec_lt (place r i + y) (at + u)) (λ n. right_put i y l g (omega arith) n) (λ n. outside (place r i + y) (inr (omega arith)) ∙ after (omega arith)))

      right_stays : (i : ℕ) → i < count r → (y : ℕ) → y < (piece r i).length → Right r h.store i y → Right r x.store i y
      right_stays i l y g b = right_after i y l g (λ f. b) (λ f. b)

      -- the piece's own bytes, up to the tag's new place
      right_now : (y : ℕ) → y < (piece r j).length → place r j + y < at + u → Right r x.store j y
      right_now y g l = right_after j y low g (mine.bytes y) (λ f. absurd (omega arith))

      -- the tag counts down
      module _ {f : Tag → Tag} {g : Slot → Slot} {k : Core → Core} (a : Acts c.tag r.slot f g k h.bridge x.bridge)
          (less : (f (tag_at h.bridge c.tag)).missing ≡ gone - n) (moved : (f (tag_at h.bridge c.tag)).place ≡ at + n) (same : (f (tag_at h.bridge c.tag)).owner ≡ owner_of h.bridge c.tag)
          (sane : Sane (length_of r.burst) (g (slot_at h.bridge r.slot))) where
        left : missing_of x.bridge c.tag ≡ gone - u
        left = same_missing a.tag ∙ (less ∙ ap (λ (i : ℕ). gone - i) d.amount)

        here : place_of x.bridge c.tag ≡ at + u
        here = same_place a.tag ∙ (moved ∙ ap (λ (i : ℕ). at + i) d.amount)

        mine_now : Mine r x.store es (own_of w.live c.tag) (tag_at x.bridge c.tag) j
        mine_now =
            record {
              own = mine.own;
              next = mine.next + u;
              flow = subst (λ (y : ℕ). Flow r.sent es (r.first + j) (piece r j).length (mine.next + u) y) (sym left) flows.after;
              ends = omega (arith, mine.ends, left, here);
              bytes = λ y l. right_now y (omega (arith, mine.ends, here)) (omega (arith, here));
            }

        mines : (v : ℕ) → Waits r.slot x.bridge v → Dec (v ≡ c.tag) → (i : ℕ) × (i < count r) × Mine r x.store es (own_of w.live v) (tag_at x.bridge v) i
        mines v m (yes y) = (j, low, subst (λ (v : ℕ). Mine r x.store es (own_of w.live v) (tag_at x.bridge v) j) (sym y) mine_now)
        mines v m (no o) =
            let y = old.mine v (waits_same r.slot x.bridge h.bridge v (sym (a.tags v o)) m) in
            (y.0, y.1, mine_stays r (flow_later r.sent (completion (own_of w.live c.tag) s) es) refl (a.tags v o) (right_stays y.0 y.1) y.2)

        -- a piece for which no tag waits: this one, or one that had come
        wholes : (i : ℕ) → i < count r → ((v : ℕ) → Waits r.slot x.bridge v → own_of w.live v ≢ r.first + i) → Dec (i ≡ j) → Dec (missing_of x.bridge c.tag ≡ 0) → Whole r x.store i
        wholes i l n (yes y) (yes z) = subst (Whole r x.store) (sym y) (record { exact = last_exact (sym left ∙ z); bytes = λ v m. right_now v m (omega (arith, mine.ends, left)) })
        wholes i l n (yes y) (no o) = absurd (n c.tag (o, same_owner a.tag ∙ (same ∙ waits.1)) (omega (arith, mine.own)))
        wholes i l n (no o) z =
            let y = old.whole i l (λ v m b.
            let z : v ≢ c.tag = λ p. o (omega (arith, mine.own, ap (own_of w.live) p)) in
            n v (waits_same r.slot h.bridge x.bridge v (a.tags v z) m) b) in
            record { exact = y.exact; bytes = λ v g. right_stays i l v g (y.bytes v g) }

        filled : Clean r x w es
        filled =
            record {
              slot = subst (Sane (length_of r.burst)) (sym a.slot) sane;
              mine = λ v m. mines v m (ℕ_discrete v c.tag);
              whole = λ i l n. wholes i l n (ℕ_discrete i j) (ℕ_discrete (missing_of x.bridge c.tag) 0);
            }

  -- ---- whatever the verdict

  fault : (why : Cause) → Stage r h w now → Spoilt (faulted_slot at (cause_response why) (slot_at h.bridge r.slot))
  fault why v = failure r at why (omega (arith, (sound.tags c.tag waits.0).whole, waits.0)) v

  judged : (n : ℕ) → memory_verdict c gone (next_address h.bridge c.tag) ≡ Good n → Data c gone (next_address h.bridge c.tag) n
  judged n v = verdict_data c gone (next_address h.bridge c.tag) n (Good n) v (inl refl)

  pub receives : (v : Verdict) (x : Held) → memory_verdict c (missing_of h.bridge c.tag) (next_address h.bridge c.tag) ≡ v → Serves c.tag r.slot (c.lower % 4) (drop 12 s) h x v
      → Stage r h w (completion (own_of w.live c.tag) s ∷ es) → Stage r x w es
  receives v x y (good_part n l a p) (spoilt q) = spoilt (subst Spoilt (sym a.slot) q)
  receives v x y (good_part n l a p) (clean q) = clean (filled n (judged n y) q x p a refl refl refl q.slot)
  receives v x y (good_last n l a p) (spoilt q) = spoilt (subst Spoilt (sym a.slot) (closed_spoilt q))
  receives v x y (good_last n l a p) (clean q) =
      clean (filled n (judged n y) q x (p ∙ closed_store_lem r.slot (length_of r.burst) (slot_at h.bridge r.slot) _ q.slot) a (omega arith) refl refl (closed_sane q.slot))
  receives v x y (poison_part n l a p) q = spoilt (subst Spoilt (sym a.slot) (fault Poison q))
  receives v x y (poison_last n l a p) q = spoilt (subst Spoilt (sym a.slot) (closed_spoilt (fault Poison q)))
  receives v x y (fails why a p) q = spoilt (subst Spoilt (sym a.slot) (closed_spoilt (fault why q)))

-- its time is up
pub lapses : (r : Read) (h x : Held) (w : Wire) (es : List Event) (t : ℕ) → place_of h.bridge t < 4096 → owner_of h.bridge t ≡ r.slot → Expires t h x → Stage r h w es → Stage r x w es
lapses r h x w es t l o (memory m a p) v =
    let z : slot_at x.bridge r.slot ≡ closed_slot (faulted_slot (place_of h.bridge t) (cause_response Timeout) (slot_at h.bridge r.slot)) = rw o at a.slot in
    spoilt (subst Spoilt (sym z) (closed_spoilt (failure r (place_of h.bridge t) Timeout l v)))
lapses r h x w es t l o (config m a p) v = absurd (omega (arith, r.small))
