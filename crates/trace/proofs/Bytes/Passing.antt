-- Events that concern a read in nothing: of another slot's tag, another read, an access, a release.
use Prim.Native.Nat.{ℕ, ◌+◌, ◌*◌, ◌%◌, ◌≤◌, ◌<◌}
use mathlib.Core.Path.{◌≡◌, refl, sym, ap, subst, ◌∙◌}
use mathlib.Core.Logic.{◌≢◌, ◌⊎◌, inl, inr, ⊎_elim, by_cases}
use mathlib.Core.List.{List}
use mathlib.Core.Bool.{true}
use native.Mathlib.Omega.{arith}
use native.Mathlib.Decide.{ℕ_discrete, dec_lt}
use lib.ListN.{length, get_or, drop}
use lib.Seq.{paste}
use Rattle.bits.specs.Bits.{is_set}
use Rattle.tags.specs.Tags.{lowest}
use Rattle.tags.proofs.Tags.{lowest_is}
use Rattle.std.specs.Prelude.{Ok}
use Rattle.tlp.specs.declared.completion.Completion.{Completion}
use Rattle.burst.specs.declared.Burst.{Burst}
use Rattle.verdict.specs.declared.Cause.{Cause}
use Rattle.verdict.specs.declared.Cause.TheVariants.{Poison, Timeout}
use Rattle.verdict.specs.declared.Verdict.{Verdict}
use Rattle.verdict.specs.declared.Verdict.TheVariants.{Good}
use Rattle.parts.specs.Cores.{Core}
use Rattle.machine.specs.State.{Bridge, Tag, Slot, tag_at, slot_at, tag_count, core_in, missing_of, owner_of, place_of, next_address, Open, free_slot}
use Rattle.machine.specs.Memory.{pieces_of, read_refusal, read_bridge}
use Rattle.machine.specs.Config.{Access, route_of, goes_out, config_refusal, routed_bridge}
use Rattle.machine.specs.Verdict.{useful, memory_verdict, cause_response}
use Rattle.machine.specs.Completions.{store_size, Held, held, useful_bytes, completion_of}
use Rattle.machine.specs.Take.{slot_freed}
use Rattle.machine.proofs.Configs.{passed}
use Rattle.machine.proofs.Judging.{never}
use Rattle.bridge_laws.specs.MemoryLaws.{Tables, tag_of}
use Rattle.bridge_laws.specs.CompletionLaws.{BytesOnly}
use Rattle.bridge_laws.specs.Rows.{faulted_slot}
use Rattle.bridge_laws.specs.Effects.{Acts, Serves, good_part, good_last, poison_part, poison_last, fails, Expires, memory, config}
use Rattle.bridge_laws.proofs.Parts.{same_owner}
use Rattle.bridge_laws.proofs.Effects.{released_acts, routed_acts}
use Rattle.bridge_laws.proofs.ReadTurns.{each_turn}
use Rattle.bridge_laws.proofs.Kept.{accepted_read_keeps}
use Rattle.bridge_laws.proofs.Stores.{paste_only, closed_bytes}
use Rattle.trace.specs.FarSide.{Wire, sending}
use Rattle.trace.specs.Sound.{Sound}
use Rattle.trace.proofs.Tags.Turn.{useful_length}
use Rattle.trace.proofs.Tags.Wire.{own_of}
use Rattle.trace.proofs.Tags.Asks.{own_kept}
use Rattle.trace.proofs.Tags.Comes.{verdict_data}
use Rattle.trace.proofs.Tags.Opened.{turns, turns_many, turn_is, free_slot_free, opens_read, sends_read, word_ask}
use Rattle.trace.proofs.Bytes.Put.{apart, only_none, only_then}
use Rattle.trace.proofs.Bytes.Stage.{Waits, waits_same, BytesSame, Read, Aside}

-- slot k, when its piece of tag t has failed
abbrev failed_in : Bridge → ℕ → ℕ → Cause → Slot
failed_in b k t why = faulted_slot (place_of b t) (cause_response why) (slot_at b k)

-- ---- an accepted read, by rows

-- the row of a tag is as it was, or it is one of the i lowest free tags
abbrev pub Row : Bridge → ℕ → Bridge → ℕ → Type 0
Row b i x u = (tag_at x u ≡ tag_at b u) ⊎ ((j : ℕ) × (j < i) × (tag_of b j ≡ u))

pub read_rows : (b : Bridge) (q : Burst) (room : ℕ) → Tables b → read_refusal b q room ≡ 0 → (u : ℕ) → Row b (pieces_of b.settings.reads q) (read_bridge b q) u
read_rows b q room v e =
    each_turn b q room v e (λ i x. (u : ℕ) → Row b i x u) (λ x a u. inl (a u).tag)
    (λ i x y l some t a p u. by_cases (ℕ_discrete u (lowest tag_count x.core.free)) (λ z. inr (i, omega arith, sym t ∙ sym z))
    (λ d. ⊎_elim (λ z. inl (a.tags u d ∙ z)) (λ o. inr (o.0, omega (arith, o.1), o.2)) (p u)))

-- ---- effects

module _ (r : Read) (h : Held) (w : Wire) where
  -- every tag has its row
  same_rows : (x : Bridge) → slot_at x r.slot ≡ slot_at h.bridge r.slot → ((t : ℕ) → tag_at x t ≡ tag_at h.bridge t) → Aside r h (held x h.store) w w
  same_rows x e f =
      record { slot = e; bytes = λ y l. refl; tags = λ t m. f t; own = λ t m. refl; back = λ t m. waits_same r.slot x h.bridge t (sym (f t)) m }

  -- another core
  pub still : (c : Core) → Aside r h (held (core_in c h.bridge) h.store) w w
  still c = same_rows (core_in c h.bridge) refl (λ t. refl)

  -- no tag waits for the read
  pub quiet : (x : Held) (z : Wire) → slot_at x.bridge r.slot ≡ slot_at h.bridge r.slot → BytesSame r.slot h x
      → ((t : ℕ) → Waits r.slot h.bridge t → ⊥) → ((t : ℕ) → Waits r.slot x.bridge t → ⊥) → Aside r h x w z
  quiet x z e f n o = record { slot = e; bytes = f; tags = λ t m. absurd (n t m); own = λ t m. absurd (n t m); back = λ t m. absurd (o t m) }

  module _ {t j : ℕ} {f : Tag → Tag} {g : Slot → Slot} {c : Core → Core} (x : Held) (a : Acts t j f g c h.bridge x.bridge) (slot : slot_at x.bridge r.slot ≡ slot_at h.bridge r.slot) where
    -- an effect on a tag that does not wait for the read before it, nor after it
    other_tag : (z : Wire) → BytesSame r.slot h x → ((u : ℕ) → Waits r.slot h.bridge u → own_of z.live u ≡ own_of w.live u)
        → (Waits r.slot h.bridge t → ⊥) → (Waits r.slot x.bridge t → ⊥) → Aside r h x w z
    other_tag z bytes own n o =
        record {
          slot = slot;
          bytes = bytes;
          tags = λ u m. a.tags u (λ e. n (subst (Waits r.slot h.bridge) e m));
          own = own;
          back = λ u m. waits_same r.slot x.bridge h.bridge u (sym (a.tags u (λ e. o (subst (Waits r.slot x.bridge) e m)))) m;
        }

    -- on a tag that has another slot
    pub other_slot : owner_of h.bridge t ≢ r.slot → owner_of x.bridge t ≡ owner_of h.bridge t → BytesSame r.slot h x → Aside r h x w w
    other_slot n e bytes = other_tag w bytes (λ u m. refl) (λ m. n m.1) (λ m. n (sym e ∙ m.1))

  -- on a tag of slot j, and on slot j
  other_read : {t j : ℕ} {f : Tag → Tag} {g : Slot → Slot} {c : Core → Core} (x : Held) → Acts t j f g c h.bridge x.bridge → owner_of h.bridge t ≡ j → j ≢ r.slot
      → owner_of x.bridge t ≡ owner_of h.bridge t → BytesOnly j h.store x.store → Aside r h x w w
  other_read {t} {j} x a o n e p =
      let d : r.slot ≢ j = λ z. n (sym z) in
      other_slot x a (a.slots r.slot d) (λ z. n (sym o ∙ z)) e (λ y l. p.bytes (4096 * r.slot + y) (apart r.slot j y d l))

  -- ---- a timeout, or a completion, of another slot's tag

  pub expires_aside : (t : ℕ) (x : Held) → store_size ≤ length h.store → owner_of h.bridge t ≢ r.slot → Expires t h x → Aside r h x w w
  expires_aside t x room n (memory l a p) = other_read x a refl n (same_owner a.tag) (rw p (closed_bytes (owner_of h.bridge t) (failed_in h.bridge (owner_of h.bridge t) t Timeout) h.store l room))
  expires_aside t x room n (config l a p) = other_slot x (a r.slot) (a r.slot).slot n (same_owner (a r.slot).tag) (λ y l. rw p)

  pub expires_sizes : (t : ℕ) (x : Held) → store_size ≤ length h.store → Expires t h x → Tables x.bridge × (store_size ≤ length x.store)
  expires_sizes t x room (memory l a p) = (a.tables, omega (arith, ap length p, (closed_bytes (owner_of h.bridge t) (failed_in h.bridge (owner_of h.bridge t) t Timeout) h.store l room).room))
  expires_sizes t x room (config l a p) = ((a 0).tables, omega (arith, ap length p))

  module _ (s : List ℕ) (c : Completion) (e : completion_of s ≡ Ok c) (sound : Sound h) (m : Open h.bridge c.tag) (k : ℕ) (l : k < 8) (o : owner_of h.bridge c.tag ≡ k) (n : k ≢ r.slot) where
    -- good data lies in its slot
    data_only : (n : ℕ) → memory_verdict c (missing_of h.bridge c.tag) (next_address h.bridge c.tag) ≡ Good n
        → BytesOnly k h.store (paste h.store (4096 * k + place_of h.bridge c.tag) (useful_bytes (c.lower % 4) n (drop 12 s)) n)
    data_only n j =
        let b = h.bridge in
        let t = c.tag in
        let u = useful c (missing_of b t) in
        rw (verdict_data c (missing_of b t) (next_address b t) n (Good n) j (inl refl)).amount
        (paste_only k (place_of b t) u h.store (useful_bytes (c.lower % 4) u (drop 12 s)) (omega (arith, (sound.tags t m).whole)) (omega (arith, (sound.tags t m).whole, sound.room)) (omega (arith, useful_length (missing_of b t) s c e)))

    pub serves_aside : (v : Verdict) (x : Held) → memory_verdict c (missing_of h.bridge c.tag) (next_address h.bridge c.tag) ≡ v → Serves c.tag k (c.lower % 4) (drop 12 s) h x v → Aside r h x w w
    serves_aside v x j (good_part i y a p) = other_read x a o n (same_owner a.tag) (rw p (data_only i j))
    serves_aside v x j (good_last i y a p) =
        let q = data_only i j in
        other_read x a o n (same_owner a.tag) (rw p (only_then q (closed_bytes k (slot_at h.bridge k) _ l (omega (arith, q.room, sound.room)))))
    serves_aside v x j (poison_part i y a p) = other_read x a o n (same_owner a.tag) (rw p (only_none k h.store))
    serves_aside v x j (poison_last i y a p) = other_read x a o n (same_owner a.tag) (rw p (closed_bytes k (failed_in h.bridge k c.tag Poison) h.store l sound.room))
    serves_aside v x j (fails why a p) = other_read x a o n (same_owner a.tag) (rw p (closed_bytes k (failed_in h.bridge k c.tag why) h.store l sound.room))

  -- ---- calls

  module _ (s : Sound h) where
    -- a release of another slot
    pub release_aside : (j : ℕ) → r.slot ≢ j → Aside r h (held (slot_freed j h.bridge) h.store) w w
    release_aside j n =
        let b = h.bridge in
        let v = s.sizes in
        by_cases (dec_lt j 8) (λ l. same_rows (slot_freed j b) (((released_acts 0 j b v).0 l).slots r.slot n) (λ t. ((released_acts t j b v).0 l).tag))
        (λ l. same_rows (slot_freed j b) (((released_acts 0 j b v).1 (omega arith)).slots r.slot n) (λ t. ((released_acts t j b v).1 (omega arith)).tag))

    -- the tag of a request that goes out was free: none that waits is
    not_free : (t u : ℕ) → is_set h.bridge.core.free u ≡ true → Waits r.slot h.bridge t → u ≢ t
    not_free t u f m e = never (sym f ∙ (ap (is_set h.bridge.core.free) e ∙ (s.tags t m.0).used))

    pub read_aside : (q : Burst) (room : ℕ) → read_refusal h.bridge q room ≡ 0 → (slot_at h.bridge r.slot).state ≢ 0 → Aside r h (held (read_bridge h.bridge q) h.store) w (sending w (turns h.bridge q))
    read_aside q room e used =
        let b = h.bridge in
        let x = read_bridge b q in
        let p = read_rows b q room s.sizes e in
        let elsewhere : r.slot ≢ free_slot b = λ z. used (ap (λ (y : ℕ). get_or b.state y 0) z ∙ free_slot_free h q room s e) in
        let taken : (t : ℕ) → Waits r.slot b t → (j : ℕ) → j < pieces_of b.settings.reads q → tag_of b j ≢ t = λ t m j l. not_free t (tag_of b j) ((sends_read r.sent h q room s e).free j l).free m in
        record {
          slot = (accepted_read_keeps b q room e).slots r.slot elsewhere;
          bytes = λ y l. refl;
          tags = λ t m. ⊎_elim (λ z. z) (λ o. absurd (taken t m o.0 o.1 o.2)) (p t);
          own = λ t m. own_kept (turns b q) w t (λ j l. let i : j < pieces_of b.settings.reads q = omega (arith, turns_many b q) in rw (turn_is b q j i) (taken t m j i));
          back = λ t m. ⊎_elim (λ z. waits_same r.slot x b t (sym z) m)
              (λ o. absurd (elsewhere (sym m.1 ∙ (ap (owner_of x) (sym o.2) ∙ same_owner ((opens_read r.sent h q room s e).tag o.0 o.1))))) (p t);
        }

    pub word_aside : (a : Access) (room : ℕ) → config_refusal h.bridge a room ≡ 0 → goes_out (route_of h.bridge a) ≡ true → Aside r h (held (routed_bridge h.bridge a) h.store) w (sending w (word_ask h.bridge a))
    word_aside a room e o =
        let some = (passed h.bridge.core (route_of h.bridge a) room e).tag o in
        let p = routed_acts h.bridge a r.slot s.sizes some in
        let free = (lowest_is tag_count h.bridge.core.free some).tag.free in
        other_tag (held (routed_bridge h.bridge a) h.store) p p.slot (sending w (word_ask h.bridge a)) (λ y l. refl)
        (λ u m. own_kept (word_ask h.bridge a) w u (λ j l. let z : j ≡ 0 = omega arith in rw z (not_free u (lowest tag_count h.bridge.core.free) free m)))
        (λ m. not_free _ _ free m refl) (λ m. omega (arith, same_owner p.tag, m.1, r.small))
