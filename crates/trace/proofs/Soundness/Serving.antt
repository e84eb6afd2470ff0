-- A completion or a timeout keeps what holds of every state.
use Prim.Native.Nat.{ℕ, ◌+◌, ◌≤◌, ◌<◌}
use mathlib.Core.Path.{◌≡◌, refl, sym, ap, ◌∙◌, subst}
use mathlib.Core.Logic.{inr, ◌≢◌}
use mathlib.Core.List.{List}
use mathlib.Core.Bool.{false}
use native.Mathlib.Omega.{arith}
use lib.ListN.{get_or}
use lib.Dec.{ltb, leb}
use borrow.Author.Tests.{leb-true, leb-false}
use Rattle.bits.specs.Bits.{is_set}
use Rattle.bits.proofs.Bits.{set_sets}
use Rattle.parts.specs.declared.ConfigSlot.{ConfigSlot}
use Rattle.parts.specs.Cores.{Core}
use Rattle.verdict.specs.declared.Cause.{Cause}
use Rattle.verdict.specs.declared.Cause.TheVariants.{UnsupportedRequest, RequestRetry, CompleterAbort, Poison, Timeout}
use Rattle.verdict.specs.declared.Verdict.{Verdict}
use Rattle.verdict.specs.declared.Verdict.TheVariants.{Unexpected, Good, Poisoned, Failed}
use Rattle.machine.specs.State.{Bridge, Tag, Slot, tag_at, slot_at, tag_count, missing_of, owner_of, place_of, Open, with_config, slverr}
use Rattle.machine.specs.Verdict.{cause_response, cause_bit}
use Rattle.machine.specs.Completions.{Held, config_answer, config_done, config_completed, is_unexpected}
use Rattle.machine.specs.Take.{state_of}
use Rattle.machine.proofs.Judging.{never}
use Rattle.bridge_laws.specs.Rows.{counted_tag, shut_tag, faulted_slot, closed_slot, freed_core, noted_slot}
use Rattle.bridge_laws.specs.Effects.{Acts, same, Serves, good_part, good_last, poison_part, poison_last, fails, Expires, memory, config}
use Rattle.bridge_laws.proofs.Effects.{config_serves}
use Rattle.bridge_laws.proofs.Parts.{same_missing, same_sent, same_owner, same_place, same_size}
use Rattle.bridge_laws.proofs.Cores.{Registered, raised_core_lem}
use Rattle.trace.specs.Sound.{pieces_in}
use Rattle.trace.proofs.Soundness.Cases.{by_test}
use Rattle.trace.proofs.Soundness.Counts.{weight, weighs, weightless}
use Rattle.trace.proofs.Soundness.Fine.{TagFits, SlotFits, FineTo, row_pieces, pieces_row, pieces_not, state_below, state_config, owner_open, owner_most, tag_below}
use Rattle.trace.proofs.Soundness.Acting.{Steady, tag_kept, acts_fine, count_at, pieces_there}

-- ---- the row of a slot

-- one open piece fewer
record Fewer (s r : Slot) : Type 0 where
  size : r.size ≡ s.size
  fits : SlotFits r
  pieces : row_pieces r + 1 ≡ row_pieces s

closed_fewer : (s : Slot) → s.state ≡ 1 → SlotFits s → Fewer s (closed_slot s)
closed_fewer s e w =
    by_test (Fewer s) (leb s.pieces 1)
    (λ f. record {
      size = refl;
      fits = record { alive = λ z. absurd (omega arith); fits = λ z. w.fits (λ y. omega arith); marked = λ z. absurd (omega arith) };
      pieces = rw e (omega (arith, leb-true s.pieces 1 f, w.alive e));
    })
    (λ f. record {
      size = refl;
      fits = record { alive = λ z. omega (arith, leb-false s.pieces 1 f); fits = w.fits; marked = w.marked };
      pieces = rw e (omega (arith, leb-false s.pieces 1 f));
    })

-- the response of a cause is not OKAY
pub cause_not_okay : (why : Cause) → cause_response why ≢ 0
cause_not_okay UnsupportedRequest e = absurd (omega arith)
cause_not_okay RequestRetry e = absurd (omega arith)
cause_not_okay CompleterAbort e = absurd (omega arith)
cause_not_okay Poison e = absurd (omega arith)
cause_not_okay Timeout e = absurd (omega arith)

-- a failure is noted
module _ (place : ℕ) (why : Cause) (s : Slot) (w : SlotFits s) where
  abbrev noted : Slot
  noted = noted_slot place (cause_response why) s

  noted_fits : SlotFits noted
  noted_fits = record { alive = w.alive; fits = w.fits; marked = λ e. inr (cause_not_okay why) }

  failed_fits : SlotFits (faulted_slot place (cause_response why) s)
  failed_fits = by_test SlotFits (ltb place s.fault) (λ e. noted_fits) (λ e. w)

  failed_fewer : s.state ≡ 1 → Fewer s (closed_slot (faulted_slot place (cause_response why) s))
  failed_fewer e =
      let p = closed_fewer noted e noted_fits in
      by_test (λ r. Fewer s (closed_slot r)) (ltb place s.fault) (λ z. record { size = p.size; fits = p.fits; pieces = p.pieces }) (λ z. closed_fewer s e w)

-- ---- the core

untouched : (c : Core) → Registered c c
untouched c = record { same = refl; free = refl; ticks = refl; session = refl; config = refl; link = refl }

-- registers differ, and perhaps the configuration slot
steady : (t : ℕ) (w : ConfigSlot) {c d : Core} → Registered (with_config w c) d → Steady t c d
steady t w r = record { ticks = r.ticks; link = r.link; free = λ u n. ap (λ z. is_set z u) r.free }

-- and tag t is free
steady_freed : (t : ℕ) (w : ConfigSlot) {c d : Core} → t < tag_count → Registered (with_config w c) d → Steady t c (freed_core t d)
steady_freed t w {d = d} h r = record { ticks = r.ticks; link = r.link; free = λ u n. (set_sets tag_count d.free t h).others u n ∙ ap (λ z. is_set z u) r.free }

-- the configuration access is finished
pub answer_done : (c : ConfigSlot) (payload : List ℕ) (v : Verdict) → is_unexpected v ≡ false → (config_answer c payload v).state ≡ 2
unfolding config_answer
answer_done c payload Unexpected e = never e
answer_done c payload (Good n) e = refl
answer_done c payload (Poisoned n) e = refl
answer_done c payload (Failed UnsupportedRequest) e = by_test (λ (r : ConfigSlot). r.state ≡ 2) c.write (λ z. refl) (λ z. refl)
answer_done c payload (Failed RequestRetry) e = refl
answer_done c payload (Failed CompleterAbort) e = refl
answer_done c payload (Failed Poison) e = refl
answer_done c payload (Failed Timeout) e = refl

-- ---- an open tag t of slot k

module _ {over : ℕ → ℕ} (h : Held) (t k : ℕ) (v : FineTo over h.bridge) (m : Open h.bridge t) (o : owner_of h.bridge t ≡ k) where
  abbrev b : Bridge
  b = h.bridge

  low : t < tag_count
  low = tag_below b t v.sizes m

  waits : state_of b k ≡ 1
  waits = subst (λ i. state_of b i ≡ 1) o (owner_open b t v m)

  module _ {f : Tag → Tag} {g : Slot → Slot} {c : Core → Core} {x : Bridge} (a : Acts t k f g c b x) (s : Steady t b.core (c b.core))
      (e : k ≢ 8 → (c b.core).config ≡ b.core.config) (w : (f (tag_at b t)).owner ≡ owner_of b t) (z : (g (slot_at b k)).size ≡ (slot_at b k).size)
      (q : k < 8 → SlotFits (g (slot_at b k))) where
    -- it stays open, or is closed
    served : (Open x t → TagFits (over t) x t) → pieces_in x k + weight b k t ≡ pieces_in b k + weight x k t → FineTo over x
    served i r =
        acts_fine a v
        (record {
          low = low;
          core = subst (Steady t b.core) (sym a.core) s;
          tag = i;
          slot = λ l. subst SlotFits (sym a.slot) (q l);
          size = λ u p y. same_size a.slot ∙ z;
          count = count_at (pieces_in b) (pieces_in x) t k b x (λ y. o) (λ y. same_owner a.tag ∙ w ∙ o)
              (pieces_there a (λ d. ap (λ y. y.config) a.core ∙ e d)) r;
          down = λ d. absurd (m ((v.down d).1 t));
        })

    closed : (f (tag_at b t)).missing ≡ 0 → pieces_in x k + 1 ≡ pieces_in b k → FineTo over x
    closed i r =
        let n : missing_of x t ≡ 0 = same_missing a.tag ∙ i in
        served (λ y. absurd (y n)) (omega (arith, weighs b k t m o, weightless x k t n, r))

  -- ---- of a memory read

  module _ (l : k < 8) where
    abbrev row : Slot
    row = slot_at b k

    fit : SlotFits row
    fit = v.slots k l

    open_slot : row.state ≡ 1
    open_slot = sym (state_below b k l) ∙ waits

    -- n bytes come, and not the last
    part_comes : {n : ℕ} {g : Slot → Slot} {c : Core → Core} {x : Bridge} → Acts t k (counted_tag n) g c b x → n < missing_of b t
        → Registered b.core (c b.core) → (g row).size ≡ row.size → SlotFits (g row) → row_pieces (g row) ≡ row_pieces row → FineTo over x
    part_comes {x = x} a i d z q r =
        let e = a.tag in
        let w = v.tags t m in
        let s : get_or x.size (owner_of b t) 0 ≡ get_or b.size (owner_of b t) 0 = rw o (same_size a.slot ∙ z) in
        let sum : place_of x t + missing_of x t ≡ place_of b t + missing_of b t = omega (arith, same_place e, same_missing e) in
        let n : Open x t = λ y. omega (arith, same_missing e) in
        served a (steady t b.core.config d) (λ y. d.config) refl z (λ y. q)
        (λ y. tag_kept a t (ap (λ u. u.ticks) a.core ∙ d.ticks) (ap (λ u. is_set u.free t) a.core ∙ ap (λ u. is_set u t) d.free) sum
        (same_owner e) (same_sent e) s w)
        (omega (arith, weighs b k t m o, weighs x k t n (same_owner e ∙ o), pieces_row b k l, pieces_row x k l, ap row_pieces a.slot, r))

    -- the last come, or the piece fails: its tag is free, or rests
    piece_closes : {f : Tag → Tag} {g : Slot → Slot} {c : Core → Core} {x : Bridge} → Acts t k f g c b x → Steady t b.core (c b.core)
        → (c b.core).config ≡ b.core.config → (f (tag_at b t)).owner ≡ owner_of b t → (f (tag_at b t)).missing ≡ 0 → Fewer row (g row) → FineTo over x
    piece_closes {x = x} a s e w g r =
        closed a s (λ d. e) w r.size (λ d. r.fits) g (omega (arith, pieces_row b k l, pieces_row x k l, ap row_pieces a.slot, r.pieces))

    fails_as : (why : Cause) → Fewer row (closed_slot (faulted_slot (place_of b t) (cause_response why) row))
    fails_as why = failed_fewer (place_of b t) why row fit open_slot

    frees : {d : Core} → Registered b.core d → Steady t b.core (freed_core t d)
    frees r = steady_freed t b.core.config low r

    pub memory_fine : {x : Held} {skip : ℕ} {payload : List ℕ} {w : Verdict} → Serves t k skip payload h x w → FineTo over x.bridge
    memory_fine (good_part n i a s) = part_comes a i (untouched b.core) refl fit refl
    memory_fine (good_last n i a s) = piece_closes a (frees (untouched b.core)) refl refl refl (closed_fewer row open_slot fit)
    memory_fine (poison_part n i a s) =
        let z = ltb (place_of b t) row.fault in
        part_comes a i (raised_core_lem (cause_bit Poison) b.core) (by_test (λ (r : Slot). r.size ≡ row.size) z (λ y. refl) (λ y. refl))
        (failed_fits (place_of b t) Poison row fit) (by_test (λ (r : Slot). row_pieces r ≡ row_pieces row) z (λ y. refl) (λ y. refl))
    memory_fine (poison_last n i a s) =
        let r = raised_core_lem (cause_bit Poison) b.core in
        piece_closes a (frees r) r.config refl refl (fails_as Poison)
    memory_fine (fails why a s) =
        let r = raised_core_lem (cause_bit why) b.core in
        piece_closes a (frees r) r.config refl refl (fails_as why)

  -- ---- of the configuration access

  module _ (l : 8 ≤ k) where
    config_closes : {c : Core → Core} {x : Bridge} → Acts t k shut_tag same c b x → Steady t b.core (c b.core) → (c b.core).config.state ≡ 2 → FineTo over x
    config_closes {x = x} a s d =
        let e : k ≡ 8 = omega (arith, owner_most b t v m) in
        let z : state_of x 8 ≡ 2 = state_config x ∙ ap (λ y. y.config.state) a.core ∙ d in
        let w : state_of b 8 ≡ 1 = rw e at waits in
        let p : pieces_in b 8 ≡ 1 = rw w in
        closed a s (λ n. absurd (n e)) refl refl (λ i. absurd (omega arith)) refl (rw e (omega (arith, pieces_not x 8 (λ y. omega arith), p)))

    pub config_fine : (payload : List ℕ) (w : Verdict) → is_unexpected w ≡ false → FineTo over (config_completed b t payload w)
    config_fine payload w u =
        let c = config_answer b.core.config payload w in
        config_closes (config_serves b t k payload w v.sizes low) (steady_freed t c low (untouched (with_config c b.core))) (answer_done b.core.config payload w u)

-- ---- a timeout

pub expired_fine : {over : ℕ → ℕ} {h x : Held} {t : ℕ} → FineTo over h.bridge → Open h.bridge t → Expires t h x → FineTo over x.bridge
expired_fine {h = h} {t = t} v m (memory l a s) =
    let c = h.bridge.core in
    let k = owner_of h.bridge t in
    let r = raised_core_lem (cause_bit Timeout) c in
    piece_closes h t k v m refl l a (steady t c.config r) r.config refl refl (fails_as h t k v m refl l Timeout)
expired_fine {h = h} {t = t} v m (config l a s) =
    let c = h.bridge.core in
    let k = owner_of h.bridge t in
    let w = config_done c.config slverr 0 in
    let r = raised_core_lem 8 (with_config w c) in
    config_closes h t k v m refl l (a k) (steady t w r) (ap (λ z. z.state) r.config)
