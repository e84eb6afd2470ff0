-- Two bridges alike stay alike under what opens and frees: a read, of which every byte is still to come, a configuration
-- access, a release.
use Prim.Native.Nat.{ℕ, ◌+◌, ◌-◌, ◌*◌, ◌/◌, ◌≤◌, ◌<◌}
use mathlib.Core.Path.{◌≡◌, refl, sym, ap, ◌∙◌, subst}
use mathlib.Core.Logic.{inr, ◌≢◌}
use mathlib.Core.List.{List}
use native.Mathlib.Omega.{arith}
use native.Mathlib.Nat.{div-mul-le_self, lt-div-mul-add, suc-mul}
use native.Mathlib.Numerals.{add-one}
use native.Mathlib.Decide.{ℕ_discrete, dec_lt}
use lib.Seq.{ext_get_or}
use Rattle.tags.specs.Tags.{lowest, available}
use Rattle.tags.proofs.Tags.{lowest_is}
use Rattle.address.specs.declared.Settings.{Settings}
use Rattle.address.proofs.Laws.{accepted_reads}
use Rattle.burst.specs.declared.Burst.{Burst}
use Rattle.burst.specs.Bursts.{length_of}
use Rattle.burst.specs.Pieces.{piece_count, piece_first, piece_end, piece_at}
use Rattle.burst.proofs.Cut.{div_mono}
use Rattle.burst.proofs.Words.{limit_words}
use Rattle.parts.specs.Cores.{Core}
use Rattle.parts.specs.declared.Pending.{Pending}
use Rattle.machine.specs.State.{Bridge, tag_at, slot_at, tag_count, slot_count, with_config, open_config, figures_now, opened, free_slot, free_slot_from}
use Rattle.machine.specs.Memory.{pieces_of, piece_of, piece_pending, claimed, read_to, read_refusal, read_bridge}
use Rattle.machine.specs.Config.{Access, routed_bridge, word_pending}
use Rattle.machine.specs.Completions.{Held, held}
use Rattle.machine.specs.Take.{slot_freed}
use Rattle.machine.proofs.Judging.{never}
use Rattle.machine.proofs.Refusals.{read_ok}
use Rattle.bridge_laws.specs.MemoryLaws.{tag_of, ReadKeeps, ReadOpens}
use Rattle.bridge_laws.specs.Rows.{waiting_slot, taken_core, pending_tag}
use Rattle.bridge_laws.specs.Effects.{Acts, same}
use Rattle.bridge_laws.proofs.Effects.{opened_acts, claimed_acts, routed_acts, released_acts}
use Rattle.bridge_laws.proofs.Parts.{same_missing, same_owner, same_place, same_state, same_size}
use Rattle.bridge_laws.proofs.Kept.{accepted_read_keeps}
use Rattle.bridge_laws.proofs.Stored.{accepted_read_opens}
use Rattle.bridge_laws.proofs.BothTurns.{each_piece_both}
use Rattle.trace.specs.Sound.{Sound}
use Rattle.trace.proofs.Alike.Twin.{equal, unused, like_number, Twin, act_twin, config_cores, taken_cores, pending_like}
use Rattle.trace.proofs.Alike.Stores.{still, Gap, gap_of, Shown, shown_still, Pair, act_pair, no_tag}

-- ---- the bridges after a read

pub states_same : {x y : Bridge} → Twin x y → x.state ≡ y.state
states_same {x} {y} p = ext_get_or 0 x.state y.state (p.early.state ∙ sym p.late.state) (λ k l. like_number (p.slots k (omega (arith, p.early.state))))

pub slot_same : {x y : Bridge} → Twin x y → free_slot x ≡ free_slot y
slot_same p = ap (λ (s : List ℕ). free_slot_from s 0 slot_count) (states_same p)

opened_twin : {x y : Bridge} (r : Pending) → Twin x y → 0 < available tag_count x.core.free → 0 < available tag_count y.core.free → Twin (opened r x) (opened r y)
opened_twin {x} {y} r p a b =
    act_twin p (opened_acts slot_count r x p.early a)
    (subst (λ f. Acts (lowest tag_count f) slot_count (λ o. pending_tag y.core.ticks r) same taken_core y (opened r y)) (sym p.core.free) (opened_acts slot_count r y p.late b))
    (taken_cores p.core) (pending_like x.core.ticks y.core.ticks r p.early_clock p.late_clock) (p.slots slot_count)

module _ {x y : Bridge} (q : Burst) (p : Twin x y) where
  -- of a claimed slot, the first n pieces
  turns_twin : (k : ℕ) → k < slot_count → (n : ℕ) → n ≤ available tag_count x.core.free → Twin (read_to k q (claimed k q x) n) (read_to k q (claimed k q y) n)
  turns_twin k l n m =
      let a = claimed_acts 0 k q x p.early l in
      let b = claimed_acts 0 k q y p.late l in
      let w = act_twin p a b p.core (p.tags 0) (λ i. equal (ap (λ (s : Settings). waiting_slot (length_of q) (pieces_of s.reads q) 0) p.settings)) in
      let asks : ℕ → Settings → Pending = λ i s. piece_pending k s q (piece_of s.reads q i) in
      each_piece_both k q (claimed k q x) (claimed k q y) w.core.free Twin w
      (λ i u v c d r. subst (λ s. Twin (opened (asks i (claimed k q x).settings) u) (opened (asks i s) v)) w.settings (opened_twin (asks i (claimed k q x).settings) r c d))
      n (rw (ap (λ (c : Core). c.free) a.core) m)

  pub read_twin : (room : ℕ) → read_refusal x q room ≡ 0 → Twin (read_bridge x q) (read_bridge y q)
  read_twin room e =
      let o = read_ok x q room e in
      subst (Twin (read_bridge x q)) (λ i. read_to (slot_same p i) q (claimed (slot_same p i) q y) (pieces_of (p.settings i).reads q))
      (turns_twin (free_slot x) o.slot (pieces_of x.settings.reads q) o.tags)

-- ---- the piece of a byte

-- byte i of n from a on lies in the j-th piece
record Holds (l a n i j : ℕ) : Type 0 where
  low : j < piece_count l a n
  starts : a ≤ (piece_at l a n j).first
  from : (piece_at l a n j).first ≤ a + i
  to : a + i < (piece_at l a n j).first + (piece_at l a n j).length

piece_of_lem : (l a n i : ℕ) → 0 < l → i < n → Holds l a n i ((a + i) / l - a / l)
unfolding piece_count piece_first piece_end piece_at
piece_of_lem l a n i h b =
    let x = a / l in
    let y = (a + i) / l in
    let z = (a + n - 1) / l in
    let p : x ≤ y = div_mono l a (a + i) h (omega arith) in
    let q : y ≤ z = div_mono l (a + i) (a + n - 1) h (omega arith) in
    let e : x + (y - x) ≡ y = omega arith in
    let s : y * l ≤ a + i = div-mul-le_self (a + i) l in
    let t : a + i < y * l + l = lt-div-mul-add {a = a + i} {b = l} h in
    let r : (y + 1) * l ≡ y * l + l = rw (add-one y) (suc-mul y l) in
    let first : (x + (y - x)) * l ≡ y * l = rw e in
    let last : (x + (y - x) + 1) * l ≡ (y + 1) * l = rw e in
    omega (arith, p, q, first, last, r, s, t, b)

-- ---- the stores after a read

module _ {h g : Held} (q : Burst) (room : ℕ) (v : Sound h) (p : Pair h g) (ok : read_refusal h.bridge q room ≡ 0) where
  abbrev b : Bridge
  b = h.bridge

  opens : ReadOpens b q (read_bridge b q)
  opens = accepted_read_opens b q room p.twin.early ok

  keeps : ReadKeeps b (read_bridge b q)
  keeps = accepted_read_keeps b q room ok

  -- its own slot
  new_gap : (i : ℕ) → i < length_of q → Gap (tag_at (read_bridge b q)) (free_slot b) i
  new_gap i l =
      let f = piece_of_lem b.settings.reads q.start.0 (length_of q) i (limit_words b.settings.reads (accepted_reads b.settings v.right)).0 l in
      let j = (q.start.0 + i) / b.settings.reads - q.start.0 / b.settings.reads in
      let r = opens.tag j f.low in
      let m = same_missing r in
      let w = same_place r in
      record {
        tag = tag_of b j;
        opened = λ e. absurd (omega (arith, m, e, f.from, f.to));
        owner = same_owner r;
        from = omega (arith, w, f.starts, f.from);
        to = omega (arith, w, m, f.starts, f.to);
      }

  new_slot : Shown (free_slot b) (slot_at (read_bridge b q) (free_slot b)) (Gap (tag_at (read_bridge b q)) (free_slot b)) h.store g.store
  new_slot = record {
    done = λ a. absurd (omega (arith, a, same_state opens.slot));
    part = λ a e i l. inr (new_gap i (omega (arith, l, same_size opens.slot)));
  }

  -- any other
  old_slot : (j : ℕ) → j < slot_count → j ≢ free_slot b → Shown j (slot_at (read_bridge b q) j) (Gap (tag_at (read_bridge b q)) j) h.store g.store
  old_slot j l n =
      subst (λ s. Shown j s (Gap (tag_at (read_bridge b q)) j) h.store g.store) (sym (keeps.slots j n))
      (shown_still still (λ i f. inr (gap_of f (keeps.tags f.tag (v.tags f.tag f.opened).used))) (p.bytes j l))

  pub read_pair : Pair (held (read_bridge h.bridge q) h.store) (held (read_bridge g.bridge q) g.store)
  read_pair = record { twin = read_twin q p.twin room ok; early = p.early; late = p.late; bytes = λ j l. by j l (ℕ_discrete j (free_slot b)) }
    where
      by : (j : ℕ) → j < slot_count → Dec (j ≡ free_slot b) → Shown j (slot_at (read_bridge b q) j) (Gap (tag_at (read_bridge b q)) j) h.store g.store
      by j l (yes e) = subst (λ i. Shown i (slot_at (read_bridge b q) i) (Gap (tag_at (read_bridge b q)) i) h.store g.store) (sym e) new_slot
      by j l (no e) = old_slot j l e

-- ---- a configuration access that goes out

pub routed_pair : {h g : Held} (a : Access) → Sound h → Pair h g → 0 < available tag_count h.bridge.core.free
    → Pair (held (routed_bridge h.bridge a) h.store) (held (routed_bridge g.bridge a) g.store)
routed_pair {h} {g} a v p some =
    let x = h.bridge in
    let y = g.bridge in
    let c = p.twin.core in
    act_pair p (routed_acts x a slot_count p.twin.early some)
    (subst (λ f. Acts (lowest tag_count f) slot_count (λ o. pending_tag y.core.ticks (word_pending a.write)) same (λ z. taken_core (with_config (open_config a.write (figures_now z)) z)) y (routed_bridge y a))
    (sym c.free) (routed_acts y a slot_count p.twin.late (rw c.free at some)))
    (λ o. never (sym (lowest_is tag_count x.core.free some).tag.free ∙ (v.tags (lowest tag_count x.core.free) o).used))
    (taken_cores (config_cores c (equal refl))) (pending_like x.core.ticks y.core.ticks (word_pending a.write) p.twin.early_clock p.twin.late_clock)
    (p.twin.slots slot_count) still (λ l. absurd (omega arith))

-- ---- a release

pub freed_pair : {h g : Held} (k : ℕ) → Pair h g → Pair (held (slot_freed k h.bridge) h.store) (held (slot_freed k g.bridge) g.store)
freed_pair {h} {g} k p = by (dec_lt k slot_count)
  where
    by : Dec (k < slot_count) → Pair (held (slot_freed k h.bridge) h.store) (held (slot_freed k g.bridge) g.store)
    by (yes l) =
        act_pair p ((released_acts tag_count k h.bridge p.twin.early).0 l) ((released_acts tag_count k g.bridge p.twin.late).0 l)
        (no_tag p) p.twin.core (p.twin.tags tag_count) (λ m. unused refl refl) still (λ m. record { done = λ e. absurd (omega arith); part = λ e. absurd (omega arith) })
    by (no l) =
        act_pair p ((released_acts tag_count k h.bridge p.twin.early).1 (omega arith)) ((released_acts tag_count k g.bridge p.twin.late).1 (omega arith))
        (no_tag p) (config_cores p.twin.core (equal refl)) (p.twin.tags tag_count) (p.twin.slots k) still (λ m. absurd (l m))
