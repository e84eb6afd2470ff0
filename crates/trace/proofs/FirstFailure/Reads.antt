-- An accepted read: what it leaves of the failure that another slot keeps, and that its own slot has none.
use Prim.Native.Nat.{ℕ, suc, ◌+◌, ◌-◌, ◌/◌, ◌≤◌, ◌<◌}
use mathlib.Core.Path.{◌≡◌, refl, sym, ap, ◌∙◌, subst}
use mathlib.Core.Logic.{◌≢◌}
use mathlib.Core.Option.{Option, none}
use native.Mathlib.Omega.{arith}
use Rattle.tags.specs.Tags.{lowest, available}
use Rattle.address.specs.declared.Settings.{Settings}
use Rattle.address.proofs.Laws.{accepted_reads}
use Rattle.burst.specs.declared.Burst.{Burst}
use Rattle.burst.specs.Bursts.{length_of, burst_number}
use Rattle.burst.proofs.Pieces.{blocks_of, accepted_covers, piece_in_block}
use Rattle.burst.proofs.Tiling.{piece_not_empty, piece_within}
use Rattle.machine.specs.State.{Bridge, tag_at, place_of, tag_count, slot_count, free_slot, opened}
use Rattle.machine.specs.Memory.{read_to, read_bridge, read_refusal, pieces_of, piece_of, place_in, piece_pending, claimed}
use Rattle.machine.specs.Take.{state_of}
use Rattle.machine.proofs.Refusals.{read_ok}
use Rattle.bridge_laws.specs.MemoryLaws.{Tables}
use Rattle.bridge_laws.proofs.Parts.{same_state, same_fault, same_cause}
use Rattle.bridge_laws.proofs.Effects.{claimed_acts, opened_acts}
use Rattle.bridge_laws.proofs.Turns.{each_piece}
use Rattle.bridge_laws.proofs.EachRow.{each_tag_row}
use Rattle.trace.specs.FirstFailure.{Failure, piece_at_place}
use Rattle.trace.proofs.Soundness.Fine.{Fine, state_below, owner_open}
use Rattle.trace.proofs.Soundness.Opening.{free_slot_free}
use Rattle.trace.proofs.FirstFailure.Tracks.{For, stays, left_same}
use Rattle.trace.proofs.FirstFailure.Effects.{Keeps, kept}

-- ---- another slot

pub other_read : {l a k : ℕ} {o : Option Failure} → (b : Bridge) (q : Burst) (room : ℕ) → Tables b → read_refusal b q room ≡ 0
    → free_slot b ≢ k → Keeps l a k o b → Keeps l a k o (read_bridge b q)
other_read {l} {a} {k} {o} b q room v e d w =
    let j = free_slot b in
    let ok = read_ok b q room e in
    let c = claimed_acts 0 j q b v ok.slot in
    (each_piece j q (claimed j q b) (λ i x. Tables x × Keeps l a k o x)
    (c.tables, kept c (λ z. absurd (d z)) (stays k _) w)
    (λ i x m s p.
    let r = opened_acts j _ x p.0 m in
    (r.tables, kept r (λ z. left_same) (λ y. absurd (d y.owner)) p.1))
    (pieces_of b.settings.reads q) (rw c.core ok.tags)
    ).1

-- ---- its own

module _ (k : ℕ) (q : Burst) (c : Bridge) (pos : 0 < c.settings.reads) (right : burst_number q ≡ 0) where
  abbrev l : ℕ
  l = c.settings.reads

  abbrev a : ℕ
  a = q.start.0

  abbrev at : ℕ → ℕ
  at p = piece_at_place l a p

  -- the piece at the place of each of its bytes
  piece_at_lem : (i x y : ℕ) → i < pieces_of l q → x < (piece_of l q i).length → y ≡ place_in q (piece_of l q i) + x → at y ≡ i
  piece_at_lem i x y h g e =
      let w = piece_within l a (length_of q) i pos h in
      let p = piece_of l q i in
      let z : a + y ≡ p.first + x = omega (arith, w.starts) in
      omega (arith, ap (λ n. n / l) z, piece_in_block l a (length_of q) i pos (p.first + x) (omega arith) (omega arith))

  -- the first i pieces are open
  record Cut (i : ℕ) (x : Bridge) : Type 0 where
    tables : Tables x
    keeps : Keeps l a k none x
    below : (t : ℕ) → For k (tag_at x t) → at (place_of x t) < i

  -- one more is, after the others
  next : (i : ℕ) (x : Bridge) → 0 < available tag_count x.core.free → i < pieces_of l q → Cut i x
      → Cut (suc i) (opened (piece_pending k c.settings q (piece_of l q i)) x)
  next i x m h p =
      let v = p.keeps in
      let r = piece_pending k c.settings q (piece_of l q i) in
      let e = opened_acts k r x p.tables m in
      let y = opened r x in
      let t = lowest tag_count x.core.free in
      let n : 0 < r.missing = piece_not_empty l a (length_of q) i pos (accepted_covers q right).some h in
      let first : at r.place ≡ i = piece_at_lem i 0 r.place h n (omega arith) in
      let last : at (r.place + r.missing - 1) ≡ i = piece_at_lem i (r.missing - 1) (r.place + r.missing - 1) h (omega arith) (omega arith) in
      record {
        tables = e.tables;
        keeps = record {
          limit = pos;
          slot = v.slot;
          busy = rw (same_state e.slot) v.busy;
          agrees = rw (same_fault e.slot, same_cause e.slot) v.agrees;
          one = each_tag_row e (λ u z. For k z → at (z.place + z.missing - 1) ≡ at z.place) (λ w. last ∙ sym first) (λ u d. v.one u);
          alone =
              each_tag_row e (λ u z. For k z → (s : ℕ) → For k (tag_at y s) → at z.place ≡ at (place_of y s) → u ≡ s)
              (λ g. each_tag_row e (λ s z. For k z → at r.place ≡ at z.place → t ≡ s) (λ w f. refl) (λ s d w f. absurd (omega (arith, p.below s w))))
              (λ u d g. each_tag_row e (λ s z. For k z → at (place_of x u) ≡ at z.place → u ≡ s) (λ w f. absurd (omega (arith, p.below u g))) (λ s d. v.alone u g s));
          after = λ u w. tt;
        };
        below = each_tag_row e (λ u z. For k z → at z.place < suc i) (λ w. omega arith) (λ u d w. omega (arith, p.below u w));
      }

  cut : Cut 0 c → pieces_of l q ≤ available tag_count c.core.free → Keeps l a k none (read_to k q c (pieces_of l q))
  cut z h =
      (each_piece k q c (λ i x. i ≤ pieces_of l q → Cut i x) (λ g. z) (λ i x m s p g. next i x m g (p (omega arith))) (pieces_of l q) h (omega arith)).keeps

-- no tag is open for the slot that a read gets
none_open : (b : Bridge) → Fine b → free_slot b < slot_count → (t : ℕ) → For (free_slot b) (tag_at b t) → ⊥
none_open b v h t q =
    let s = subst (λ i. state_of b i ≡ 1) q.owner (owner_open b t v q.some_left) in
    omega (arith, free_slot_free b v.sizes.state h, state_below b (free_slot b) h)

-- a read that has just been accepted
pub read_keeps : (b : Bridge) (q : Burst) (room : ℕ) → Fine b → read_refusal b q room ≡ 0
    → Keeps b.settings.reads q.start.0 (free_slot b) none (read_bridge b q)
read_keeps b q room v e =
    let k = free_slot b in
    let ok = read_ok b q room e in
    let pos = (blocks_of b.settings.reads (accepted_reads b.settings v.right)).some in
    let w : Tables b = omega arith in
    let p = claimed_acts 0 k q b w ok.slot in
    let c = claimed k q b in
    let tags : (t : ℕ) → For k (tag_at c t) → ⊥ =
    λ t x. none_open b v ok.slot t (subst (For k) (claimed_acts t k q b w ok.slot).tag x) in
    subst (λ (s : Settings). Keeps s.reads q.start.0 k none (read_to k q c (pieces_of s.reads q))) p.settings
    (cut k q c (rw p.settings pos) ok.burst
    (record {
      tables = p.tables;
      keeps = record {
        limit = rw p.settings pos;
        slot = ok.slot;
        busy = λ f. omega (arith, same_state p.slot);
        agrees = (same_fault p.slot, same_cause p.slot);
        one = λ t x. absurd (tags t x);
        alone = λ t x. absurd (tags t x);
        after = λ t x. tt;
      };
      below = λ t x. absurd (tags t x);
    })
    (rw (p.core, p.settings) ok.tags))
