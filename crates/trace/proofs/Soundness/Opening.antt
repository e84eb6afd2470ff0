-- An accepted read and a routed configuration access open tags, and keep what holds of every state.
use Prim.Native.Nat.{ℕ, zero, suc, ◌+◌, ◌-◌, ◌^◌, ◌≤◌, ◌<◌}
use mathlib.Core.Path.{◌≡◌, refl, sym, ap, ◌∙◌, subst}
use mathlib.Core.Logic.{inl, ◌≢◌}
use mathlib.Core.List.{List}
use mathlib.Core.Bool.{true, cond}
use native.Mathlib.Omega.{arith}
use lib.ListN.{length, get_or}
use lib.Dec.{eqb}
use borrow.Author.Tests.{leb-true, eqb-true, eq-eqb, ne_eqb}
use Rattle.common.proofs.Tests.{and_left, and_right}
use Rattle.bits.specs.Bits.{is_set}
use Rattle.bits.proofs.Bits.{clear_clears}
use Rattle.tags.specs.Tags.{lowest, available}
use Rattle.tags.proofs.Tags.{lowest_is}
use Rattle.address.specs.declared.Settings.{Settings}
use Rattle.address.specs.Settings.{settings_right, settings_number}
use Rattle.address.proofs.Laws as address
use Rattle.address.proofs.Laws.{accepted_reads}
use Rattle.burst.specs.declared.Burst.{Burst}
use Rattle.burst.specs.Bursts.{burst_number, length_of}
use Rattle.burst.specs.Pieces.{piece_count}
use Rattle.burst.proofs.Pieces.{accepted_covers, blocks_of}
use Rattle.burst.proofs.Tiling.{piece_not_empty, piece_within}
use Rattle.parts.specs.declared.ConfigSlot.{ConfigSlot}
use Rattle.parts.specs.Cores.{Core}
use Rattle.parts.specs.declared.Pending.{Pending}
use Rattle.parts.proofs.Slots.{inside}
use Rattle.machine.specs.State.{Bridge, slot_at, tag_count, slot_count, slot_size, missing_of, Open, with_free, with_config, open_config, figures_now, opened, free_slot, free_slot_from, registers_of}
use Rattle.machine.specs.Memory.{pieces_of, piece_of, read_refusal, claimed, read_bridge, piece_pending}
use Rattle.machine.specs.Config.{Access, route_of, goes_out, config_refusal, routed_bridge, word_pending}
use Rattle.machine.specs.Ticks.{age_of}
use Rattle.machine.specs.Take.{state_of}
use Rattle.machine.proofs.Judging.{never}
use Rattle.machine.proofs.Refusals.{ReadOk, read_ok}
use Rattle.machine.proofs.Configs.{passed}
use Rattle.bridge_laws.specs.Rows.{pending_tag, claimed_slot, taken_core}
use Rattle.bridge_laws.specs.Effects.{Acts, same}
use Rattle.bridge_laws.proofs.Effects.{claimed_acts, opened_acts, routed_acts}
use Rattle.bridge_laws.proofs.Turns.{each_piece}
use Rattle.bridge_laws.proofs.Parts.{same_missing, same_sent, same_owner, same_place, same_size}
use Rattle.trace.specs.Sound.{pieces_in}
use Rattle.trace.proofs.Soundness.Cases.{at_each, or_else, by_test}
use Rattle.trace.proofs.Soundness.Counts.{weighs, weightless}
use Rattle.trace.proofs.Soundness.Fine.{SlotFits, FineAs, FineTo, recount, row_pieces, pieces_row, pieces_same, pieces_not, state_below, state_config}
use Rattle.trace.proofs.Soundness.Acting.{acts_fine, count_at, pieces_there, unowned, slot_fine}

-- ---- one tag

-- the lowest free tag
pub record Free (b : Bridge) (t : ℕ) : Type 0 where
  pub low : t < tag_count
  pub free : is_set b.core.free t ≡ true

pub lowest_free : (b : Bridge) → 0 < available tag_count b.core.free → Free b (lowest tag_count b.core.free)
lowest_free b h = let l = lowest_is tag_count b.core.free h in record { low = l.tag.below; free = l.tag.free }

-- the time limit is 1 to 65,535
pub record Limited (s : Settings) : Type 0 where
  pub some : 1 ≤ s.limit
  pub most : s.limit ≤ 65535

pub limited : (s : Settings) → settings_number s ≡ 0 → Limited s
unfolding settings_right
limited s e =
    let a = address.accepted s e in
    record { some = leb-true 1 s.limit (search (and_left, and_right)); most = leb-true s.limit 65535 (search (and_left, and_right)) }

-- what is sent now has the age 0
age_none : (x : ℕ) → x < 2 ^ 32 → age_of x x ≡ 0
age_none x l = let e : x + (2 ^ 32 - x) ≡ 4294967296 = omega arith in rw e refl

-- some bytes, that lie in the slot and in its burst
record Room (size : ℕ) (p : Pending) : Type 0 where
  some : 0 < p.missing
  whole : p.place + p.missing ≤ slot_size
  within : p.slot < slot_count → p.place + p.missing ≤ size

module _ {n over : ℕ → ℕ} (m : ℕ → ℕ) (p : Pending) (b : Bridge) (v : FineAs n over b) (av : 0 < available tag_count b.core.free)
    (up : (registers_of b).link ≡ true) (r : Room (get_or b.size p.slot 0) p) where
  abbrev t : ℕ
  t = lowest tag_count b.core.free

  was_closed : missing_of b t ≡ 0
  was_closed = or_else (missing_of b t) 0 (λ d. never (sym (lowest_free b av).free ∙ (v.tags t d).used))

  -- the configuration slot may change with it
  open_fine : {c : Core → Core} {x : Bridge} (w : ConfigSlot) → Acts t p.slot (λ o. pending_tag b.core.ticks p) same c b x
      → x.core ≡ taken_core (with_config w b.core)
      → ((j : ℕ) → j ≢ p.slot → m j ≡ n j) → m p.slot ≡ suc (n p.slot) → FineAs m over x
  open_fine {x = x} w a d e h =
      let z = a.tag in
      let clear = clear_clears b.core.free t in
      let now : Open x t = λ g. let s = r.some in omega (arith, same_missing z) in
      acts_fine a v
      (record {
        low = (lowest_free b av).low;
        core = record { ticks = ap (λ s. s.ticks) d; link = ap (λ s. s.registers.link) d; free = λ u g. ap (λ s. is_set s.free u) d ∙ clear.others u g };
        tag = λ g. record {
          used = ap (λ s. is_set s.free t) d ∙ clear.here;
          whole = rw (same_place z, same_missing z) r.whole;
          inside = rw (same_place z, same_missing z, same_owner z, same_size a.slot) r.within;
          past = rw (same_sent z) v.clock;
          young = rw (same_sent z, d, age_none b.core.ticks v.clock, a.settings) (omega (arith, limited b.settings v.right));
        };
        slot = λ l. subst SlotFits (sym a.slot) (v.slots p.slot l);
        size = λ u g s. same_size a.slot;
        count = count_at n m t p.slot b x (λ g. absurd (g was_closed)) (λ g. same_owner z) e
            (omega (arith, weightless b p.slot t was_closed, weighs x p.slot t now (same_owner z), h));
        down = λ g. never (sym up ∙ g);
      })

-- ---- a read

free_slot_by : (s : List ℕ) (k n : ℕ) → free_slot_from s k n < k + n → get_or s (free_slot_from s k n) 1 ≡ 0
unfolding free_slot_from
free_slot_by s k zero h = absurd (omega arith)
free_slot_by s k (suc n) h =
    by_test (λ (m : ℕ). m < k + suc n → get_or s m 1 ≡ 0) (eqb (get_or s k 1) 0) (λ e l. eqb-true _ _ e) (λ e l. free_slot_by s (suc k) n (omega arith)) h

pub free_slot_free : (b : Bridge) → length b.state ≡ 8 → free_slot b < 8 → get_or b.state (free_slot b) 0 ≡ 0
free_slot_free b l h = inside b.state (free_slot b) 0 1 (omega arith) ∙ free_slot_by b.state 0 8 (omega arith)

-- a piece lies in the burst
piece_room : (s : Settings) (q : Burst) (k i : ℕ) → settings_number s ≡ 0 → burst_number q ≡ 0 → i < pieces_of s.reads q
    → Room (length_of q) (piece_pending k s q (piece_of s.reads q i))
piece_room s q k i e f l =
    let some : 0 < s.reads = (blocks_of s.reads (accepted_reads s e)).some in
    let c = accepted_covers q f in
    let w = piece_within s.reads q.start.0 (length_of q) i some l in
    record {
      some = piece_not_empty s.reads q.start.0 (length_of q) i some c.some l;
      whole = omega (arith, c.most, w.starts, w.ends);
      within = λ h. omega (arith, w.starts, w.ends);
    }

some_pieces : (l : ℕ) (q : Burst) → 0 < pieces_of l q
unfolding piece_count
some_pieces l q = omega arith

module _ {over : ℕ → ℕ} (b : Bridge) (q : Burst) (room : ℕ) (v : FineTo over b) (e : read_refusal b q room ≡ 0) where
  abbrev k : ℕ
  k = free_slot b

  abbrev c : Bridge
  c = claimed k q b

  abbrev all : ℕ
  all = pieces_of b.settings.reads q

  ok : ReadOk b q room
  ok = read_ok b q room e

  claims : Acts 0 k same (λ s. claimed_slot b q) same b c
  claims = claimed_acts 0 k q b v.sizes ok.slot

  not_open : state_of b k ≢ 1
  not_open f = omega (arith, state_below b k ok.slot, free_slot_free b v.sizes.state ok.slot)

  claimed_fine : FineAs (pieces_in b) over c
  claimed_fine =
      slot_fine b.core.config claims v (omega arith) claims.core (unowned b k v not_open)
      (λ l. record { alive = λ z. some_pieces b.settings.reads q; fits = λ z. (accepted_covers q ok.burst).most; marked = λ z. inl refl })

  -- i pieces have been opened
  abbrev so_far : ℕ → ℕ → ℕ
  so_far i j = pieces_in b j + cond (eqb j k) i 0

  record Reading (i : ℕ) (x : Bridge) : Type 0 where
    fine : FineAs (so_far i) over x
    slots : (j : ℕ) → slot_at x j ≡ slot_at c j
    core : with_free 0 x.core ≡ with_free 0 b.core

  turn : (i : ℕ) (x : Bridge) → 0 < available tag_count x.core.free → x.settings ≡ c.settings → (i ≤ all → Reading i x) → suc i ≤ all
      → Reading (suc i) (opened (piece_pending k c.settings q (piece_of c.settings.reads q i)) x)
  turn i x av s f l =
      let w = f (omega arith) in
      let p = piece_pending k c.settings q (piece_of c.settings.reads q i) in
      let a = opened_acts k p x w.fine.sizes av in
      let se = claims.settings in
      let size : get_or x.size k 0 ≡ length_of q = same_size (w.slots k ∙ claims.slot) in
      let r : Room (length_of q) p = piece_room c.settings q k i (rw se v.right) ok.burst (rw se l) in
      let here : so_far (suc i) k ≡ suc (so_far i k) = rw (eq-eqb k k refl) (omega arith) in
      record {
        fine = open_fine (so_far (suc i)) p x w.fine av (ap (λ z. z.registers.link) w.core ∙ ok.link) (rw size r) x.core.config a a.core
            (λ j d. rw (ne_eqb j k d)) here;
        slots = λ j. at_each (λ i. slot_at (opened p x) i ≡ slot_at x i) k a.slot a.slots j ∙ w.slots j;
        core = ap (with_free 0) a.core ∙ w.core;
      }

  pub read_fine : FineTo over (read_bridge b q)
  read_fine =
      let x = read_bridge b q in
      let none_yet : (j : ℕ) → pieces_in b j ≡ so_far 0 j =
      λ j. by_test (λ (i : ℕ). pieces_in b j ≡ pieces_in b j + i) (eqb j k) (λ z. omega arith) (λ z. omega arith) in
      let w : Reading all x =
      each_piece k q c (λ i y. i ≤ all → Reading i y)
      (λ l. record { fine = recount none_yet claimed_fine; slots = λ j. refl; core = ap (with_free 0) claims.core })
      turn all (rw claims.core ok.tags) (omega arith) in
      let h : so_far all k ≡ pieces_in b k + all = rw (eq-eqb k k refl) in
      recount
      (at_each (λ j. so_far all j ≡ pieces_in x j) k
      (omega (arith, h, pieces_not b k not_open, pieces_row x k ok.slot, ap row_pieces (w.slots k ∙ claims.slot)))
      (λ j d.
      let i : so_far all j ≡ pieces_in b j + 0 = rw (ne_eqb j k d) in
      omega (arith, i, pieces_same b x j (λ z. ap (λ s. eqb s.config.state 1) w.core) (w.slots j ∙ claims.slots j d))))
      w.fine

-- ---- a routed configuration access

pub routed_fine : {over : ℕ → ℕ} (b : Bridge) (a : Access) (room : ℕ) → FineTo over b → config_refusal b a room ≡ 0 → goes_out (route_of b a) ≡ true
    → FineTo over (routed_bridge b a)
routed_fine b a room v e out =
    let p = passed b.core (route_of b a) room e in
    let x = routed_bridge b a in
    let d = routed_acts b a 8 v.sizes (p.tag out) in
    let was : state_of b 8 ≢ 1 = λ f. omega (arith, state_config b, p.free) in
    let s : state_of x 8 ≡ 1 = state_config x ∙ ap (λ z. z.config.state) d.core in
    let now : pieces_in x 8 ≡ 1 = rw s in
    open_fine (pieces_in x) (word_pending a.write) b v (p.tag out) (p.up out) (record { some = omega arith; whole = omega arith; within = λ h. absurd (omega arith) })
    (open_config a.write (figures_now b.core)) d d.core (pieces_there d (λ n. absurd (n refl))) (omega (arith, pieces_not b 8 was, now))
