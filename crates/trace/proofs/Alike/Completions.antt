-- A completion, in two bridges alike.
use Prim.Native.Nat.{ℕ, zero, suc, ◌+◌, ◌%◌, ◌≤◌, ◌<◌}
use mathlib.Core.Path.{◌≡◌, refl, sym, ap, ◌∙◌, subst}
use mathlib.Core.List.{List}
use mathlib.Core.Bool.{Bool, true, false, cond, ◌&&◌}
use native.Mathlib.Omega.{arith}
use native.Mathlib.Decide.{ℕ_discrete}
use lib.ListN.{length, drop, length-take, length-drop}
use lib.Dec.{eqb, ltb}
use borrow.Author.Tests.{eqb-true, ltb-true, ltb-false, lt-ltb, le-ltb}
use Rattle.std.specs.Prelude.{Result, Ok, Err}
use Rattle.refusals.specs.declared.Refusal.{Refusal}
use Rattle.tlp.specs.declared.completion.Completion.{Completion}
use Rattle.address.specs.declared.Settings.{Settings}
use Rattle.verdict.specs.declared.Verdict.{Verdict}
use Rattle.verdict.specs.declared.Verdict.TheVariants.{Unexpected, Good}
use Rattle.machine.specs.State.{Bridge, Tag, tag_at, missing_of, owner_of, place_of, next_address, slot_state, open_pieces, Open, is_open, tag_count, slot_count, slot_size, config_write, core_in, refusal_change}
use Rattle.machine.specs.Verdict.{memory_verdict, config_verdict}
use Rattle.machine.specs.Completions.{store_size, Held, held, memory_completed, config_completed, verdict_of, verdict_number, completion_of, useful_bytes, is_unexpected, read_refused, complete_refusal, expected, completed_by, completed}
use Rattle.machine.specs.Code.Expected.{Fits, Whole}
use Rattle.machine.proofs.Judging.{verdict_fits, read_whole, open_room}
use Rattle.bridge_laws.proofs.Effects.{memory_serves}
use Rattle.bridge_laws.proofs.Coming.{verdict_memory}
use Rattle.bridge_laws.proofs.Finished.{accepted_is_open}
use Rattle.bridge_laws.proofs.Parts.{same_owner}
use Rattle.trace.specs.Sound.{named, open_in, Sound}
use Rattle.trace.proofs.Soundness.Counts.{is_named, open_counted}
use Rattle.trace.proofs.Soundness.Fine.{tag_below, owner_open, state_below, pieces_open}
use Rattle.trace.proofs.Soundness.Sound.{fine_of}
use Rattle.trace.proofs.Alike.Twin.{Twin, look_same, tag_same, refused_cores}
use Rattle.trace.proofs.Alike.Stores.{Pair, core_pair}
use Rattle.trace.proofs.Alike.Pieces.{serve_pair, word_pair}
use Rattle.trace.proofs.Alike.Times.{ready, test_open, waits}

-- ---- the verdict is the same

-- by the requester ID and what is kept of the tag
abbrev judge : Completion → ℕ → Tag → Verdict
judge c ours r =
    cond (eqb c.requester ours && is_open r.missing r.place)
    (cond (ltb r.owner slot_count) (memory_verdict c r.missing r.next) (config_verdict c (eqb r.kind config_write)))
    Unexpected

judge_closed : (c : Completion) (ours : ℕ) (r : Tag) → r.missing ≡ 0 → judge c ours r ≡ Unexpected
judge_closed c ours r e = rw (e, by (eqb c.requester ours))
  where
    by : (z : Bool) → z && false ≡ false
    by true = refl
    by false = refl

verdict_same : {x y : Bridge} → Twin x y → (c : Completion) → verdict_of x c ≡ verdict_of y c
unfolding verdict_of
verdict_same {x} {y} p c =
    look_same p (judge c x.settings.requester) Unexpected (judge_closed c x.settings.requester) c.tag
    ∙ ap (λ (s : Settings). judge c s.requester (tag_at y c.tag)) p.settings

pub complete_same : {h g : Held} → Pair h g → (s : List ℕ) → complete_refusal h.bridge (length h.store) s ≡ complete_refusal g.bridge (length g.store) s
unfolding complete_refusal
complete_same {h} {g} p s = rw (le-ltb (length h.store) store_size p.early, le-ltb (length g.store) store_size p.late) (by (completion_of s))
  where
    by : (r : Result Completion Refusal) → read_refused h.bridge r ≡ read_refused g.bridge r
    by (Ok c) = ap verdict_number (verdict_same p.twin c)
    by (Err r) = refl

-- ---- an open tag of a slot with one open piece is the only one

only : (b : Bridge) (k t u n : ℕ) → named b k t ≡ true → named b k u ≡ true → t < n → u < n → open_in b k n ≤ 1 → u ≡ t
unfolding open_in
only b k t u zero e f a c m = absurd (omega arith)
only b k t u (suc n) e f a c m = by (ℕ_discrete t n) (ℕ_discrete u n) (only b k t u n e f)
  where
    counts : (v : ℕ) → named b k v ≡ true → v ≡ n → open_in b k n ≡ 0
    counts v g x = let q : named b k n ≡ true = rw x at g in let l : open_in b k n + 1 ≤ 1 = rw q at m in omega arith

    by : Dec (t ≡ n) → Dec (u ≡ n) → (t < n → u < n → open_in b k n ≤ 1 → u ≡ t) → u ≡ t
    by (yes x) (yes y) ih = y ∙ sym x
    by (yes x) (no y) ih = absurd (omega (arith, counts t e x, open_counted b k u n f (omega arith)))
    by (no x) (yes y) ih = absurd (omega (arith, counts u f y, open_counted b k t n e (omega arith)))
    by (no x) (no y) ih = ih (omega arith) (omega arith) (omega arith)

alone : (h : Held) (k t : ℕ) → Sound h → k < slot_count → slot_state h.bridge k ≡ 1 → Open h.bridge t → owner_of h.bridge t ≡ k
    → open_pieces h.bridge k ≤ 1 → (u : ℕ) → Open h.bridge u → owner_of h.bridge u ≡ k → u ≡ t
alone h k t v l s m o few u n q =
    let b = h.bridge in
    only b k t u tag_count (is_named b k t m o) (is_named b k u n q) (tag_below b t v.sizes m) (tag_below b u v.sizes n)
    (omega (arith, v.count k, pieces_open b k l s))

-- ---- one that is expected

module _ {h g : Held} (s : List ℕ) (c : Completion) (e : completion_of s ≡ Ok c) (v : Sound h) (p : Pair h g)
    (z : is_unexpected (verdict_of h.bridge c) ≡ false) (opens : is_open (missing_of h.bridge c.tag) (place_of h.bridge c.tag) ≡ true) where
  abbrev k : ℕ
  k = owner_of h.bridge c.tag

  some : Open h.bridge c.tag
  some = test_open (missing_of h.bridge c.tag) (place_of h.bridge c.tag) opens

  below : c.tag < tag_count
  below = tag_below h.bridge c.tag v.sizes some

  -- the bytes that a good one writes are there, and lie in the slot
  written : k < slot_count → (n : ℕ) → verdict_of h.bridge c ≡ Good n
      → (place_of h.bridge c.tag + n ≤ slot_size) × (n ≤ length (useful_bytes (c.lower % 4) n (drop 12 s)))
  written small n q =
      let m = missing_of h.bridge c.tag in
      let whole : Whole s (Ok c) = rw e at (read_whole s) in
      let f : Fits c m (Good n) = subst (Fits c m) (sym (verdict_memory h.bridge c z (lt-ltb _ _ small)) ∙ q) (verdict_fits c m (next_address h.bridge c.tag) whole.0) in
      (omega (arith, f.most, open_room m (place_of h.bridge c.tag) opens), simp (length-take, length-drop) (omega (arith, f.inside, whole.1)))

  served : Held → ℕ → Verdict → Bool → Held
  served x j w q =
      cond q (memory_completed x c.tag j (c.lower % 4) (drop 12 s) w) (held (config_completed x.bridge c.tag (drop 12 s) w) x.store)

  served_pair : (q : Bool) → ltb k slot_count ≡ q → Pair (served h k (verdict_of h.bridge c) q) (served g k (verdict_of h.bridge c) q)
  unfolding served
  served_pair true q =
      let small = ltb-true k slot_count q in
      let r = ready h v c.tag some in
      let w = waits h.bridge c.tag opens r small in
      let state = sym (state_below h.bridge k small) ∙ owner_open h.bridge c.tag (fine_of h v) some in
      serve_pair p w state (alone h k c.tag v small state some refl) (written small)
      (memory_serves h c.tag k (c.lower % 4) (drop 12 s) (verdict_of h.bridge c) p.twin.early below small z)
      (memory_serves g c.tag k (c.lower % 4) (drop 12 s) (verdict_of h.bridge c) p.twin.late below small z)
  served_pair false q =
      let big = ltb-false k slot_count q in
      word_pair p c.tag (drop 12 s) (verdict_of h.bridge c) below big ((ready h v c.tag some).word big)

  expected_pair : Pair (expected h c (drop 12 s)) (expected g c (drop 12 s))
  unfolding served expected
  expected_pair =
      let o = same_owner (tag_same p.twin c.tag some) in
      subst (Pair (served h k (verdict_of h.bridge c) (ltb k slot_count))) (λ i. served g (o i) (verdict_same p.twin c i) (ltb (o i) slot_count))
      (served_pair (ltb k slot_count) refl)

-- ---- any

pub completed_pair : (h g : Held) (s : List ℕ) → Sound h → Pair h g → Pair (completed h s) (completed g s)
unfolding completed
completed_pair h g s v p =
    subst (λ m. Pair (completed h s) (after g m (eqb m 0))) (complete_same p s) (by (eqb n 0) refl)
  where
    after : Held → ℕ → Bool → Held
    after x m q = cond q (completed_by x s (completion_of s)) (held (core_in (refusal_change m x.bridge.core) x.bridge) x.store)

    n : ℕ
    n = complete_refusal h.bridge (length h.store) s

    by : (q : Bool) → eqb n 0 ≡ q → Pair (after h n q) (after g n q)
    by true q =
        let a = accepted_is_open h.bridge (length h.store) s (eqb-true _ _ q) in
        rw a.reads (expected_pair s a.header a.reads v p a.expected a.opened)
    by false q = core_pair p (refusal_change n) (refused_cores p.twin.core n)
