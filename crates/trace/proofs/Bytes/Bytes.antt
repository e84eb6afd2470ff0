-- THE FIRST CLAIM: a read that is answered OKAY holds the bytes that were sent for it.
use Prim.Native.Nat.{ℕ, ◌+◌, ◌<◌}
use mathlib.Core.Path.{◌≡◌, refl, sym, ap, subst, ◌∙◌}
use mathlib.Core.Logic.{inl, inr, by_cases}
use mathlib.Core.List.{List, [], ◌∷◌, flat_map}
use native.Mathlib.Omega.{arith}
use native.Mathlib.Decide.{ℕ_discrete}
use lib.ListN.{length, get_or}
use lib.Dec.{eqb}
use borrow.Author.Tests.{eq-eqb, ne_eqb}
use Rattle.burst.specs.declared.Burst.{Burst}
use Rattle.burst.specs.Bursts.{length_of}
use Rattle.burst.specs.Pieces.{addresses}
use Rattle.burst.proofs.Pieces.{accepted_covers}
use Rattle.burst.proofs.Tiling.{piece_not_empty}
use Rattle.refusals.specs.declared.Response.{Response}
use Rattle.refusals.specs.declared.Response.TheVariants.{Okay}
use Rattle.machine.specs.State.{Bridge, tag_at, free_slot, response_of}
use Rattle.machine.specs.Memory.{pcie_of, piece_of, read_refusal, read_bridge, read_step}
use Rattle.machine.specs.Completions.{Held, held}
use Rattle.machine.specs.Take.{state_of, looked}
use Rattle.machine.proofs.Refusals.{read_ok}
use Rattle.bridge_laws.specs.MemoryLaws.{tag_of}
use Rattle.bridge_laws.proofs.TakeLaws.{passed, look_at_slot, release_responds}
use Rattle.bridge_laws.proofs.Parts.{same_missing, same_owner, same_place, same_state, same_size, same_fault, same_cause}
use Rattle.trace.specs.Events.{Event, call, read, step, run, start}
use Rattle.trace.specs.FarSide.{Ask, ask_of, bytes_sent, Answers, Wire, sending, wire_after, AllAnswered}
use Rattle.trace.specs.Claims.{AnsweredOkay, sent_for, Bytes}
use Rattle.trace.specs.Sound.{Sound}
use Rattle.trace.proofs.Soundness.Sound.{sound_step}
use Rattle.trace.proofs.Soundness.Fine.{state_below}
use Rattle.trace.proofs.Tags.Turn.{no_path}
use Rattle.trace.proofs.Tags.Wire.{own_of, Wired}
use Rattle.trace.proofs.Tags.Asks.{own_new, answered_at}
use Rattle.trace.proofs.Tags.Opened.{turns, turns_many, turn_is, limit_some, free_slot_free, opens_read, turns_distinct}
use Rattle.trace.proofs.Tags.Wired.{step_wired, reach_start}
use Rattle.trace.proofs.Bytes.Joined.{joined}
use Rattle.trace.proofs.Bytes.Put.{either}
use Rattle.trace.proofs.Bytes.Stage.{Read, count, piece, place, part, inside, Waits, waits_same, Mine, Whole, Stage, spoilt, clean}
use Rattle.trace.proofs.Bytes.Passing.{Row, read_rows}
use Rattle.trace.proofs.Bytes.Reading.{waits_open, run_stage}

-- ---- the read is accepted

module _ (sent : ℕ → List (List ℕ)) (h : Held) (q : Burst) (room : ℕ) (s : Sound h) (e : read_refusal h.bridge q room ≡ 0) (w : Wire) where
  abbrev taken : Read
  taken =
      record {
        sent = sent;
        limit = h.bridge.settings.reads;
        burst = q;
        slot = free_slot h.bridge;
        first = w.count;
        some = limit_some h.bridge s.right;
        small = (read_ok h.bridge q room e).slot;
        most = (accepted_covers q (read_ok h.bridge q room e).burst).most;
      }

  abbrev x : Bridge
  x = read_bridge h.bridge q

  abbrev z : Wire
  z = sending w (turns h.bridge q)

  -- the tag of piece j waits for the j-th request
  waits_at : (j : ℕ) → j < count taken → Waits (free_slot h.bridge) x (tag_of h.bridge j)
  waits_at j g =
      let some = (accepted_covers q (read_ok h.bridge q room e).burst).some in
      let r = (opens_read sent h q room s e).tag j g in
      (λ y. omega (arith, same_missing r, piece_not_empty h.bridge.settings.reads q.start.0 (length_of q) j taken.some some g), same_owner r)

  own_at : (j : ℕ) → j < count taken → own_of z.live (tag_of h.bridge j) ≡ w.count + j
  own_at j g =
      ap (λ (a : Ask). own_of z.live a.tag) (sym (turn_is h.bridge q j g))
      ∙ own_new (turns h.bridge q) w j (turns_distinct sent h q room s e) (omega (arith, turns_many h.bridge q))

  module _ (es : List Event) (v : Wired sent h w (call (read q room) ∷ es)) (a : AllAnswered sent w.count (turns h.bridge q)) where
    -- nothing has come for it
    mine_at : (j : ℕ) → j < count taken → Mine taken h.store es (own_of z.live (tag_of h.bridge j)) (tag_at x (tag_of h.bridge j)) j
    mine_at j g =
        let b = h.bridge in
        let o = (opens_read sent h q room s e).tag j g in
        let y : Answers (ask_of b q j).wanted (sent (w.count + j)) = rw (turn_is b q j g) at (answered_at sent (turns b q) w.count j a (omega (arith, turns_many b q))) in
        record {
          own = own_at j g;
          next = pcie_of b.settings.windows q (piece taken j).first;
          flow = rw (same_missing o) (record { got = []; rest = sent (w.count + j); size = omega arith; bytes = refl; sends = y; comes = v.labels.future (w.count + j) (omega arith) });
          ends = omega (arith, same_place o, same_missing o);
          bytes = λ y l. absurd (omega (arith, same_place o));
        }

    -- and no other tag waits
    mines : (t : ℕ) → Waits (free_slot h.bridge) x t → Row h.bridge (count taken) x t → (j : ℕ) × (j < count taken) × Mine taken h.store es (own_of z.live t) (tag_at x t) j
    mines t m (inl y) = absurd (omega (arith, waits_open (free_slot h.bridge) t s (read_ok h.bridge q room e).slot (waits_same (free_slot h.bridge) x h.bridge t (sym y) m), free_slot_free h q room s e))
    mines t m (inr (j, g, y)) = (j, g, subst (λ (t : ℕ). Mine taken h.store es (own_of z.live t) (tag_at x t) j) y (mine_at j g))

    begins : Stage taken (held x h.store) z es
    begins =
        let o = (opens_read sent h q room s e).slot in
        clean (record {
          slot = record { used = λ y. omega (arith, same_state o); cause = same_cause o; fault = same_fault o; size = same_size o };
          mine = λ t m. mines t m (read_rows h.bridge q room s.sizes e t);
          whole = λ j g n. absurd (n (tag_of h.bridge j) (waits_at j g) (own_at j g));
        })

-- ---- the read is answered

-- an OKAY answer has no failure
okay_cause : (h : Held) (k : ℕ) → k < 8 → AnsweredOkay k h → get_or h.bridge.cause k 0 ≡ 0
unfolding response_of
okay_cause h k small a =
    let n = get_or h.bridge.cause k 0 in
    let e : response_of n ≡ Okay = sym ((release_responds h.bridge (length h.store) k a.answered).0 small) ∙ a.okay in
    by_cases (ℕ_discrete n 0) (λ z. z) (λ d. either (λ (x : Response). x ≡ Okay → n ≡ 0) (eqb n 3) (λ g. no_path (cc)) (λ g. no_path (cc)) (rw (ne_eqb n 0 d) at e))

module _ (r : Read) (h : Held) (s : Sound h) (a : AnsweredOkay r.slot h) where
  holds : (w : Wire) → Stage r h w []
      → (looked h.bridge h.store r.slot ≡ flat_map (λ (j : ℕ). bytes_sent (piece_of r.limit r.burst j).length (r.sent (r.first + j))) (addresses 0 (count r)))
      × (length (looked h.bridge h.store r.slot) ≡ length_of r.burst)
  unfolding part
  holds w (spoilt y) = absurd (y.cause (okay_cause h r.slot r.small a))
  holds w (clean c) =
      let p = look_at_slot h.bridge h.store r.slot a.answered r.small in
      let done = (passed (length h.store) (state_of h.bridge r.slot) a.answered).finished in
      let whole : (j : ℕ) → j < count r → Whole r h.store j = λ j l. c.whole j l (λ t m. absurd (omega (arith, waits_open r.slot t s r.small m, state_below h.bridge r.slot r.small))) in
      let z : length (looked h.bridge h.store r.slot) ≡ length_of r.burst = omega (arith, p.size, c.slot.size, r.most) in (
        joined r.limit r.burst.start.0 (length_of r.burst) r.some (part r) (looked h.bridge h.store r.slot) z (λ j l. (whole j l).exact)
            (λ j y l g. p.at (place r j + y) (omega (arith, c.slot.size, r.most, inside r j l)) ∙ (whole j l).bytes y g),
        z,
      )

-- ---- THE CLAIM

pub bytes : Bytes
unfolding read_step
bytes s store long sent before q room later far refusal untaken okay =
    let h = run (start s store) before in
    let e = call (read q room) in
    let g = reach_start sent s store long before (e ∷ later) far in
    let w = g.wire in
    let x = (step h e).after in
    let r = taken sent h q room g.sound refusal w in
    let ok = eq-eqb (read_refusal h.bridge q room) 0 refusal in
    let v : Stage r x (wire_after w h e) later = rw ok (begins sent h q room g.sound refusal w later g.wired (rw ok at g.along.1)) in
    let y = run_stage r later x (wire_after w h e) (sound_step h e g.sound) (step_wired sent h e w later g.sound g.along g.wired) g.along.2 untaken v in
    let t = holds r (run x later) y.2 okay y.0 y.1 in
    (t.0 ∙ ap (λ (n : ℕ). sent_for sent n h.bridge q) g.count, t.1)
