-- Ticks and the link leave alone what is not open.
use Prim.Native.Nat.{ℕ, ◌≤◌, ◌<◌}
use mathlib.Core.Path.{◌≡◌, refl, sym, ap, subst, ◌∙◌}
use mathlib.Core.Bool.{Bool, true, false, not, ◌&&◌}
use mathlib.Core.Logic.{inr, ◌≢◌}
use native.Mathlib.Decide.{ℕ_discrete}
use native.Mathlib.Omega.{arith}
use lib.ListN.{length, get_or}
use lib.Dec.{ltb, eqb}
use borrow.Author.Tests.{lt-ltb, ltb-false, eqb-true, eq-eqb, ne_eqb}
use Rattle.common.proofs.Tests.{and_left}
use Rattle.parts.specs.Cores.{Core}
use Rattle.parts.specs.declared.ConfigSlot.{ConfigSlot}
use Rattle.verdict.specs.declared.Cause.TheVariants.{Timeout}
use Rattle.machine.specs.Bridge.{Bridge}
use Rattle.machine.specs.State.{tag_count, slot_count, with_ticks, core_in, slot_at, missing_of, owner_of, place_of, slot_state, slot_open, is_open, shut}
use Rattle.machine.specs.Completions.{store_size, Held, held, failed}
use Rattle.machine.specs.Ticks.{next_tick, is_old, timed_out, expire_to, ticked, link_to, drop_config, link_lost, drop_slot, drop_slots, linked}
use Rattle.machine.specs.Take.{state_in, state_of}
use Rattle.bridge_laws.specs.CompletionLaws.{Kept, BytesOnly, slot_of, Unawaited, AnswerSame}
use Rattle.bridge_laws.specs.TickLaws.{RefusedTick, RefusedLink, TickStays, LinkStays}
use Rattle.bridge_laws.proofs.Rows.{either}
use Rattle.bridge_laws.proofs.Parts.{same_missing, same_place, same_state}
use Rattle.bridge_laws.proofs.Verbs.{shut_tag_lem, piece_leaves}
use Rattle.bridge_laws.proofs.Steps.{Late, memory, config, timed_steps}
use Rattle.bridge_laws.proofs.Dropping.{drop, drop_store, drop_idle, lost_slot_lem, lost_config}
use Rattle.bridge_laws.proofs.Stores.{dropped_bytes, other_slot}
use Rattle.bridge_laws.proofs.Turns.{each_tag, each_slot}
use Rattle.bridge_laws.proofs.Keeping.{late_kept}
use Rattle.bridge_laws.proofs.Finished.{slot_same, answer_rows, answer_same, answer_then, kept_answer}

pub refused_tick : RefusedTick
unfolding ticked
refused_tick h l = rw (lt-ltb _ _ l)

pub refused_link : RefusedLink
unfolding linked
refused_link up h l = rw (lt-ltb _ _ l)

-- ---- one request that times out

-- its tag has nothing missing any more
late_missing : {t : ℕ} {h x : Held} → Late t h x → missing_of x.bridge t ≡ 0
late_missing {t} {h} (memory m) =
    let b = failed (owner_of h.bridge t) (place_of h.bridge t) Timeout h.bridge in
    same_missing ((piece_leaves (owner_of h.bridge t) (held (shut t b) h.store)).tag t ∙ shut_tag_lem t b)
late_missing {t} (config m) = same_missing (shut_tag_lem t _)

not_open : {A : Type 0} (m p : ℕ) → m ≡ 0 → is_open m p ≡ true → A
not_open m p z e = let f : is_open 0 p ≡ true = rw z at e in let o : ◌≡◌ {A = ℕ} 0 1 = cc in absurd (omega arith)

timed_apart : (h : Held) (t j : ℕ) → store_size ≤ length h.store → Unawaited j h.bridge → Unawaited j (timed_out t h).bridge
timed_apart h t j l f u e = go (ℕ_discrete u t)
  where
    p : Kept (owner_of h.bridge t) t h (timed_out t h)
    p = late_kept (timed_steps t h) l

    go : Dec (u ≡ t) → slot_of (timed_out t h).bridge u ≢ j
    go (yes w) = not_open _ _ (ap (missing_of (timed_out t h).bridge) w ∙ late_missing (timed_steps t h)) e
    go (no w) = λ o. f u (rw (same_missing (p.here.tags u w), same_place (p.here.tags u w)) at e) (rw p.here.owner at o)

-- ---- a tick

record Stays (j : ℕ) (h x : Held) : Type 0 where
  answer : AnswerSame j h x
  apart : Unawaited j x.bridge

expired_stays : (h : Held) (j : ℕ) → store_size ≤ length h.store → Unawaited j h.bridge → Stays j h (expire_to h tag_count)
expired_stays h j l f = each_tag (λ n. Stays j h) h (record { answer = answer_same j h; apart = f }) (λ n x m e p. p) old
  where
    old : (n : ℕ) (x : Held) → n < tag_count → is_old x.bridge n ≡ true → Stays j h x → Stays j h (timed_out n x)
    old n x m e p =
        let r : store_size ≤ length x.store = rw p.answer.room l in
        let o = and_left (is_open (missing_of x.bridge n) (place_of x.bridge n)) _ e in
        record {
          answer = answer_then j h x (timed_out n x) p.answer (kept_answer j n x (timed_out n x) (p.apart n o) (late_kept (timed_steps n x) r));
          apart = timed_apart x n j r p.apart;
        }

pub tick_stays : TickStays
unfolding ticked
tick_stays h j f =
    let b = core_in (with_ticks (next_tick h.bridge.core.ticks) h.bridge.core) h.bridge in
    let x = held b h.store in
    either (AnswerSame j h) (ltb (length h.store) store_size) _ _ (λ z. answer_same j h)
    (λ z. answer_then j h x (expire_to x tag_count) (answer_rows j h b refl (λ e. refl)) (expired_stays x j (ltb-false _ _ z) f).answer)

-- ---- the link

-- the slots in turn: one that is not open stays
dropped_stays : (h : Held) (j : ℕ) → store_size ≤ length h.store → (j < slot_count → slot_state h.bridge j ≢ slot_open) → AnswerSame j h (drop_slots h slot_count)
dropped_stays h j l o = each_slot (λ n. AnswerSame j h) h (answer_same j h) (λ n x m p. turn n x m p (eqb (slot_state x.bridge n) slot_open) refl)
  where
    turn : (n : ℕ) (x : Held) → n < slot_count → AnswerSame j h x → (z : Bool) → eqb (slot_state x.bridge n) slot_open ≡ z → AnswerSame j h (drop_slot x n)
    turn n x m p false z = subst (AnswerSame j h) (sym (drop_idle n x z)) p
    turn n x m p true z =
        let a = (drop n x).alone in
        let r : store_size ≤ length x.store = rw p.room l in
        let b : BytesOnly n x.store (drop_slot x n).store = rw (drop_store n x) (dropped_bytes n (slot_at x.bridge n) x.store m r) in
        answer_then j h x (drop_slot x n) p
        (record {
          slot = λ s.
              let d : j ≢ n = λ e. o s (sym (same_state (p.slot s).row) ∙ (ap (slot_state x.bridge) e ∙ eqb-true _ _ z)) in
              slot_same j x (drop_slot x n) (a.slots j d) (other_slot b j d);
          config = λ e. ap (λ (c : Core). c.config) a.core;
          room = b.room;
          beyond = λ i g. b.bytes i (inr (omega arith));
        })

-- the state of each slot
state_slot : (b : Bridge) (j : ℕ) → j < 8 → state_of b j ≡ get_or b.state j 0
unfolding state_in
state_slot b j l = rw (lt-ltb j 8 l, ne_eqb j 8 (λ e. omega arith))

state_config : (b : Bridge) (j : ℕ) → j ≡ 8 → state_of b j ≡ b.core.config.state
unfolding state_in
state_config b j e = rw (eq-eqb j 8 e)

-- what is not open is not changed by a drop
config_left : (c : ConfigSlot) → c.state ≢ 1 → drop_config c ≡ c
config_left c n = either (λ d. d ≡ c) (eqb c.state 1) _ _ (λ z. absurd (n (eqb-true _ _ z))) (λ z. refl)

pub link_stays : LinkStays
unfolding linked
link_stays up h j o =
    let b = h.bridge in
    let x = held (link_lost b) h.store in
    let s = lost_slot_lem b j in
    either (AnswerSame j h) (ltb (length h.store) store_size) _ _ (λ z. answer_same j h)
    (λ z.
    either (AnswerSame j h) (not up && b.core.registers.link) _ _
    (λ w.
    answer_then j h x (drop_slots x slot_count)
    (answer_rows j h (link_lost b) s (λ e. lost_config b ∙ config_left b.core.config (λ f. o (state_config b j e ∙ f))))
    (dropped_stays x j (ltb-false _ _ z) (λ l e. o (state_slot b j l ∙ (sym (same_state s) ∙ e)))))
    (λ w. answer_rows j h (core_in (link_to up b.core) b) refl (λ e. refl)))
