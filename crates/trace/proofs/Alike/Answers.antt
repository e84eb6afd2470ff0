-- Refusals, and what is sent and shown, are the same in two bridges alike.
use Prim.Native.Nat.{ℕ, ◌<◌, min}
use mathlib.Core.Path.{◌≡◌, sym, ap, ◌∙◌}
use mathlib.Core.Logic.{◌⊎◌, inl, inr}
use mathlib.Core.Bool.{cond, not, ◌&&◌}
use native.Mathlib.Omega.{arith}
use native.Mathlib.Decide.{ℕ_discrete, dec_lt}
use lib.ListN.{length}
use lib.Seq.{ext_get_or}
use lib.Dec.{eqb, ltb}
use borrow.Author.Tests.{lt-ltb, le-ltb}
use Rattle.address.specs.Settings.{settings_number}
use Rattle.burst.specs.declared.Burst.{Burst}
use Rattle.parts.specs.Answers.{Answer}
use Rattle.parts.specs.declared.ConfigSlot.{ConfigSlot}
use Rattle.machine.specs.State.{Bridge, Slot, slot_at, slot_state, failure_of, slot_count, slot_size, slot_open, config_slot, no_figures, taken, response_of}
use Rattle.machine.specs.Memory.{read_refusal, read_bytes, write_refusal}
use Rattle.machine.specs.Config.{Access, route_of, config_number, config_refusal, config_bytes}
use Rattle.machine.specs.Completions.{store_size, Held, size_of}
use Rattle.machine.specs.Take.{state_of, take_number, take_refusal, looked, figures_of}
use Rattle.bridge_laws.proofs.TakeLaws.{passed, take_refused, look_at_slot, look_at_config}
use Rattle.bridge_laws.proofs.Sends.{accepted_read_sends}
use Rattle.trace.specs.Claims.{answer_apart}
use Rattle.trace.proofs.Soundness.Fine.{state_below, state_config, state_above}
use Rattle.trace.proofs.Alike.Twin.{bare_slot, ConfigsLike, equal, unused, like_number, like_equal, Twin}
use Rattle.trace.proofs.Alike.Stores.{Pair}
use Rattle.trace.proofs.Alike.Reads.{states_same, slot_same}

-- ---- refusals of requests, and bytes sent

-- an open configuration read
busy_same : (c d : ConfigSlot) → ConfigsLike c d → eqb c.state slot_open && not c.write ≡ eqb d.state slot_open && not d.write
busy_same c d (equal e) = ap (λ (z : ConfigSlot). eqb z.state slot_open && not z.write) e
busy_same c d (unused e f) = rw (e, f)

module _ {x y : Bridge} (p : Twin x y) where
  pub read_same : (q : Burst) (room : ℕ) → read_refusal x q room ≡ read_refusal y q room
  unfolding read_refusal
  read_same q room = rw (p.settings, p.core.registers, p.core.free, busy_same x.core.config y.core.config p.core.config, slot_same p)

  pub write_same : (q : Burst) (len room : ℕ) → write_refusal x q len room ≡ write_refusal y q len room
  unfolding write_refusal
  write_same q len room = rw (p.settings, p.core.registers)

  pub route_same : (a : Access) → route_of x a ≡ route_of y a
  route_same a = rw (p.settings, p.core.registers)

  pub config_same : (a : Access) (room : ℕ) → config_refusal x a room ≡ config_refusal y a room
  unfolding config_number
  config_same a room = rw (route_same a, p.core.registers, p.core.free, like_number p.core.config)

  pub config_bytes_lem : (a : Access) → config_bytes x a ≡ config_bytes y a
  config_bytes_lem a = rw (route_same a, p.settings, p.core.free)

  -- the tags that a read takes are those that are free
  pub read_bytes_lem : (q : Burst) (room : ℕ) → settings_number x.settings ≡ 0 → read_refusal x q room ≡ 0 → read_bytes x q ≡ read_bytes y q
  read_bytes_lem q room r e =
      let a = accepted_read_sends x q room r e in
      let b = accepted_read_sends y q room (rw p.settings at r) (sym (read_same q room) ∙ e) in
      rw (a.sent, b.sent, p.settings, p.core.free)

-- ---- taking an answer

module _ {h g : Held} (p : Pair h g) (k : ℕ) where
  pub take_same : take_refusal h.bridge (length h.store) k ≡ take_refusal g.bridge (length g.store) k
  unfolding take_number
  take_same =
      rw (le-ltb (length h.store) store_size p.early, le-ltb (length g.store) store_size p.late, like_number p.twin.core.config, states_same p.twin)

  -- an accepted take finds a finished slot
  module _ (e : take_refusal h.bridge (length h.store) k ≡ 0) where
    found : state_of h.bridge k ≡ 2
    found = (passed (length h.store) (state_of h.bridge k) e).finished

    done : k < slot_count → slot_state h.bridge k ≡ 2
    done l = sym (state_below h.bridge k l) ∙ found

    row_same : k < slot_count → bare_slot (slot_at h.bridge k) ≡ bare_slot (slot_at g.bridge k)
    row_same l = like_equal (p.twin.slots k l) (λ z. omega (arith, z, done l))

    slot_part : k < slot_count → looked h.bridge h.store k ≡ looked g.bridge g.store k
    slot_part l =
        let a = look_at_slot h.bridge h.store k e l in
        let c = look_at_slot g.bridge g.store k (sym take_same ∙ e) l in
        let n : size_of h.bridge k ≡ size_of g.bridge k = ap (λ (s : Slot). min s.size slot_size) (row_same l) in
        ext_get_or 0 (looked h.bridge h.store k) (looked g.bridge g.store k) (a.size ∙ (n ∙ sym c.size))
        (λ i w. let z : i < size_of h.bridge k = rw a.size at w in
        a.at i z ∙ ((p.bytes k l).done (done l) i z ∙ sym (c.at i (rw n at z))))

    placed : (k < slot_count) ⊎ (k ≡ config_slot)
    placed = by (dec_lt k slot_count) (ℕ_discrete k config_slot)
      where
        by : Dec (k < slot_count) → Dec (k ≡ config_slot) → (k < slot_count) ⊎ (k ≡ config_slot)
        by (yes l) w = inl l
        by (no l) (yes w) = inr w
        by (no l) (no w) = absurd (omega (arith, found, state_above h.bridge k (omega arith)))

    -- what a release answers is the same apart from the session number
    abbrev given : Bridge → Answer
    given b =
        cond (ltb k slot_count) (taken (response_of (failure_of b k)) 0 (figures_of b k))
        (taken (response_of b.core.config.response) b.core.config.word b.core.config.figures)

    pub given_same : answer_apart (given h.bridge) ≡ answer_apart (given g.bridge)
    unfolding taken
    given_same = by placed
      where
        by : (k < slot_count) ⊎ (k ≡ config_slot) → answer_apart (given h.bridge) ≡ answer_apart (given g.bridge)
        by (inl l) = rw (lt-ltb k slot_count l) (ap (λ (s : Slot). answer_apart (taken (response_of s.cause) 0 no_figures)) (row_same l))
        by (inr w) =
            let f : h.bridge.core.config.state ≡ 2 = sym (state_config h.bridge) ∙ (ap (state_of h.bridge) (sym w) ∙ found) in
            rw w (ap (λ (c : ConfigSlot). answer_apart (taken (response_of c.response) c.word c.figures)) (like_equal p.twin.core.config (λ n. omega (arith, f))))

  pub looked_same : looked h.bridge h.store k ≡ looked g.bridge g.store k
  looked_same = by (ℕ_discrete (take_refusal h.bridge (length h.store) k) 0)
    where
      part : take_refusal h.bridge (length h.store) k ≡ 0 → (k < slot_count) ⊎ (k ≡ config_slot) → looked h.bridge h.store k ≡ looked g.bridge g.store k
      part e (inl l) = slot_part e l
      part e (inr w) = rw w (look_at_config h.bridge h.store ∙ sym (look_at_config g.bridge g.store))

      by : Dec (take_refusal h.bridge (length h.store) k ≡ 0) → looked h.bridge h.store k ≡ looked g.bridge g.store k
      by (yes e) = part e (placed e)
      by (no e) = (take_refused h.bridge h.store k e).part ∙ sym (take_refused g.bridge g.store k (λ f. e (take_same ∙ f))).part
