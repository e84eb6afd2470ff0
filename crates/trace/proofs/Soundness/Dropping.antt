-- A bridge with no access open, as a link drop leaves it: what holds of every state holds of it.
use Prim.Native.Nat.{ℕ, ◌^◌, ◌≤◌, ◌<◌}
use mathlib.Core.Path.{◌≡◌, sym, ap, ◌∙◌, subst}
use mathlib.Core.Logic.{◌≢◌}
use native.Mathlib.Omega.{arith}
use lib.Dec.{ltb, eqb}
use borrow.Author.Tests.{eqb-true, eqb-false, ltb-true}
use Rattle.address.specs.Settings.{settings_number}
use Rattle.parts.specs.declared.ConfigSlot.{ConfigSlot}
use Rattle.machine.specs.State.{Bridge, Slot, slot_at, tag_count}
use Rattle.machine.specs.Completions.{Held}
use Rattle.machine.specs.Ticks.{drop_config}
use Rattle.machine.specs.Take.{state_in, state_of}
use Rattle.bridge_laws.specs.Rows.{dropped_slot}
use Rattle.bridge_laws.specs.Effects.{Lost}
use Rattle.bridge_laws.proofs.Parts.{same_missing}
use Rattle.bridge_laws.proofs.Cores.{raised_core_lem}
use Rattle.trace.specs.Sound.{Tables}
use Rattle.trace.proofs.Soundness.Cases.{by_test}
use Rattle.trace.proofs.Soundness.Counts.{all_closed}
use Rattle.trace.proofs.Soundness.Fine.{SlotFits, Idle, FineTo, pieces_not}

-- no slot is open
module _ (b : Bridge) (low : (k : ℕ) → k < 8 → (slot_at b k).state ≢ 1) (config : b.core.config.state ≢ 1) where
  none_waits : (k : ℕ) → state_of b k ≢ 1
  unfolding state_in
  none_waits k =
      by_test (λ (s : ℕ). s ≢ 1) (eqb k 8) (λ e. config)
      (λ e. by_test (λ (s : ℕ). s ≢ 1) (ltb k 8) (λ f. low k (ltb-true k 8 f)) (λ f z. omega arith))

  pub idle_fine : {over : ℕ → ℕ} → settings_number b.settings ≡ 0 → Tables b → b.core.ticks < 2 ^ 32 → Idle b
      → ((k : ℕ) → k < 8 → (slot_at b k).state ≢ 0 → (slot_at b k).size ≤ 4096) → FineTo over b
  idle_fine r s c i w = record {
    right = r;
    sizes = s;
    clock = c;
    tags = λ t m. absurd (m (i.1 t));
    count = λ k. all_closed b k tag_count i.1 ∙ sym (pieces_not b k (none_waits k));
    slots = λ k l. record { alive = λ e. absurd (low k l e); fits = w k l; marked = λ e. absurd (low k l e) };
    down = λ e. i;
  }

-- ---- a link drop

record Dropped (s : Slot) : Type 0 where
  fits : s.state ≢ 0 → s.size ≤ 4096
  done : s.state ≢ 1

dropped_row : (s : Slot) → SlotFits s → Dropped (dropped_slot s)
dropped_row s w =
    by_test Dropped (eqb s.state 1)
    (λ e. record { fits = λ z. w.fits (λ y. omega (arith, eqb-true s.state 1 e)); done = λ z. absurd (omega arith) })
    (λ e. record { fits = w.fits; done = eqb-false _ _ e })

config_done_lem : (c : ConfigSlot) → (drop_config c).state ≢ 1
config_done_lem c = by_test (λ (x : ConfigSlot). x.state ≢ 1) (eqb c.state 1) (λ e f. omega arith) (λ e. eqb-false _ _ e)

pub lost_fine : {over new : ℕ → ℕ} {h x : Held} → FineTo over h.bridge → Lost h x → FineTo new x.bridge
lost_fine {h = h} {x = x} v w =
    let b = h.bridge in
    let e = w.core in
    let row : (k : ℕ) → k < 8 → Dropped (slot_at x.bridge k) = λ k l. subst Dropped (sym (w.slot k l)) (dropped_row (slot_at b k) (v.slots k l)) in
    idle_fine x.bridge (λ k l. (row k l).done) (λ z. config_done_lem b.core.config (sym (ap (λ s. s.config.state) e ∙ ap (λ s. s.state) (raised_core_lem 0 _).config) ∙ z))
    (ap settings_number w.settings ∙ v.right) w.tables (rw (ap (λ s. s.ticks) e ∙ (raised_core_lem 0 _).ticks) v.clock)
    (ap (λ s. s.free) e ∙ (raised_core_lem 0 _).free, λ t. same_missing (w.tag t)) (λ k l. (row k l).fits)
