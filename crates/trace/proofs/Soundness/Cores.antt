-- Steps that leave every tag as it is: on the core alone, and a release.
use Prim.Native.Nat.{ℕ, ◌+◌, ◌^◌, ◌<◌}
use mathlib.Core.Path.{◌≡◌, refl, sym, ap, ◌∙◌, subst}
use mathlib.Core.Logic.{◌≢◌}
use mathlib.Core.Bool.{false}
use native.Mathlib.Omega.{arith}
use native.Mathlib.Decide.{dec_lt}
use lib.Dec.{eqb}
use Rattle.ecam.specs.Registers.{Registers}
use Rattle.parts.specs.declared.ConfigSlot.{ConfigSlot}
use Rattle.parts.specs.Cores.{Core}
use Rattle.machine.specs.State.{Bridge, Slot, slot_at, tag_count, sent_of, Open, with_registers, with_config, free_config, core_in}
use Rattle.machine.specs.Config.{Access, route_of, config_refusal, local_core, local_bridge}
use Rattle.machine.specs.Ticks.{age_of}
use Rattle.machine.specs.Take.{state_of, slot_freed}
use Rattle.machine.proofs.Configs.{passed}
use Rattle.bridge_laws.specs.Effects.{Acts, same}
use Rattle.bridge_laws.proofs.Effects.{released_acts}
use Rattle.bridge_laws.proofs.Cores.{local_core_lem}
use Rattle.trace.specs.Sound.{pieces_in}
use Rattle.trace.proofs.Soundness.Cases.{at_each, or_else}
use Rattle.trace.proofs.Soundness.Counts.{open_same}
use Rattle.trace.proofs.Soundness.Fine.{SlotFits, FineTo, recount, row_pieces, pieces_row, pieces_same, pieces_not, state_config, state_above}
use Rattle.trace.proofs.Soundness.Acting.{unowned, slot_fine, pieces_there}

-- ---- another core

-- where the configuration slot is open as before, or closed as before
pub core_fine : {over new : ℕ → ℕ} (b : Bridge) (c : Core) → FineTo over b → eqb c.config.state 1 ≡ eqb b.core.config.state 1 → c.free ≡ b.core.free
    → c.ticks < 2 ^ 32 → (c.registers.link ≡ false → b.core.registers.link ≡ false)
    → ((t : ℕ) → Open b t → age_of c.ticks (sent_of b t) < b.settings.limit + new t) → FineTo new (core_in c b)
core_fine b c v e f k l y = record {
  right = v.right;
  sizes = omega (arith, v.sizes);
  clock = k;
  tags = λ t m. let w = v.tags t m in record { used = rw f w.used; whole = w.whole; inside = w.inside; past = w.past; young = y t m };
  count = λ j. open_same b (core_in c b) j tag_count (λ u. refl) ∙ v.count j ∙ sym (pieces_same b (core_in c b) j (λ z. e) refl);
  slots = v.slots;
  down = λ i. let d = v.down (l i) in (f ∙ d.0, d.1);
}

pub registers_fine : {over : ℕ → ℕ} (b : Bridge) (r : Registers) → FineTo over b → r.link ≡ b.core.registers.link → FineTo over (core_in (with_registers r b.core) b)
registers_fine b r v l = core_fine b (with_registers r b.core) v refl refl v.clock (λ e. sym l ∙ e) (λ t m. (v.tags t m).young)

pub local_fine : {over : ℕ → ℕ} (b : Bridge) (a : Access) (room w : ℕ) → FineTo over b → config_refusal b a room ≡ 0 → FineTo over (local_bridge b a w)
local_fine b a room w v e =
    let d = local_core_lem b.core a w in
    let z : b.core.config.state ≡ 0 = (passed b.core (route_of b a) room e).free in
    core_fine b (local_core b.core a w) v (rw (d.config, z)) d.free (rw d.ticks v.clock) (λ g. sym d.link ∙ g) (λ t m. rw d.ticks (v.tags t m).young)

-- ---- a slot is released

module _ {over : ℕ → ℕ} (b : Bridge) (k : ℕ) (v : FineTo over b) (done : state_of b k ≡ 2) where
  released : {g : Slot → Slot} {c : Core → Core} {x : Bridge} (w : ConfigSlot) → Acts 0 k same g c b x → x.core ≡ with_config w b.core
      → (k < 8 → SlotFits (g (slot_at b k))) → (k ≢ 8 → w ≡ b.core.config) → pieces_in x k ≡ 0 → FineTo over x
  released {x = x} w a d f e z =
      let n : state_of b k ≢ 1 = λ y. omega arith in
      recount (at_each (λ j. pieces_in b j ≡ pieces_in x j) k (pieces_not b k n ∙ sym z) (λ j i. sym (pieces_there a (λ y. ap (λ s. s.config) d ∙ e y) j i)))
      (slot_fine w a v (omega arith) d (unowned b k v n) f)

  pub release_fine : FineTo over (slot_freed k b)
  release_fine = go (dec_lt k 8)
    where
      go : Dec (k < 8) → FineTo over (slot_freed k b)
      go (yes l) =
          let a = (released_acts 0 k b v.sizes).0 l in
          released b.core.config a a.core
          (λ y. record { alive = λ z. absurd (omega arith); fits = λ z. absurd (z refl); marked = λ z. absurd (omega arith) })
          (λ y. refl) (pieces_row (slot_freed k b) k l ∙ ap row_pieces a.slot)
      go (no n) =
          let a = (released_acts 0 k b v.sizes).1 (omega arith) in
          let x = slot_freed k b in
          let e : k ≡ 8 = or_else k 8 (λ d. absurd (omega (arith, state_above b k (omega arith)))) in
          let z : state_of x 8 ≡ 0 = state_config x ∙ ap (λ y. y.config.state) a.core in
          released free_config a a.core (λ l. absurd (n l)) (λ d. absurd (d e)) (subst (λ i. pieces_in x i ≡ 0) (sym e) (pieces_not x 8 (λ y. omega arith)))
