-- Session numbers, step by step.
use Prim.Native.Nat.{◌+◌, ◌%◌, ◌^◌}
use mathlib.Core.Path.{◌≡◌, refl, ap, ◌∙◌}
use mathlib.Core.Bool.{true, false, cond, ◌&&◌, not}
use lib.ListN.{length}
use lib.Dec.{ltb}
use native.Mathlib.Omega.{arith}
use borrow.Author.Tests.{eq-eqb, lt-ltb, le-ltb}
use Rattle.ecam.specs.Route.{Route, OutOfRange, Local, Type0, Type1, NotRouted, DeviceNotZero, number_of}
use Rattle.parts.specs.Cores.{Core}
use Rattle.parts.specs.declared.ConfigSlot.{ConfigSlot}
use Rattle.machine.specs.State.{Bridge, Slot, slot_count, figures_now, taken}
use Rattle.machine.specs.Memory.{read_step}
use Rattle.machine.specs.Config.{Access, route_of, routed_bridge, config_bridge, config_step}
use Rattle.machine.specs.Completions.{store_size, Held, held}
use Rattle.machine.specs.Ticks.{drop_slots, link_lost, linked}
use Rattle.machine.specs.Take.{release_step}
use Rattle.machine.proofs.Configs.{passed}
use Rattle.bridge_laws.specs.SessionLaws.{LinkCounts, ReadFigures, ConfigFigures, ReleaseReports}
use Rattle.bridge_laws.proofs.Cores.{raised_core_lem, local_core_lem}
use Rattle.bridge_laws.proofs.MessageLaws.{slots_core}
use Rattle.bridge_laws.proofs.Rows.{either}
use Rattle.bridge_laws.proofs.Serving.{routed_takes}
use Rattle.bridge_laws.proofs.Stored.{accepted_read_opens}

-- the counter after a drop
drop_keeps : (h : Held) → (drop_slots (held (link_lost h.bridge) h.store) slot_count).bridge.core.session ≡ h.bridge.core.session
unfolding link_lost
drop_keeps h = ap (λ (c : Core). c.session) (slots_core (held (link_lost h.bridge) h.store)) ∙ (raised_core_lem _ _).session

pub link_counts : LinkCounts
unfolding linked
link_counts true h =
    let P : Held → Type 0 = λ x.
    x.bridge.core.session
    ≡ cond (not (ltb (length h.store) store_size) && true && not h.bridge.core.registers.link) ((h.bridge.core.session + 1) % 2 ^ 32)
    h.bridge.core.session in
    either P (ltb (length h.store) store_size) _ _ (λ e. rw e) (λ e. rw e)
link_counts false h =
    let P : Held → Type 0 = λ x.
    x.bridge.core.session
    ≡ cond (not (ltb (length h.store) store_size) && false && not h.bridge.core.registers.link) ((h.bridge.core.session + 1) % 2 ^ 32)
    h.bridge.core.session in
    either P (ltb (length h.store) store_size) _ _ (λ e. rw e)
    (λ e. either P (not false && h.bridge.core.registers.link) _ _ (λ f. rw e (drop_keeps h)) (λ f. rw e))

pub read_figures : ReadFigures
unfolding read_step
read_figures b q room v e = rw (eq-eqb _ _ e) (ap (λ (s : Slot). record { session = s.session }) (accepted_read_opens b q room v e).slot)

routed_figures : (b : Bridge) (a : Access) → (routed_bridge b a).core.config.figures ≡ figures_now b.core
routed_figures b a = ap (λ (c : Core). c.config.figures) (routed_takes b a).core

by_route : (b : Bridge) (a : Access) → number_of (route_of b a) ≡ 0 → (r : Route) → route_of b a ≡ r → (config_bridge b a r).core.config.figures ≡ figures_now b.core
by_route b a n OutOfRange z = absurd (omega (arith, ap number_of z, n))
by_route b a n (Local w) z = ap (λ (c : ConfigSlot). c.figures) (local_core_lem b.core a w).config
by_route b a n Type0 z = routed_figures b a
by_route b a n Type1 z = routed_figures b a
by_route b a n NotRouted z = absurd (omega (arith, ap number_of z, n))
by_route b a n DeviceNotZero z = absurd (omega (arith, ap number_of z, n))

pub config_figures : ConfigFigures
unfolding config_step
config_figures b a room e = rw (eq-eqb _ _ e) (by_route b a (passed b.core (route_of b a) room e).routed (route_of b a) refl)

pub release_reports : ReleaseReports
unfolding release_step taken
release_reports b room k e = (λ l. rw (eq-eqb _ _ e, lt-ltb k slot_count l), λ z. rw (eq-eqb _ _ e, le-ltb k slot_count (omega arith)))
