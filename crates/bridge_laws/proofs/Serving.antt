-- The effect of a completion, of a timeout and of a routed access.
use Prim.Native.Nat.{ℕ, ◌+◌, ◌*◌, ◌≤◌, ◌<◌}
use mathlib.Core.Path.{◌≡◌, refl, ap, ◌∙◌}
use mathlib.Core.List.{List}
use native.Mathlib.Omega.{arith}
use lib.Seq.{paste}
use Rattle.common.specs.Decode.{cfg_timeout}
use Rattle.tags.specs.Tags.{lowest}
use Rattle.parts.specs.Cores.{Core}
use Rattle.verdict.specs.declared.Cause.{Cause}
use Rattle.verdict.specs.declared.Cause.TheVariants.{Poison, Timeout}
use Rattle.verdict.specs.declared.Verdict.{Verdict}
use Rattle.machine.specs.State.{Bridge, Slot, slot_at, place_of, owner_of, tag_count, slot_count, slot_size, slverr, with_config, open_config, figures_now, raised_core, core_in, counted, shut, freed}
use Rattle.machine.specs.Verdict.{cause_response, cause_bit}
use Rattle.machine.specs.Config.{Access, config_claimed, routed_bridge, word_pending}
use Rattle.machine.specs.Completions.{Held, held, useful_bytes, failed, closed, config_completed, config_answer, config_done}
use Rattle.bridge_laws.specs.MemoryLaws.{Tables}
use Rattle.bridge_laws.specs.CompletionLaws.{OnlyHere}
use Rattle.bridge_laws.specs.Rows.{shut_tag, faulted_slot, closed_slot, freed_core, closed_store}
use Rattle.bridge_laws.specs.Effects.{Acts, same, Serves, good_part, good_last, poison_part, poison_last, fails, MemoryServes, ConfigServes, Expires, memory, config, TimedOutExpires, RoutedActs}
use Rattle.bridge_laws.proofs.Verbs.{Takes, opened_takes, then, after, core_acts, counted_acts, shut_acts, freed_acts, opened_acts, failed_acts, piece_closed_lem, only_then, core_only, shut_only, freed_only}
use Rattle.bridge_laws.proofs.Steps as steps

-- ---- a completion for a memory read

-- 'A piece closes, and its tag is free'
record Shut (t k : ℕ) (h x : Held) : Type 0 where
  acts : Acts t k shut_tag closed_slot (freed_core t) h.bridge x.bridge
  store : x.store ≡ closed_store k (slot_at h.bridge k) h.store

closes : (t k : ℕ) (h : Held) → Tables h.bridge → t < tag_count → k < slot_count → Shut t k h (closed t k h)
closes t k h v l m =
    let a = after (shut_acts t k h.bridge v l) (freed_acts t k (shut t h.bridge)) in
    let c = piece_closed_lem t k (held (freed t (shut t h.bridge)) h.store) a.tables m in
    record { acts = then a c.acts; store = c.store ∙ ap (λ (s : Slot). closed_store k s h.store) a.slot }

module _ (h : Held) (t k skip : ℕ) (payload : List ℕ) (v : Tables h.bridge) (l : t < tag_count) (m : k < slot_count) where
  abbrev b : Bridge
  b = h.bridge

  abbrev noted : Cause → Bridge
  noted why = failed k (place_of b t) why b

  failure : (why : Cause) → Acts t k same (faulted_slot (place_of b t) (cause_response why)) (raised_core (cause_bit why)) b (noted why)
  failure why = failed_acts t k (place_of b t) why b v m

  serves : {x : Held} {z : Verdict} → steps.Steps h t k skip payload x z → Serves t k skip payload h x z
  serves (steps.part {n} steps.good e) = good_part n e (counted_acts t k n b v l) refl
  serves (steps.part {n} steps.poisoned e) = poison_part n e (after (failure Poison) (λ w. counted_acts t k n (noted Poison) w l)) refl
  serves (steps.last {n} steps.good e) =
      let d = paste h.store (slot_size * k + place_of b t) (useful_bytes skip n payload) n in
      let p = counted_acts t k n b v l in
      let c = closes t k (held (counted t n b) d) p.tables l m in
      good_last n e (then p c.acts) (c.store ∙ ap (λ (s : Slot). closed_store k s d) p.slot)
  serves (steps.last {n} steps.poisoned e) =
      let p = after (failure Poison) (λ w. counted_acts t k n (noted Poison) w l) in
      let c = closes t k (held (counted t n (noted Poison)) h.store) p.tables l m in
      poison_last n e (then p c.acts) (c.store ∙ ap (λ (s : Slot). closed_store k s h.store) p.slot)
  serves (steps.fails why) =
      let c = closes t k (held (noted why) h.store) (failure why).tables l m in
      fails why (then (failure why) c.acts) (c.store ∙ ap (λ (s : Slot). closed_store k s h.store) (failure why).slot)

pub memory_serves : MemoryServes
memory_serves h t k skip payload z v l m e = serves h t k skip payload v l m (steps.memory_steps h t k skip payload z e)

-- ---- a completion for the configuration access, and a routed access

pub config_serves : ConfigServes
unfolding config_completed
config_serves b t k payload v w l =
    let c : Core → Core = λ z. with_config (config_answer z.config payload v) z in
    let x = core_in (c b.core) b in
    after (after (core_acts t k c b w) (λ u. shut_acts t k x u l)) (freed_acts t k (shut t x))

pub config_only : (k t : ℕ) (b : Bridge) (payload : List ℕ) (v : Verdict) → slot_count ≤ k → OnlyHere k t b (config_completed b t payload v)
unfolding config_completed
config_only k t b payload v far =
    let c = with_config (config_answer b.core.config payload v) b.core in
    let x = core_in c b in
    only_then (only_then (core_only k t b c refl refl (λ s. absurd (omega arith))) (shut_only k t x)) (freed_only k t (shut t x))

pub routed_acts : RoutedActs
unfolding routed_bridge
routed_acts b a k v h =
    after (core_acts (lowest tag_count b.core.free) k (λ z. with_config (open_config a.write (figures_now z)) z) b v)
    (λ u. opened_acts k (word_pending a.write) (config_claimed a b) u h)

pub routed_takes : (b : Bridge) (a : Access) → Takes (config_claimed a b) (routed_bridge b a)
unfolding routed_bridge
routed_takes b a = opened_takes (word_pending a.write) (config_claimed a b)

-- ---- a timeout

expires : (t : ℕ) (h : Held) → Tables h.bridge → t < tag_count → {x : Held} → steps.Late t h x → Expires t h x
expires t h v l (steps.memory m) =
    let k = owner_of h.bridge t in
    let x = failed k (place_of h.bridge t) Timeout h.bridge in
    let p = after (failed_acts t k (place_of h.bridge t) Timeout h.bridge v m) (λ u. shut_acts t k x u l) in
    let c = piece_closed_lem t k (held (shut t x) h.store) p.tables m in
    memory m (then p c.acts) (c.store ∙ ap (λ (s : Slot). closed_store k s h.store) p.slot)
expires t h v l (steps.config m) =
    let c : Core → Core = λ y. raised_core cfg_timeout (with_config (config_done y.config slverr 0) y) in
    config m (λ k. after (core_acts t k c h.bridge v) (λ u. shut_acts t k (core_in (c h.bridge.core) h.bridge) u l)) refl

pub timed_out_expires : TimedOutExpires
timed_out_expires h t v l = expires t h v l (steps.timed_steps t h)
