-- The effect of a link drop: the slots in turn, and the tags.
use Prim.Native.Nat.{ℕ, suc, ◌≤◌, ◌<◌}
use mathlib.Core.Path.{◌≡◌, refl, sym, ap, ◌∙◌, subst}
use mathlib.Core.Bool.{false}
use native.Mathlib.Omega.{arith}
use native.Mathlib.Decide.{ℕ_discrete}
use lib.ListN.{length-replicate}
use lib.Dec.{eqb}
use Rattle.common.specs.Decode.{link_down_bit}
use Rattle.machine.specs.State.{Bridge, tag_at, slot_at, slot_state, slot_open, tag_count, slot_count}
use Rattle.machine.specs.Completions.{Held, held}
use Rattle.machine.specs.Ticks.{drop_slot, drop_slots, link_lost, drop_config}
use Rattle.bridge_laws.specs.MemoryLaws.{Tables}
use Rattle.bridge_laws.specs.RowLaws.{SlotAlone}
use Rattle.bridge_laws.specs.Rows.{dropped_slot, dropped_store, dropped_to}
use Rattle.bridge_laws.specs.Effects.{Acts, same, DropLoses}
use Rattle.bridge_laws.proofs.Rows.{either, columns, zeros}
use Rattle.bridge_laws.proofs.Cores.{raised_core_lem}
use Rattle.bridge_laws.proofs.Turns.{each_slot}

-- ---- one slot

pub record Dropped (k : ℕ) (h x : Held) : Type 0 where
  pub acts : Tables h.bridge → k < slot_count → Acts 0 k same dropped_slot same h.bridge x.bridge
  pub alone : SlotAlone k h.bridge x.bridge
  pub store : x.store ≡ dropped_store k (slot_at h.bridge k) h.store

pub drop : (k : ℕ) (h : Held) → Dropped k h (drop_slot h k)
unfolding drop_slot
drop k h =
    either (Dropped k h) (eqb (slot_state h.bridge k) slot_open) _ _
    (λ z. record { acts = λ v l. search (columns, arith, z); alone = search columns; store = rw z })
    (λ z. record { acts = λ v l. search (arith, z); alone = search; store = rw z })

pub drop_acts : (k : ℕ) (h : Held) → Tables h.bridge → k < slot_count → Acts 0 k same dropped_slot same h.bridge (drop_slot h k).bridge
drop_acts k h v l = (drop k h).acts v l

pub drop_store : (k : ℕ) (h : Held) → (drop_slot h k).store ≡ dropped_store k (slot_at h.bridge k) h.store
drop_store k h = (drop k h).store

-- one that is not open
pub drop_idle : (k : ℕ) (h : Held) → eqb (slot_state h.bridge k) slot_open ≡ false → drop_slot h k ≡ h
unfolding drop_slot
drop_idle k h z = rw z

-- ---- the slots below n

record Drops (h : Held) (n : ℕ) (x : Held) : Type 0 where
  settings : x.bridge.settings ≡ h.bridge.settings
  tables : Tables x.bridge
  core : x.bridge.core ≡ h.bridge.core
  tag : (t : ℕ) → tag_at x.bridge t ≡ tag_at h.bridge t
  slot : (k : ℕ) → k < n → slot_at x.bridge k ≡ dropped_slot (slot_at h.bridge k)
  later : (k : ℕ) → n ≤ k → slot_at x.bridge k ≡ slot_at h.bridge k
  store : x.store ≡ dropped_to (slot_at h.bridge) h.store n

drops : (h : Held) → Tables h.bridge → Drops h slot_count (drop_slots h slot_count)
drops h v =
    each_slot (Drops h) h
    (record { settings = refl; tables = v; core = refl; tag = λ t. refl; slot = λ k m. absurd (omega arith); later = λ k m. refl; store = refl })
    turn
  where
    turn : (n : ℕ) (x : Held) → n < slot_count → Drops h n x → Drops h (suc n) (drop_slot x n)
    turn n x l p =
        let a = drop_acts n x p.tables l in
        record {
          settings = a.settings ∙ p.settings;
          tables = a.tables;
          core = a.core ∙ p.core;
          tag = λ t. (drop n x).alone.tags t ∙ p.tag t;
          slot = λ k m. by k m (ℕ_discrete k n);
          later = λ k m. a.slots k (λ e. omega arith) ∙ p.later k (omega arith);
          store = drop_store n x ∙ (ap (λ s. dropped_store n s x.store) (p.later n (omega arith)) ∙ ap (dropped_store n (slot_at h.bridge n)) p.store);
        }
      where
        by : (k : ℕ) → k < suc n → Dec (k ≡ n) → slot_at (drop_slot x n).bridge k ≡ dropped_slot (slot_at h.bridge k)
        by k m (yes e) =
            subst (λ i. slot_at (drop_slot x n).bridge i ≡ dropped_slot (slot_at h.bridge i)) (sym e)
            ((drop_acts n x p.tables l).slot ∙ ap dropped_slot (p.later n (omega arith)))
        by k m (no d) = (drop n x).alone.slots k d ∙ p.slot k (omega arith)

-- ---- the tags, and the core

pub drop_loses : DropLoses
unfolding link_lost
drop_loses h v =
    let w : Tables (link_lost h.bridge) = omega (arith, length-replicate {A = ℕ} tag_count 0) in
    let p = drops (held (link_lost h.bridge) h.store) w in
    record { settings = p.settings; tables = p.tables; core = p.core; tag = λ t. p.tag t ∙ rw (zeros tag_count t); slot = p.slot; store = p.store }

-- whatever the tables' lengths: the slots' rows, and the configuration slot
pub lost_slot_lem : (b : Bridge) (j : ℕ) → slot_at (link_lost b) j ≡ slot_at b j
unfolding link_lost
lost_slot_lem b j = refl

pub lost_config : (b : Bridge) → (link_lost b).core.config ≡ drop_config b.core.config
unfolding link_lost
lost_config b = (raised_core_lem link_down_bit _).config
