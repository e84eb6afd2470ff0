-- The store keeps its length: a piece is closed, a slot dropped, a completion comes.
use Prim.Native.Nat.{ℕ, ◌≤◌, ◌<◌}
use mathlib.Core.Path.{◌≡◌, refl, ap, ◌∙◌}
use mathlib.Core.List.{List}
use native.Mathlib.Omega.{arith}
use lib.ListN.{length}
use Rattle.std.specs.Prelude.{Result, Ok, Err}
use Rattle.refusals.specs.declared.Refusal.{Refusal}
use Rattle.tlp.proofs.Refused.{refused_malformed}
use Rattle.tlp.specs.declared.completion.Completion.{Completion}
use Rattle.machine.specs.State.{Slot, slot_at}
use Rattle.machine.specs.Completions.{store_size, Held, held, completion_of, completed}
use Rattle.machine.specs.Ticks.{link_lost, drop_slots}
use Rattle.bridge_laws.specs.Rows.{closed_store, dropped_store}
use Rattle.bridge_laws.proofs.Effects.{drop_store}
use Rattle.bridge_laws.proofs.Turns.{each_slot}
use Rattle.bridge_laws.proofs.Stores.{closed_bytes, dropped_bytes}
use Rattle.bridge_laws.proofs.Keeping.{own_slot_only, malformed_keeps}

-- another store of the same length
abbrev As : List ℕ → List ℕ → Type 0
As s x = length x ≡ length s

-- a piece is closed, a slot is dropped
module _ (k : ℕ) (r : Slot) (s : List ℕ) (l : k < 8) (m : store_size ≤ length s) where
  pub closed_room : As s (closed_store k r s)
  closed_room = (closed_bytes k r s l m).room

  pub dropped_room : As s (dropped_store k r s)
  dropped_room = (dropped_bytes k r s l m).room

pub drop_room : (h : Held) → store_size ≤ length h.store → As h.store (drop_slots (held (link_lost h.bridge) h.store) 8).store
drop_room h m =
    each_slot (λ n x. As h.store x.store) (held (link_lost h.bridge) h.store) refl
    (λ n x l p. ap length (drop_store n x) ∙ dropped_room n (slot_at x.bridge n) x.store l (omega arith) ∙ p)

pub completed_room : (h : Held) (s : List ℕ) (r : Result Completion Refusal) → completion_of s ≡ r → As h.store (completed h s).store
completed_room h s (Ok c) e = (own_slot_only h s c e).store.room
completed_room h s (Err r) e = ap (λ (x : Held). length x.store) (malformed_keeps h s (refused_malformed s r e))
