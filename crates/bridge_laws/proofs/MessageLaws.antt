-- The laws on error messages.
use Prim.Native.Nat.{ℕ, ◌-◌, ◌^◌}
use mathlib.Core.Path.{◌≡◌, refl, ap, ◌∙◌}
use mathlib.Core.Bool.{true, false, not, ◌&&◌}
use lib.ListN.{length}
use lib.Dec.{ltb, eqb}
use Rattle.common.specs.Decode.{link_down_bit}
use Rattle.bits.specs.Bits.{is_set}
use Rattle.ecam.specs.Registers.{some, decode_bits, is_decode_bit}
use Rattle.ecam.proofs.Keeps.{raise_sets}
use Rattle.parts.specs.Cores.{Core}
use Rattle.machine.specs.State.{tag_count, slot_count, slot_open, slot_state, with_free, with_config, raised_core, refusal_response, refusal_change, refusal, refused}
use Rattle.machine.specs.Completions.{Held, held, store_size}
use Rattle.machine.specs.Ticks.{link_in, drop_config, drop_slot, drop_slots, link_lost, linked}
use Rattle.machine.specs.Messages.{message_number, message_step}
use Rattle.bridge_laws.specs.MessageLaws.{BrokenMessage, EarlyMessage, SoundMessage, KeepsErrors, LinkKeepsErrors}
use Rattle.bridge_laws.proofs.Rows.{either}
use Rattle.bridge_laws.proofs.Turns.{each_slot}

pub broken_message : BrokenMessage
unfolding message_step message_number refused refusal_change refusal refusal_response
broken_message b m e = record { bridge = rw e; number = rw e; response = rw e }

pub early_message : EarlyMessage
unfolding message_step message_number refused refusal_change refusal refusal_response
early_message b m e d = record { bridge = rw (e, d); number = rw (e, d); response = rw (e, d) }

pub sound_message : SoundMessage
unfolding message_step message_number
sound_message b m e u = rw (e, u)

-- ---- the link

-- a slot that is dropped leaves the core
slot_core : (x : Held) (n : ℕ) → (drop_slot x n).bridge.core ≡ x.bridge.core
unfolding drop_slot
slot_core x n =
    either (λ (y : Held). y.bridge.core ≡ x.bridge.core) (eqb (slot_state x.bridge n) slot_open) _ _ (λ e. refl) (λ e. refl)

pub slots_core : (h : Held) → (drop_slots h slot_count).bridge.core ≡ h.bridge.core
slots_core h = each_slot (λ n x. x.bridge.core ≡ h.bridge.core) h refl (λ n x l p. slot_core x n ∙ p)

-- what the link's bit leaves
down_bit : is_decode_bit link_down_bit ≡ true
unfolding is_decode_bit some decode_bits
down_bit = refl

raised_keeps : (h x : Held) (c : Core) → x.bridge.core ≡ raised_core link_down_bit c → c.registers.errors ≡ h.bridge.core.registers.errors
    → c.registers.overflow ≡ h.bridge.core.registers.overflow → c.registers.decode ≡ h.bridge.core.registers.decode → KeepsErrors h x
unfolding raised_core
raised_keeps h x c e q o d =
    record {
      errors = ap (λ (y : Core). y.registers.errors) e ∙ q;
      overflow = ap (λ (y : Core). y.registers.overflow) e ∙ o;
      bits = λ i n.
          ap (λ (y : Core). is_set y.registers.decode i) e
          ∙ ((raise_sets c.registers.decode link_down_bit down_bit).others i n ∙ ap (λ (w : ℕ). is_set w i) d);
    }

same_keeps : (h : Held) → KeepsErrors h h
same_keeps h = record { errors = refl; overflow = refl; bits = λ i n. refl }

pub link_keeps_errors : LinkKeepsErrors
unfolding linked link_lost
link_keeps_errors up h =
    either (KeepsErrors h) (ltb (length h.store) store_size) _ _ (λ e. same_keeps h)
    (λ e.
    either (KeepsErrors h) (not up && h.bridge.core.registers.link) _ _
    (λ f.
    raised_keeps h (drop_slots (held (link_lost h.bridge) h.store) slot_count)
    (link_in false (with_free (2 ^ tag_count - 1) (with_config (drop_config h.bridge.core.config) h.bridge.core)))
    (slots_core (held (link_lost h.bridge) h.store)) refl refl refl)
    (λ f. record { errors = refl; overflow = refl; bits = λ i n. refl }))
