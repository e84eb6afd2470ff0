-- A fresh bridge.
use mathlib.Core.Path.{◌≡◌, refl, sym, ap}
use mathlib.Core.Bool.{Bool, true, false, cond}
use Prim.Native.Nat.{ℕ, ◌<◌}
use native.Mathlib.Omega.{arith}
use native.Mathlib.Decide.{dec_lt}
use borrow.Author.Tests.{eq-eqb, ne_eqb, eqb-true}
use lib.ListN.{replicate}
use lib.Dec.{ltb, eqb}
use Rattle.bits.specs.Bits.{bit, is_set, from_bits}
use Rattle.tags.proofs.Tags.{all_free}
use Rattle.address.specs.declared.Settings.{Settings}
use Rattle.address.specs.Settings.{power_among, each_from, window_right, apart, windows_right, settings_right, settings_number, example_settings}
use Rattle.ecam.specs.Registers.{status, some, decode_bits, is_decode_bit, fresh, shown, local_read, line}
use Rattle.machine.specs.Bridge.{Bridge}
use Rattle.machine.specs.State.{Answered, tag_count, slot_count, refusal_change, refusal, accepted, refused, fresh_core, fresh_bridge, new_bridge}
use Rattle.machine.specs.Take.{state_in}
use Rattle.machine.proofs.Judging.{never}
use Rattle.bridge_laws.specs.ConfigLaws.{Fresh, NewIsFresh, NewNumber, NewKeeps, NewIsRight}
use Rattle.bridge_laws.proofs.Rows.{either, zeros}

none_shown : shown 0 ≡ 0
unfolding shown from_bits bit is_set is_decode_bit some decode_bits
none_shown = refl

-- each local word of the fresh registers
none : (t : Bool) (x y : ℕ) → x ≡ 0 → y ≡ 0 → cond t x y ≡ 0
none true x y e f = e
none false x y e f = f

word_reads : (v : ℕ) → local_read fresh v ≡ cond (eqb v 0x130) 0x0000000B 0
unfolding local_read fresh shown status
word_reads v = by (dec_lt v 0x130)
  where
    by : Dec (v < 0x130) → local_read fresh v ≡ cond (eqb v 0x130) 0x0000000B 0
    by (yes l) = rw (ne_eqb v 0x130 (λ e. omega arith)) (search (none, none_shown) depth 9)
    by (no l) = rw (ne_eqb v 0x018 (λ e. omega (arith, l))) (ap (cond (eqb v 0x130) 0x0000000B) (search (none, none_shown) depth 9))

slot_free_lem : (k : ℕ) → state_in 0 (replicate 8 0) k ≡ 0
unfolding state_in
slot_free_lem k =
    either (λ (x : ℕ). x ≡ 0) (eqb k 8) _ _ (λ e. refl) (λ e. either (λ (x : ℕ). x ≡ 0) (ltb k 8) _ _ (λ f. zeros 8 k) (λ f. refl))

line_low : line fresh ≡ false
unfolding line fresh some decode_bits bit is_set
line_low = refl

fresh_is : (s : Settings) → Fresh (fresh_bridge s)
unfolding fresh_bridge fresh_core
fresh_is s =
    record {
      registers = refl;
      words = word_reads;
      line = line_low;
      ticks = refl;
      counter = refl;
      sessions = zeros slot_count;
      config = refl;
      tags = all_free tag_count;
      missing = zeros tag_count;
      slots = slot_free_lem;
    }

example_right : settings_number example_settings ≡ 0
unfolding power_among each_from window_right apart windows_right settings_right settings_number
example_right = refl

-- the bridge of any settings is a fresh one, of settings that keep their rules
new_has : (P : Bridge → Type 0) → ((s : Settings) → settings_number s ≡ 0 → P (fresh_bridge s)) → (s : Settings) → P (new_bridge s).bridge
unfolding new_bridge refused refusal_change
new_has P h s =
    either (λ (x : Answered). P x.bridge) (eqb (settings_number s) 0) _ _ (λ e. h s (eqb-true _ _ e)) (λ e. h example_settings example_right)

pub new_is_fresh : NewIsFresh
new_is_fresh = new_has Fresh (λ s e. fresh_is s)

pub new_is_right : NewIsRight
unfolding fresh_bridge
new_is_right = new_has (λ b. settings_number b.settings ≡ 0) (λ s e. e)

-- settings have the number 0 or 1
number_one : (s : Settings) → eqb (settings_number s) 0 ≡ false → settings_number s ≡ 1
unfolding settings_number
number_one s = either (λ (x : ℕ). eqb x 0 ≡ false → x ≡ 1) (settings_right s) 0 1 (λ e f. never f) (λ e f. refl)

pub new_number : NewNumber
unfolding new_bridge refused refusal accepted
new_number s =
    either (λ (x : Answered). x.answer.number ≡ settings_number s) (eqb (settings_number s) 0) _ _ (λ e. sym (eqb-true _ _ e)) (λ e. sym (number_one s e))

pub new_keeps : NewKeeps
unfolding new_bridge fresh_bridge
new_keeps s e = rw (eq-eqb _ _ e)
