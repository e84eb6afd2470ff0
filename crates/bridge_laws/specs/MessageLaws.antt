-- What is proved of error messages on the bridge (02, A1): when one is refused, what it leaves then, and what the link leaves.
use Rattle.std.specs.Prelude.{ℕ, ◌≡◌, List, Bool, true, false}
use Rattle.common.specs.Decode.{link_down_bit}
use Rattle.bits.specs.Bits.{is_set}
use Rattle.refusals.specs.Table.{malformed, link_down}
use Rattle.refusals.specs.declared.Response.TheVariants.{Nothing, Slverr}
use Rattle.messages.specs.Layout.{is_error_message}
use Rattle.machine.specs.State.{Bridge, registers_of, accepted, answered}
use Rattle.machine.specs.Completions.{Held}
use Rattle.machine.specs.Ticks.{linked}
use Rattle.machine.specs.Messages.{message_bridge, message_step}

-- 'A message that breaks its layout gets 12', with response none, and leaves no trace, whatever the link is
pub record Broken (b : Bridge) (m : List ℕ) : Type 0 where
  pub bridge : (message_step b m).bridge ≡ b
  pub number : (message_step b m).answer.number ≡ malformed
  pub response : (message_step b m).answer.response ≡ Nothing

abbrev pub BrokenMessage : Type 0
BrokenMessage = (b : Bridge) (m : List ℕ) → is_error_message m ≡ false → Broken b m

-- 'any other that comes with the link down gets 4', with row 4's SLVERR, and leaves no trace
pub record Early (b : Bridge) (m : List ℕ) : Type 0 where
  pub bridge : (message_step b m).bridge ≡ b
  pub number : (message_step b m).answer.number ≡ link_down
  pub response : (message_step b m).answer.response ≡ Slverr

abbrev pub EarlyMessage : Type 0
EarlyMessage = (b : Bridge) (m : List ℕ) → is_error_message m ≡ true → (registers_of b).link ≡ false → Early b m

-- every other is accepted, and sends nothing
abbrev pub SoundMessage : Type 0
SoundMessage =
    (b : Bridge) (m : List ℕ) → is_error_message m ≡ true → (registers_of b).link ≡ true
    → message_step b m ≡ answered (message_bridge b m) (accepted Nothing 0 0 0)

-- a link that goes up or down, and a drop among them, leaves the queue, its flag and every decode bit but that of the link
pub record KeepsErrors (h x : Held) : Type 0 where
  pub errors : (registers_of x.bridge).errors ≡ (registers_of h.bridge).errors
  pub overflow : (registers_of x.bridge).overflow ≡ (registers_of h.bridge).overflow
  pub bits :
      (i : ℕ) → (i ≡ link_down_bit → ⊥) → is_set (registers_of x.bridge).decode i ≡ is_set (registers_of h.bridge).decode i

abbrev pub LinkKeepsErrors : Type 0
LinkKeepsErrors = (up : Bool) (h : Held) → KeepsErrors h (linked up h)
