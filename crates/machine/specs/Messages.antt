-- Error messages (02, A1): what refuses one, and the bridge after one.
use Rattle.std.specs.Prelude.{ℕ, List, [], ◌∷◌, cond, not, eqb}
use Rattle.refusals.specs.Table.{refused_by, message_order}
use Rattle.refusals.specs.declared.Response.TheVariants.{Nothing}
use Rattle.messages.specs.Layout.{is_error_message}
use Rattle.ecam.specs.Registers.{Registers, messaged}
use Rattle.parts.specs.Cores.{with_registers}
use Rattle.machine.specs.State.{Bridge, Answered, core_in, accepted, answered, refused}

-- 'A message that breaks its layout gets 12, any other that comes with the link down gets 4'
unfoldable pub message_number : Registers → List ℕ → ℕ
message_number r m = refused_by message_order (not (is_error_message m) ∷ not r.link ∷ [])

abbrev pub message_refusal : Bridge → List ℕ → ℕ
message_refusal b m = message_number b.core.registers m

-- the registers alone change
abbrev pub message_bridge : Bridge → List ℕ → Bridge
message_bridge b m = core_in (with_registers (messaged b.core.registers m) b.core) b

-- it sends nothing and has no slot
unfoldable pub message_step : Bridge → List ℕ → Answered
message_step b m =
    cond (eqb (message_refusal b m) 0) (answered (message_bridge b m) (accepted Nothing 0 0 0)) (refused (message_refusal b m) b)
