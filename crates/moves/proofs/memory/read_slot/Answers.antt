use Rattle.std.proofs.Common.{ap, ◌∙◌, arith}
use Rattle.std.proofs.lemmas.Grind.{common_steps}
use Rattle.parts.specs.Code.Struct.{core_from}
use Rattle.machine.specs.Refusals.{read_number}
use Rattle.machine.specs.Memory.{read_refusal}
use Rattle.moves.proofs.memory.read_slot.Goals as goal

pub returns-in_err-k-clause-number : goal.returns-in_err-k-clause-number
unfolding read_refusal
returns-in_err-k-clause-number c = λ cells.
    let a = c.args in
    let b = a.b.now in
    let n = c.in_err-k.ensures.number cells ∙ ap (λ k. read_number b.settings (core_from b.core cells) k a.q a.room) c.free_slot.ensures.slot in
    grind (arith, common_steps, n)

pub returns-clause-number : goal.returns-clause-number
unfolding read_refusal
returns-clause-number c =
    let a = c.args in
    let b = a.b.now in
    λ cells. c.in_ok-k.ensures.number cells ∙ ap (λ k. read_number b.settings (core_from b.core cells) k a.q a.room) c.free_slot.ensures.slot
