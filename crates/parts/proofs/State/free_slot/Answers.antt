use Rattle.std.proofs.Common.{◌≡◌, ◌+◌, ◌-◌, length, sym, refl, ◌∙◌, arith, rules}
use Rattle.parts.proofs.Slots.{all_used, found_free, used_on}
use Rattle.parts.proofs.State.free_slot.Goals as goal

pub loop-k-init : goal.loop-k-init
loop-k-init c = refl

pub returns-then-self-k-eq-FREE-clause-slot : goal.returns-then-self-k-eq-FREE-clause-slot
returns-then-self-k-eq-FREE-clause-slot c =
    let k = c.loop-k.k in
    let l : length c.args.self.now.slots ≡ 8 = search rules in
    sym (c.loop-k.invariant ∙ found_free c.args.self.now.slots k (8 - k) (8 - (k + 1)) (omega (arith, c.loop-k-test.true)) (omega (arith, l, c.loop-k-test.true)) c.if-self-k-eq-FREE.true)

pub loop-k-preserved : goal.loop-k-preserved
loop-k-preserved c =
    let k = c.loop-k.k in
    let l : length c.args.self.now.slots ≡ 8 = search rules in
    c.loop-k.invariant ∙ used_on c.args.self.now.slots k (8 - k) (8 - (k + 1)) (omega (arith, c.loop-k-test.true)) (omega (arith, l, c.loop-k-test.true)) c.if-self-k-eq-FREE.false

pub returns-clause-slot : goal.returns-clause-slot
returns-clause-slot c =
    let k = c.loop-k.k in
    let e : k ≡ 8 = omega (arith, c.loop-k-test.false, c.loop-k.auto.k-end) in
    sym (c.loop-k.invariant ∙ (all_used c.args.self.now.slots k (8 - k) (omega (arith, c.loop-k-test.false)) ∙ e))
