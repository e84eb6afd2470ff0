use Rattle.std.proofs.Common.{◌≡◌, ◌^◌, ◌*◌, ◌%◌, suc, ◌-◌, ◌+◌, refl, rules, arith}
use borrow.Author.Tests.{tests}
use Rattle.std.proofs.lemmas.Iterator.{cases_from_any, YieldsList-from_range}
use Rattle.address.proofs.Ranges.{any_ran}
use Rattle.address.proofs.power_of_two.Goals as goal

pub returns : goal.returns
returns c =
    let x = c.args in
    let n = suc x.high - x.low in
    any_ran x.low n x.x (omega arith) c.any.result (cases_from_any _ _ _ (λ k. x.x ≡ 1 * 2 ^ k % 2 ^ 64) (λ k. x.x ≡ 1 * 2 ^ k % 2 ^ 64 → ⊥) c.any.ensures.ran (YieldsList-from_range x.low (x.high + 1) n refl (omega arith)) (λ k q h. search (rules, tests)) (λ k q h. search (rules, tests)))
