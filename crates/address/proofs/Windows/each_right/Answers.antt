use Rattle.std.proofs.Common.{◌≡◌, true, false, refl, rules, arith}
use borrow.Author.Tests.{tests}
use Rattle.std.proofs.lemmas.Iterator.{cases_from_all, YieldsList-from_range}
use Rattle.address.specs.Settings.{right_at}
use Rattle.address.proofs.Ranges.{all_ran}
use Rattle.address.proofs.Windows.each_right.Goals as goal

pub returns : goal.returns
returns c =
    let x = c.args in
    let t = right_at x.self.base x.self.size x.self.target in
    all_ran t x.self.count c.all.result (cases_from_all _ _ _ (λ k. t k ≡ true) (λ k. t k ≡ false) c.all.ensures.ran (YieldsList-from_range 0 x.self.count x.self.count refl (omega arith)) (λ k q h. search (rules, tests)) (λ k q h. search (rules, tests)))
