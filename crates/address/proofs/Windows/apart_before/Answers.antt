use Rattle.std.proofs.Common.{◌≡◌, true, false, refl, rules, arith}
use borrow.Author.Tests.{tests}
use Rattle.std.proofs.lemmas.Iterator.{cases_from_all, YieldsList-from_range}
use Rattle.address.specs.Settings.{apart_at}
use Rattle.address.proofs.Ranges.{all_ran}
use Rattle.address.proofs.Windows.apart_before.Goals as goal

pub returns : goal.returns
returns c =
    let x = c.args in
    let t = apart_at x.self.base x.self.size x.j in
    all_ran t x.j c.all.result (cases_from_all _ _ _ (λ k. t k ≡ true) (λ k. t k ≡ false) c.all.ensures.ran (YieldsList-from_range 0 x.j x.j refl (omega arith)) (λ k q h. search (rules, tests)) (λ k q h. search (rules, tests)))
