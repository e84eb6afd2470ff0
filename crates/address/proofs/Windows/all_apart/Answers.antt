use Rattle.std.proofs.Common.{◌≡◌, ℕ, Bool, true, false, refl, rules, arith}
use borrow.Author.Tests.{tests}
use Rattle.std.proofs.lemmas.Iterator.{cases_from_all, YieldsList-from_range}
use Rattle.address.specs.Settings.{each, apart_at}
use Rattle.address.proofs.Ranges.{all_ran}
use Rattle.address.proofs.Windows.all_apart.Goals as goal

pub returns : goal.returns
returns c =
    let x = c.args in
    let t : ℕ → Bool = λ (j : ℕ). each j (apart_at x.self.base x.self.size j) in
    all_ran t x.self.count c.all.result (cases_from_all _ _ _ (λ k. t k ≡ true) (λ k. t k ≡ false) c.all.ensures.ran (YieldsList-from_range 0 x.self.count x.self.count refl (omega arith)) (λ k q h. search (rules, tests)) (λ k q h. search (rules, tests)))
