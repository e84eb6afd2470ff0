use Rattle.std.proofs.Common.{◌≡◌, suc, ◌+◌, ◌-◌, sym, refl, ap, ◌∙◌, arith}
use Rattle.address.specs.Windows.{window_of, first_from}
use Rattle.address.specs.Code.Entries.{entry_number}
use Rattle.address.proofs.Steps.{first_none, first_hit, first_on}
use Rattle.address.proofs.first_of_six.Goals as goal

pub loop-i-init : goal.loop-i-init
unfolding window_of
loop-i-init c = refl

pub returns-then-in_window : goal.returns-then-in_window
returns-then-in_window c =
    let i = c.loop-i.i in
    let b = c.args.base.now in
    let s = c.args.size.now in
    let a = c.args.a in
    let e : 6 - i ≡ suc (6 - (i + 1)) = omega arith in
    sym (ap entry_number (c.loop-i.invariant ∙ ap (first_from b s a i) e ∙ first_hit b s a i (6 - (i + 1)) (sym c.in_window.ensures ∙ c.if-in_window.true)))

pub loop-i-preserved : goal.loop-i-preserved
loop-i-preserved c =
    let i = c.loop-i.i in
    let b = c.args.base.now in
    let s = c.args.size.now in
    let a = c.args.a in
    let e : 6 - i ≡ suc (6 - (i + 1)) = omega arith in
    c.loop-i.invariant ∙ ap (first_from b s a i) e ∙ first_on b s a i (6 - (i + 1)) (sym c.in_window.ensures ∙ c.if-in_window.false)

pub returns : goal.returns
returns c =
    let i = c.loop-i.i in
    let b = c.args.base.now in
    let s = c.args.size.now in
    let a = c.args.a in
    let e : 6 - i ≡ 0 = omega arith in
    sym (ap entry_number (c.loop-i.invariant ∙ ap (first_from b s a i) e ∙ first_none b s a i))
