use Rattle.std.proofs.Common.{◌≡◌, suc, ◌+◌, ◌-◌, sym, ap, ◌∙◌, zero-le, arith}
use native.Mathlib.Nat.{sub-zero}
use Rattle.address.specs.Windows.{window_of, first_from}
use Rattle.address.proofs.Steps.{first_none, first_hit, first_on}
use Rattle.window_bench.proofs.former.window_of.Goals as goal

pub six_at_most-n-requires : goal.six_at_most-n-requires
six_at_most-n-requires c = tt

pub loop-i-init : goal.loop-i-init
unfolding window_of
loop-i-init c = (zero-le, rw (c.six_at_most-n.ensures.0, sub-zero))

pub offset_bounds-base-i : goal.offset_bounds-base-i
offset_bounds-base-i c = omega arith

pub bounds-base-i : goal.bounds-base-i
bounds-base-i c = omega arith

pub offset_bounds-size-i : goal.offset_bounds-size-i
offset_bounds-size-i c = omega arith

pub bounds-size-i : goal.bounds-size-i
bounds-size-i c = omega arith

pub in_window-requires : goal.in_window-requires
in_window-requires c = tt

pub overflow_cast-result : goal.overflow_cast-result
overflow_cast-result c = omega arith

pub returns-then-in_window : goal.returns-then-in_window
returns-then-in_window c =
    let i = c.loop-i.i in
    let n = c.six_at_most-n.result in
    let b = c.args.base.now in
    let s = c.args.size.now in
    let a = c.args.a in
    let e : n - i ≡ suc (n - (i + 1)) = omega arith in
    (sym (c.loop-i.invariant.1 ∙ ap (first_from b s a i) e ∙ first_hit b s a i (n - (i + 1)) (sym c.in_window.ensures ∙ c.if-in_window.true)), omega arith)

pub overflow_add-i : goal.overflow_add-i
overflow_add-i c = omega arith

pub loop-i-smaller : goal.loop-i-smaller
loop-i-smaller c = omega arith

pub loop-i-preserved : goal.loop-i-preserved
loop-i-preserved c =
    let i = c.loop-i.i in
    let n = c.six_at_most-n.result in
    let b = c.args.base.now in
    let s = c.args.size.now in
    let a = c.args.a in
    let e : n - i ≡ suc (n - (i + 1)) = omega arith in (
      omega arith,
      c.loop-i.invariant.1 ∙ ap (first_from b s a i) e ∙ first_on b s a i (n - (i + 1)) (sym c.in_window.ensures ∙ c.if-in_window.false),
    )

pub returns : goal.returns
returns c =
    let i = c.loop-i.i in
    let n = c.six_at_most-n.result in
    let b = c.args.base.now in
    let s = c.args.size.now in
    let a = c.args.a in
    let e : n - i ≡ 0 = omega arith in
    (sym (c.loop-i.invariant.1 ∙ ap (first_from b s a i) e ∙ first_none b s a i), tt)
