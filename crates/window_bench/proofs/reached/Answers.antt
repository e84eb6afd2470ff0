use Rattle.std.proofs.Common.{sym, ap, ◌∙◌}
use Rattle.window_bench.proofs.Sums.{reach_none, reach_some}
use Rattle.window_bench.proofs.reached.Goals as goal

pub returns-then-no_window : goal.returns-then-no_window
returns-then-no_window g c = reach_none c.args.w c.args.a (sym c.no_window.ensures ∙ c.if-no_window.true)

pub returns : goal.returns
returns g c = reach_some c.args.w c.args.a (sym c.no_window.ensures ∙ c.if-no_window.false) _ _ _ c.shift_of.ensures.0 c.shift_of.ensures.1 (ap (λ x. x.0) c.translate.ensures)
