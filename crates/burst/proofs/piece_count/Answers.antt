use mathlib.Core.Path.{sym}
use Prim.Native.Nat.{◌<◌}
use native.Mathlib.Omega.{arith}
use Rattle.burst.proofs.Cut.{count_by_place, count_no_limit, count_no_bytes}
use Rattle.burst.proofs.piece_count.Goals as goal

pub returns-then-limit-eq0 : goal.returns-then-limit-eq0
returns-then-limit-eq0 c = rw c.if-limit-eq0.true (sym (count_no_limit c.args.start c.args.n))

pub returns-then-n-eq0 : goal.returns-then-n-eq0
returns-then-n-eq0 c = rw c.if-n-eq0.true (sym (count_no_bytes c.args.limit c.args.start (omega (arith, c.if-limit-eq0.false))))

pub returns : goal.returns
returns c =
    let h : 0 < c.args.limit = omega (arith, c.if-limit-eq0.false) in
    let g : 0 < c.args.n = omega (arith, c.if-n-eq0.false) in
    rw (c.from-l.ensures, c.from.ensures) (sym (count_by_place c.args.limit c.args.start c.args.n h g))
