use mathlib.Core.Path.{◌∙◌}
use Prim.Native.Nat.{◌<◌}
use native.Mathlib.Omega.{arith}
use Rattle.burst.specs.Pieces.{piece_at}
use Rattle.burst.proofs.Cut.{piece_eq, start_of, later, head_first, head_length, later_first, later_length, no_limit}
use Rattle.burst.proofs.piece_at.Goals as goal

pub returns-then-limit-eq0 : goal.returns-then-limit-eq0
returns-then-limit-eq0 c = (rw c.if-limit-eq0.true (no_limit c.args.start c.args.n c.args.k), record { starts = omega arith; ends = omega arith })

pub returns-then-k-eq0 : goal.returns-then-k-eq0
unfolding piece_at
returns-then-k-eq0 c =
    let h : 0 < c.args.limit = omega (arith, c.if-limit-eq0.false) in
    let s = start_of c.args.limit c.args.start h in
    let e = rw c.from-l.ensures at c.min.ensures in (
      rw c.if-k-eq0.true (piece_eq _ _ _ _ (head_first c.args.limit c.args.start h) (e ∙ head_length c.args.limit c.args.start c.args.n h)),
      record { starts = omega arith; ends = omega arith },
    )

pub overflow_add-result : goal.overflow_add-result
overflow_add-result c =
    let h : 0 < c.args.limit = omega (arith, c.if-limit-eq0.false) in
    let k : 0 < c.args.k = omega (arith, c.if-k-eq0.false) in
    let x = later c.args.limit c.args.start c.args.n c.args.k h k c.requires.1 in
    rw (c.from-l.ensures, c.from.ensures) (omega arith)

pub overflow_cast-from : goal.overflow_cast-from
overflow_cast-from c =
    let h : 0 < c.args.limit = omega (arith, c.if-limit-eq0.false) in
    let k : 0 < c.args.k = omega (arith, c.if-k-eq0.false) in
    let x = later c.args.limit c.args.start c.args.n c.args.k h k c.requires.1 in
    rw (c.from-l.ensures, c.from.ensures) (omega arith)

pub overflow_sub-n : goal.overflow_sub-n
overflow_sub-n c =
    let h : 0 < c.args.limit = omega (arith, c.if-limit-eq0.false) in
    let k : 0 < c.args.k = omega (arith, c.if-k-eq0.false) in
    let x = later c.args.limit c.args.start c.args.n c.args.k h k c.requires.1 in
    rw (c.from-l.ensures, c.from.ensures) (omega arith)

pub returns : goal.returns
unfolding piece_at
returns c =
    let h : 0 < c.args.limit = omega (arith, c.if-limit-eq0.false) in
    let k : 0 < c.args.k = omega (arith, c.if-k-eq0.false) in
    let x = later c.args.limit c.args.start c.args.n c.args.k h k c.requires.1 in
    let e = rw (c.from-l.ensures, c.from.ensures) at c.min-2.ensures in
    rw (c.from-l.ensures, c.from.ensures) (
      piece_eq _ _ _ _ (later_first c.args.limit c.args.start c.args.n c.args.k x) (e ∙ later_length c.args.limit c.args.start c.args.n c.args.k x),
      record { starts = omega arith; ends = omega arith },
    )
