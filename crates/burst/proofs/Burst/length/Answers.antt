use mathlib.Core.Path.{sym, ◌∙◌}
use Prim.Native.Nat.{zero-le}
use native.Mathlib.Omega.{arith}
use Rattle.burst.specs.Bursts.{length_of}
use Rattle.burst.proofs.Covers.{end_in_page, burst_accepted}
use Rattle.burst.proofs.Burst.length.Goals as goal

pub returns-then-not-right : goal.returns-then-not-right
unfolding length_of
returns-then-not-right c = (rw (sym c.right.ensures ∙ c.if-not-right.true), (zero-le, omega arith))

pub end_from-requires : goal.end_from-requires
end_from-requires c =
    let x = burst_accepted c.args.self (sym c.right.ensures ∙ c.if-not-right.false) in
    (omega arith, (x.sized, x.most))

pub overflow_sub-result : goal.overflow_sub-result
overflow_sub-result c =
    let b = c.args.self in
    let x = burst_accepted b (sym c.right.ensures ∙ c.if-not-right.false) in
    let e = end_in_page b.start.0 b.size b.beats (omega arith) in
    let f = c.end_from.ensures in
    omega arith

pub overflow_cast-result : goal.overflow_cast-result
overflow_cast-result c =
    let b = c.args.self in
    let x = burst_accepted b (sym c.right.ensures ∙ c.if-not-right.false) in
    let e = end_in_page b.start.0 b.size b.beats (omega arith) in
    let f = c.end_from.ensures in
    omega arith

pub returns : goal.returns
unfolding length_of
returns c =
    let b = c.args.self in
    let r = sym c.right.ensures ∙ c.if-not-right.false in
    let x = burst_accepted b r in
    let e = end_in_page b.start.0 b.size b.beats (omega arith) in
    let f = c.end_from.ensures in
    (rw r (omega arith), (omega arith, omega arith))
