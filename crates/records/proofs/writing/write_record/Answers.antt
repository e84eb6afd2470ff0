use mathlib.Core.Path.{◌≡◌, ap, ◌∙◌}
use mathlib.Core.List.{List, ◌++◌}
use Prim.Native.Nat.{ℕ, ◌+◌}
use native.Mathlib.Omega.{arith}
use borrow.Author.Rules.{rules}
use lib.ListN.{length, take}
use Rattle.records.specs.Code.Meaning.{item_with}
use Rattle.records.proofs.Putting.{cannot, short_laid, wrote}
use Rattle.records.proofs.writing.write_record.Goals as goal

pub returns-in_default : goal.returns-in_default
returns-in_default c = cannot (item_with c.args.item c.args.lent.now) c.args.area.now c.in_default.ensures

pub returns-then-area-size : goal.returns-then-area-size
returns-then-area-size c =
    let w = c.in-Some.ensures in
    short_laid (item_with c.args.item c.args.lent.now) c.in-Some.p c.args.area.now c.args.lent.now w.0 w.1.0 w.1.1 c.if-area-size.true

pub returns : goal.returns
returns c =
    let w = c.in-Some.ensures in
    let p = c.in-Some.p in
    let k : length c.front.result ≡ 13 = search rules in
    wrote (item_with c.args.item c.args.lent.now) c.args.area.now c.front.result c.args.lent.now _ _ (3 + p.length) p.plain _ w.0 (ap (λ (t : List ℕ). t ++ take p.plain c.args.lent.now) c.front.ensures ∙ w.1.0) (omega (arith, k, w.1.1)) w.1.1.there c.copy_from_slice.ensures.after c.copy_from_slice-2.ensures.after (omega arith) c.if-area-size.false
