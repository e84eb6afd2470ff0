-- The bytes of one more write follow those that were written before it.
use Rattle.std.proofs.Common.{◌++◌, rules, take, sym, ap, ◌∙◌, subst}
use Rattle.std.specs.Io.KnownBytes.{Appends}
use Rattle.std.proofs.KnownBytes.{Appends-trans}
use Rattle.std.proofs.lemmas.List.{take_rest}
use lib.Seq.{take-add}
use Rattle.streams.proofs.write_all.Goals as goal

pub loop-done-preserved : goal.loop-done-preserved
loop-done-preserved g c =
    let done = c.loop-done.done in
    let buffer = c.args.buffer.now in
    let n = c.in-Ok.n in
    let joined = ap (λ l. take done buffer ++ take n l) (take_rest buffer done) ∙ sym (take-add done n buffer) in
    (search rules, subst (Appends _ _) joined (Appends-trans _ _ _ _ _ c.loop-done.invariant.1 c.in-Ok.ensures.bytes))
