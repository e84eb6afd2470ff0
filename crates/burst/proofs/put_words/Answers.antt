use mathlib.Core.Path.{◌≡◌, refl, ap, ◌∙◌}
use Prim.Native.Nat.{◌+◌, ◌-◌, ◌*◌, ◌/◌, ◌%◌}
use native.Mathlib.Omega.{arith}
use lib.ListN.{length, replicate}
use lib.Seq.{paste}
use borrow.Rule.Slice.PartMut.{put_mid}
use Rattle.std.proofs.Common.{rules}
use Rattle.std.proofs.lemmas.Slice.{put_mid-paste}
use Rattle.burst.specs.Words.{word_count}
use Rattle.burst.proofs.Paste.{put_words}
use Rattle.burst.proofs.put_words.Goals as goal

pub returns : goal.returns
unfolding word_count
returns c =
    let d = c.args.dst.now in
    let at = c.args.at in
    let a = c.args.a in
    let s = c.args.src.now in
    let n = length s in
    let m = (a % 4 + n + 3) / 4 * 4 in
    let z = put_mid at (at + m - at) d c.fill.new.self in
    let zeros : z ≡ paste d at (replicate m 0) m = search (rules, put_mid-paste) in
    let g : m ≡ 4 * word_count a n = omega arith in
    c.copy_at.ensures ∙ ap (λ x. paste x (at + a % 4) s n) zeros ∙ put_words d at a m n s refl g (omega arith)
