use Rattle.packets.proofs.Writing.{wrote_none, wrote_more}
use Rattle.packets.proofs.write_pieces.Goals as goal

pub loop-k-init : goal.loop-k-init
loop-k-init c = wrote_none c.args.s c.args.q c.args.bytes.now c.args.area.now

pub loop-k-preserved : goal.loop-k-preserved
loop-k-preserved c =
    let a = c.args in
    let s = c.shift_of in
    wrote_more a.s a.q a.bytes.now a.area.now s.result.base s.result.target s.ensures.0 s.ensures.1 c.loop-k.area c.turn-at.new.area c.loop-k.at c.turn-at.result c.loop-k.k c.loop-k.invariant c.turn-at.ensures
