use Rattle.packets.proofs.Writing.{Wrote}
use Rattle.packets.proofs.write_pieces.Given as goal

-- The invariant: the area has the packets of the first k pieces.
abbrev pub invariant-loop-k : goal.invariant-loop-k
invariant-loop-k l = Wrote l.fn.s l.fn.q l.bytes l.initial.area l.area l.at l.k
