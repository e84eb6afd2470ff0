use mathlib.Core.Path.{◌≡◌, ap, ◌∙◌}
use Prim.Native.Nat.{ℕ, ◌+◌, ◌-◌, ◌≤◌}
use native.Mathlib.Omega.{arith}
use native.Mathlib.Nat.{add-sub_cancel_left}
use lib.ListN.{length, take, drop, length-drop}
use lib.Seq.{length-take-le}
use Rattle.burst.specs.Pieces.{piece_at}
use Rattle.packets.specs.Packets.{piece_of}
use Rattle.packets.proofs.Sending.turn.Goals as goal

pub returns : goal.returns
returns c =
    let a = c.args in
    let q = a.self.burst in
    let p = c.piece_at-piece.result in
    let e : p ≡ piece_of a.self.limit q a.k = c.piece_at-piece.ensures.0 ∙ ap (λ n. piece_at a.self.limit q.start.0 n a.k) c.requires.0 in
    let from = p.first - q.start.0 in
    let part = take p.length (drop from a.bytes.now) in
    let z : take (from + p.length - from) (drop from a.bytes.now) ≡ part = ap (λ (m : ℕ). take m (drop from a.bytes.now)) (add-sub_cancel_left from p.length) in
    let w = c.piece_at-piece.ensures.1 in
    let h : p.length ≤ length a.bytes.now - from = omega (arith, w.starts, w.ends, c.requires) in
    let l : length part ≡ p.length = length-take-le p.length (drop from a.bytes.now) (simp length-drop h) in
    rw (z, l, c.translate-a.ensures, e) at c.put_packet.ensures
