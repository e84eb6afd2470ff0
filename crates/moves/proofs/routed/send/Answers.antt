use Rattle.std.proofs.Common.{refl, sym, ◌∙◌, arith}
use mathlib.Core.List.{append-nil}
use lib.ListN.{length-append}
use lib.Dec.{lit≤}
use Rattle.ecam.specs.Request.{data_bytes}
use Rattle.tlp.specs.Request.{valid_request, request_bytes}
use Rattle.packets.specs.Packets.{packet}
use Rattle.machine.specs.Routed.{payload_of}
use Rattle.moves.proofs.Sending.{header_fits, nothing_sent, header_sent, room_behind, data_sent}
use Rattle.moves.proofs.routed.send.Goals as goal

pub returns-in_default : goal.returns-in_default
unfolding packet
returns-in_default c =
    let w = c.write_request in
    let s = nothing_sent c.args.area.now (request_bytes c.args.q) (payload_of c.args.write c.args.word) (valid_request c.args.q) w.result (omega (arith, c.requires)) w.ensures.0 c.in_default.not-Ok in
    (s.0, w.ensures.1 ∙ s.1)

pub returns-then-not-write : goal.returns-then-not-write
unfolding packet payload_of
returns-then-not-write c =
    let w = c.write_request in
    let s = header_sent c.args.area.now (request_bytes c.args.q) (valid_request c.args.q) c.in-Ok.n (omega (arith, c.requires)) (sym c.in-Ok.is ∙ w.ensures.0) in
    (rw (c.if-not-write.true, s.right, append-nil) s.size, rw (c.if-not-write.true, s.right, append-nil) (w.ensures.1 ∙ s.after))

pub copy_at-requires : goal.copy_at-requires
unfolding data_bytes
copy_at-requires c =
    let w = c.write_request in
    let s = header_sent c.args.area.now (request_bytes c.args.q) (valid_request c.args.q) c.in-Ok.n (omega (arith, c.requires)) (sym c.in-Ok.is ∙ w.ensures.0) in (
      room_behind c.args.area.now (request_bytes c.args.q) _ c.in-Ok.n s.size (header_fits c.args.q) (omega (arith, c.requires)) (w.ensures.1 ∙ s.after),
      rw c.data_bytes.ensures (lit≤ tt),
    )

pub overflow_add-result : goal.overflow_add-result
overflow_add-result c =
    let w = c.write_request in
    let s = header_sent c.args.area.now (request_bytes c.args.q) (valid_request c.args.q) c.in-Ok.n (omega (arith, c.requires)) (sym c.in-Ok.is ∙ w.ensures.0) in
    record { fits = omega (arith, s.size, header_fits c.args.q) }

pub returns : goal.returns
unfolding packet payload_of data_bytes
returns c =
    let w = c.write_request in
    let s = header_sent c.args.area.now (request_bytes c.args.q) (valid_request c.args.q) c.in-Ok.n (omega (arith, c.requires)) (sym c.in-Ok.is ∙ w.ensures.0) in (
      rw (c.if-not-write.false, s.right, length-append, s.size),
      rw (c.if-not-write.false, s.right)
          (data_sent c.args.area.now (request_bytes c.args.q) _ _ _ _ _ 4 s.size (w.ensures.1 ∙ s.after) c.data_bytes.ensures refl c.copy_at.ensures),
    )
