use Rattle.std.proofs.Common.{◌≡◌, ◌+◌, ◌≤◌, ◌<◌, [], refl, ap, ◌∙◌, length, arith, zero-le, false, List, ℕ}
use lib.Seq.{paste, length-paste}
use Rattle.bits.specs.Bits.{clear_bit}
use Rattle.tags.specs.Tags.{lowest, available}
use Rattle.tags.proofs.Tags.{available_within}
use Rattle.address.specs.Windows.{axi, translated}
use Rattle.burst.specs.Pieces.{piece_count}
use Rattle.packets.proofs.Packets.{packet_short}
use Rattle.parts.specs.Sizes.{tag_count}
use Rattle.machine.specs.State.{opened}
use Rattle.machine.specs.Memory.{pieces_of, piece_of, place_in, memory_request, packet}
use Rattle.parts.specs.Pendings.{memory_pending}
use Rattle.address.specs.declared.Settings.{Settings}
use Rattle.machine.specs.Code.Tables.{bridge_of}
use Rattle.machine.proofs.Reading.{turned_none, turned_more, lowest_below, one_less, opened_free, opened_settings}
use Rattle.events.proofs.memory.read_pieces.Goals as goal

pub loop-k-init : goal.loop-k-init
loop-k-init c =
    let a = c.args in
    (refl, (omega arith, (zero-le, (refl, λ cells. turned_none a.slot.number a.q (bridge_of cells a.b.now) a.area.now))))

pub turn-at-requires : goal.turn-at-requires
turn-at-requires c =
    let a = c.args in
    let s = a.b.now.settings in
    let cnt : c.piece_count-k-end.result ≡ pieces_of s.reads a.q = c.piece_count-k-end.ensures ∙ ap (λ x. piece_count s.reads a.q.start.0 x) c.length.ensures.0 in
    let i = c.loop-k.invariant in
    let w = available_within tag_count a.b.now.core.free in
    let h : 0 < available tag_count c.loop-k.b.core.free = omega (arith, cnt, i.1.0, c.loop-k-test.true, c.requires.0) in
    let r : c.loop-k.at + 16 ≤ length c.loop-k.area = omega (arith, cnt, w, i.1.1.0, i.1.1.1.0, c.loop-k-test.true, c.requires) in
    (lowest_below c.loop-k.b.core.free h, (c.length.ensures.0, (c.length.ensures.1.1, (rw (i.0, ← c.piece_count-k-end.ensures) c.loop-k-test.true, r))))

pub loop-k-preserved : goal.loop-k-preserved
loop-k-preserved c =
    let a = c.args in
    let s = a.b.now.settings in
    let cnt : c.piece_count-k-end.result ≡ pieces_of s.reads a.q = c.piece_count-k-end.ensures ∙ ap (λ x. piece_count s.reads a.q.start.0 x) c.length.ensures.0 in
    let i = c.loop-k.invariant in
    let w = available_within tag_count a.b.now.core.free in
    let h : 0 < available tag_count c.loop-k.b.core.free = omega (arith, cnt, i.1.0, c.loop-k-test.true, c.requires.0) in
    let r : c.loop-k.at + 16 ≤ length c.loop-k.area = omega (arith, cnt, w, i.1.1.0, i.1.1.1.0, c.loop-k-test.true, c.requires) in
    let t = c.turn-at in
    let k = c.loop-k.k in
    let p = piece_of s.reads a.q k in
    let shift = c.shift_of.result in
    let m = memory_request false s.requester (lowest tag_count c.loop-k.b.core.free) (translated shift.base shift.target (axi p.first)).0 p.length in
    let z = packet_short m in
    let o = one_less c.loop-k.b.core.free h in
    let sends = λ (x : Settings). packet (memory_request false x.requester (lowest tag_count c.loop-k.b.core.free) (translated shift.base shift.target (axi (piece_of x.reads a.q k).first)).0 (piece_of x.reads a.q k).length) [] in
    let pends = λ (x : Settings). memory_pending a.slot.number (place_in a.q (piece_of x.reads a.q k)) (piece_of x.reads a.q k).length (translated shift.base shift.target (axi (piece_of x.reads a.q k).first)).0 in
    let tables : (cells : List ℕ) → bridge_of cells t.new.b ≡ opened (pends s) (bridge_of cells c.loop-k.b) = λ cells. t.ensures.tables cells ∙ ap (λ (x : Settings). opened (pends x) (bridge_of cells c.loop-k.b)) i.0 in
    let at : t.result ≡ c.loop-k.at + length (sends s) = t.ensures.at ∙ ap (λ (x : Settings). c.loop-k.at + length (sends x)) i.0 in
    let area : t.new.area ≡ paste c.loop-k.area c.loop-k.at (sends s) (length (sends s)) = t.ensures.area ∙ ap (λ (x : Settings). paste c.loop-k.area c.loop-k.at (sends x) (length (sends x))) i.0 in
    let f : t.new.b.core.free ≡ clear_bit c.loop-k.b.core.free (lowest tag_count c.loop-k.b.core.free) = opened_free _ (bridge_of [] c.loop-k.b) (bridge_of [] t.new.b) (tables []) in
    let e : t.new.b.settings ≡ c.loop-k.b.settings = opened_settings _ (bridge_of [] c.loop-k.b) (bridge_of [] t.new.b) (tables []) in
    let g : available tag_count t.new.b.core.free ≡ available tag_count (clear_bit c.loop-k.b.core.free (lowest tag_count c.loop-k.b.core.free)) = ap (available tag_count) f in
    let y : length t.new.area ≡ length c.loop-k.area = ap length area ∙ length-paste c.loop-k.area c.loop-k.at (packet m []) (length (packet m [])) (omega arith) (omega arith) in (
      e ∙ i.0,
      (
        omega (arith, g, o, i.1.0),
        (
          omega (arith, at, z, i.1.1.0),
          (
            y ∙ i.1.1.1.0,
            λ cells.
                turned_more a.slot.number a.q (bridge_of cells a.b.now) a.area.now shift.base shift.target c.shift_of.ensures.0 c.shift_of.ensures.1 (bridge_of cells c.loop-k.b) (bridge_of cells t.new.b) c.loop-k.area t.new.area c.loop-k.at t.result k (i.1.1.1.1 cells) (tables cells) at area,
          ),
        ),
      ),
    )
