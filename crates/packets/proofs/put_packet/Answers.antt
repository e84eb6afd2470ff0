use native.Mathlib.Omega.{arith}
use mathlib.Core.Path.{◌≡◌, refl, sym, ap, ◌∙◌}
use mathlib.Core.Bool.{true}
use mathlib.Core.List.{[]}
use Prim.Native.Nat.{◌+◌, ◌-◌}
use lib.ListN.{length, take}
use lib.Seq.{paste}
use borrow.Rule.Slice.PartMut.{put_mid}
use Rattle.std.proofs.Common.{rules}
use Rattle.std.proofs.lemmas.Slice.{put_mid-paste}
use Rattle.burst.specs.Words.{words_of}
use Rattle.packets.specs.Packets.{memory_request, packet}
use Rattle.packets.proofs.Packets.{put_none, put_out, no_header, packet_length, put_whole}
use Rattle.packets.proofs.put_packet.Goals as goal

pub returns-then-h-eq0 : goal.returns-then-h-eq0
returns-then-h-eq0 c =
    let a = c.args in
    let s = a.bytes.now in
    let r = memory_request true a.requester 0 a.a.0 (length s) in
    let w = words_of a.a.0 s in
    let z : length (packet r []) ≡ 0 = sym (c.head_of-h.ensures.1.0 ∙ ap (λ x. length (packet x [])) c.memory_request.ensures) ∙ c.if-h-eq0.true in
    put_none a.area.now a.at (packet r w) (omega (arith, c.requires.1)) (no_header r w z)

pub returns-then-area-at : goal.returns-then-area-at
returns-then-area-at c =
    let a = c.args in
    let s = a.bytes.now in
    let r = memory_request true a.requester 0 a.a.0 (length s) in
    let w = words_of a.a.0 s in
    let e : c.head_of-h.result.length ≡ length (packet r []) = c.head_of-h.ensures.1.0 ∙ ap (λ x. length (packet x [])) c.memory_request.ensures in
    let p = packet_length a.a.0 s r c.head_of-h.result.length e c.if-h-eq0.false in
    put_out a.area.now a.at (packet r w) (omega (arith, p, c.word_count.ensures, c.if-area-at.true, c.requires.1))

pub returns : goal.returns
returns c =
    let a = c.args in
    let s = a.bytes.now in
    let r = memory_request true a.requester 0 a.a.0 (length s) in
    let h = c.head_of-h.result in
    let e : h.length ≡ length (packet r []) = c.head_of-h.ensures.1.0 ∙ ap (λ x. length (packet x [])) c.memory_request.ensures in
    let t : take h.length h.bytes ≡ packet r [] = c.head_of-h.ensures.0 ∙ ap (λ x. packet x []) c.memory_request.ensures in
    let one = put_mid a.at (a.at + h.length - a.at) a.area.now c.copy_from_slice.new.self in
    let u : c.copy_from_slice.new.self ≡ packet r [] = search (rules, t) in
    let p : one ≡ paste a.area.now a.at (packet r []) (length (packet r [])) = put_mid-paste a.at (a.at + h.length - a.at) a.area.now c.copy_from_slice.new.self (packet r []) (length (packet r [])) u (omega (arith, e)) refl in
    rw c.word_count.ensures (put_whole a.a.0 s r h.length e c.if-h-eq0.false a.area.now one c.put_words.new.dst a.at (omega (arith, c.word_count.ensures, c.if-area-at.false, c.requires.1)) p c.put_words.ensures)
