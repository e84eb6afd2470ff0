-- What accepted calls send.
use mathlib.Core.Path.{◌≡◌, refl, sym, ap, ◌∙◌}
use mathlib.Core.Bool.{true, false}
use mathlib.Core.List.{List, [], ◌++◌, flat_map, append_assoc, append-nil}
use Prim.Native.Nat.{ℕ, zero, suc, ◌+◌, ◌-◌, ◌*◌, ◌≤◌, ◌<◌}
use native.Mathlib.Omega.{arith}
use borrow.Author.Tests.{le-leb, lt-ltb}
use lib.ListN.{length, get_or, take, drop, length-append, length-drop}
use lib.Dec.{leb}
use lib.Seq.{length-take-le, get_or-take, get_or-drop}
use Rattle.tags.specs.Tags.{lowest, available, free_tags}
use Rattle.tags.proofs.Tags.{listed_is_free, rising}
use Rattle.tlp.specs.Request.{request_bytes}
use Rattle.tlp.specs.Laws.{ValidRequest}
use Rattle.tlp.proofs.RequestTrip.{request_reads_back}
use Rattle.address.specs.declared.Settings.{Settings}
use Rattle.address.specs.Laws.{Limit}
use Rattle.address.proofs.Laws.{accepted_reads, accepted_writes}
use Rattle.burst.specs.declared.Burst.{Burst}
use Rattle.burst.specs.declared.Piece.{Piece}
use Rattle.burst.specs.Bursts.{length_of}
use Rattle.burst.specs.Pieces.{addresses}
use Rattle.burst.specs.Words.{word_address, word_count, words_before}
use Rattle.burst.proofs.Words.{same_words, room_for_all, words_bytes}
use Rattle.machine.specs.Bridge.{Bridge}
use Rattle.machine.specs.State.{tag_count, free_slot}
use Rattle.machine.specs.Memory.{pcie_of, pieces_of, piece_of, place_in, piece_request, packet, claimed, read_to, read_sent, read_bytes, write_packet, write_sent}
use Rattle.bridge_laws.specs.MemoryLaws.{Routed, tag_of, read_of, AcceptedReadSends, write_of, payload_of, AcceptedWriteSends}
use Rattle.packets.proofs.Packets.{packet_valid, header_only, header_short, payload_length_lem}
use Rattle.machine.proofs.Refusals.{read_ok, write_ok, data_length}
use Rattle.bridge_laws.proofs.Verbs.{claimed_alone, as_claimed}
use Rattle.bridge_laws.proofs.Pieces.{turn_tag}
use Rattle.bridge_laws.proofs.Behind.{row_behind, low_bits_behind, piece_inside, byte_covered, piece_covered, piece_request_valid}

-- one more at the end
flat_from : (f : ℕ → List ℕ) (n a : ℕ) → flat_map f (addresses a (suc n)) ≡ flat_map f (addresses a n) ++ f (a + n)
unfolding flat_map addresses
flat_from f zero a = let e : a + 0 ≡ a = omega arith in rw e (append-nil (f a))
flat_from f (suc n) a =
    let e : suc a + n ≡ a + suc n = omega arith in
    ap (◌++◌ (f a)) (flat_from f n (suc a) ∙ ap (λ (k : ℕ). flat_map f (addresses (suc a) n) ++ f k) e)
    ∙ sym (append_assoc (f a) (flat_map f (addresses (suc a) n)) (f (a + suc n)))

flat_more : (f : ℕ → List ℕ) (n : ℕ) → flat_map f (addresses 0 (suc n)) ≡ flat_map f (addresses 0 n) ++ f n
flat_more f n = let e : 0 + n ≡ n = omega arith in rw e at (flat_from f n 0)

word_below : (a x : ℕ) → a ≤ x → word_address a ≤ x
unfolding word_address
word_below a x h = omega arith

part_length : (n from : ℕ) (bytes : List ℕ) → from + n ≤ length bytes → length (take n (drop from bytes)) ≡ n
part_length n from bytes h = length-take-le n (drop from bytes) (simp length-drop (omega arith))

-- ---- reads

module _ (b : Bridge) (q : Burst) (slot : ℕ) (enough : pieces_of b.settings.reads q ≤ available tag_count b.core.free) where
  abbrev free : ℕ
  free = b.core.free

  -- the tag of turn k
  pub turn : (k : ℕ) → k < available tag_count free → lowest tag_count (read_to slot q b k).core.free ≡ tag_of b k
  turn k h = turn_tag slot q b k h

  module _ (r : Routed b.settings q) where
    read_valid : (k : ℕ) → k < pieces_of b.settings.reads q → ValidRequest (read_of b q k)
    read_valid k h =
        piece_request_valid b.settings q r b.settings.reads (accepted_reads b.settings r.settings) k h false (tag_of b k) (omega (arith, (listed_is_free tag_count free k (omega arith)).below))

    sends : (k : ℕ) → k ≤ pieces_of b.settings.reads q → read_sent slot q b k ≡ flat_map (λ (k : ℕ). request_bytes (read_of b q k)) (addresses 0 k)
    unfolding read_sent flat_map addresses
    sends zero h = refl
    sends (suc k) h =
        let e : packet (piece_request false b.settings q (lowest tag_count (read_to slot q b k).core.free) (piece_of b.settings.reads q k)) [] ≡ request_bytes (read_of b q k) =
        rw (turn k (omega arith)) (header_only (read_of b q k) (read_valid k (omega arith)).0) in
        cc (sends k (omega arith), e, flat_more (λ (k : ℕ). request_bytes (read_of b q k)) k)

pub accepted_read_sends : AcceptedReadSends
accepted_read_sends b q room e f =
    let ok = read_ok b q room f in
    let k = free_slot b in
    let n = pieces_of b.settings.reads q in
    let a = claimed_alone k q b in
    let r : Routed b.settings q = record { settings = e; burst = ok.burst; window = ok.window } in
    record {
      sent =
          as_claimed k q b (λ s d. read_bytes b q ≡ flat_map (λ (i : ℕ). request_bytes (piece_request false s q (get_or (free_tags tag_count d.free) i 0) (piece_of s.reads q i))) (addresses 0 n))
          (sends (claimed k q b) q k (rw (a.core, a.settings) ok.tags) (rw a.settings r) n (rw a.settings (omega arith)));
      back = λ k h. request_reads_back (read_of b q k) (read_valid b q (free_slot b) ok.tags r k h);
      free = λ k h. listed_is_free tag_count b.core.free k (omega (arith, ok.tags));
      rise = λ i j h g. rising tag_count b.core.free i j h (omega (arith, ok.tags));
    }

-- ---- writes

module _ (s : Settings) (q : Burst) (bytes : List ℕ) (room : ℕ) (r : Routed s q) (len : length bytes ≡ length_of q) (enough : 4608 ≤ room) where
  abbrev l : ℕ
  l = s.writes

  limit : Limit l
  limit = (accepted_writes s r.settings).0

  abbrev p : ℕ → Piece
  p k = piece_of l q k

  abbrev y : ℕ → ℕ
  y k = pcie_of s.windows q (p k).first

  write_valid : (k : ℕ) → k < pieces_of l q → ValidRequest (write_of s q k)
  write_valid k h = piece_request_valid s q r l limit k h true 0 (omega arith)

  -- the packet of the k-th piece
  packet_is : (k : ℕ) → k < pieces_of l q → write_packet s q bytes k ≡ request_bytes (write_of s q k) ++ payload_of s q bytes k
  unfolding write_packet
  packet_is k h = packet_valid (write_of s q k) (payload_of s q bytes k) (write_valid k h).0

  -- its length: a header, and the words that the piece touches
  packet_room : (k : ℕ) → k < pieces_of l q → length (write_packet s q bytes k) ≤ 16 + 4 * word_count (p k).first (p k).length
  packet_room k h =
      let i = piece_inside s q r l limit k h in
      let c = low_bits_behind s q r (p k).first (piece_covered s q r l limit k h) in
      let d = same_words (y k) (p k).first (p k).length c in
      let e : length (payload_of s q bytes k) ≡ 4 * word_count (y k) (p k).length = payload_length_lem (y k) (p k).length (place_in q (p k)) bytes (omega arith) in
      omega (arith, ap length (packet_is k h), length-append (request_bytes (write_of s q k)) (payload_of s q bytes k), (header_short (write_of s q k)).1, e, d.0)

  -- so the area holds it too
  none_out : (k : ℕ) → k < pieces_of l q → length (write_sent s q bytes room k) ≤ 16 * k + 4 * words_before l q.start.0 (length_of q) k
      → leb (length (write_sent s q bytes room k) + length (write_packet s q bytes k)) room ≡ true
  unfolding words_before
  none_out k h i =
      let a = room_for_all q r.burst l limit (suc k) h in
      let b = packet_room k h in
      let c : length (write_sent s q bytes room k) + length (write_packet s q bytes k) ≤ room = omega (arith, a, b, i) in
      le-leb _ _ c

  -- the first k pieces fill no more than that
  short : (k : ℕ) → k ≤ pieces_of l q → length (write_sent s q bytes room k) ≤ 16 * k + 4 * words_before l q.start.0 (length_of q) k
  unfolding write_sent words_before
  short zero h = omega arith
  short (suc k) h =
      let i = short k (omega arith) in
      let b = packet_room k h in
      rw (none_out k h i) (omega (arith, i, b, length-append (write_sent s q bytes room k) (write_packet s q bytes k)))

  all : (k : ℕ) → k ≤ pieces_of l q → write_sent s q bytes room k ≡ flat_map (λ (k : ℕ). request_bytes (write_of s q k) ++ payload_of s q bytes k) (addresses 0 k)
  unfolding write_sent flat_map addresses
  all zero h = refl
  all (suc k) h =
      let f : ℕ → List ℕ = λ (k : ℕ). request_bytes (write_of s q k) ++ payload_of s q bytes k in
      rw (none_out k h (short k (omega arith))) (cc (all k (omega arith), packet_is k h, flat_more f k))

  -- a byte of the k-th piece in its words
  carried : (k : ℕ) → k < pieces_of l q → (x : ℕ) → (p k).first ≤ x → x < (p k).first + (p k).length
      → get_or (payload_of s q bytes k) (pcie_of s.windows q x - word_address (y k)) 0 ≡ get_or bytes (x - q.start.0) 0
  carried k h x f g =
      let i = piece_inside s q r l limit k h in
      let d = take (p k).length (drop (place_in q (p k)) bytes) in
      let z = pcie_of s.windows q x in
      let ex = row_behind s q r x (byte_covered s q r l limit k h x f g) in
      let ey = row_behind s q r (p k).first (piece_covered s q r l limit k h) in
      let n : length d ≡ (p k).length = part_length (p k).length (place_in q (p k)) bytes (omega arith) in
      let a : y k ≤ z = omega (arith, ex, ey, i.starts) in
      let b : z < y k + length d = omega (arith, ex, ey, i.starts, n) in
      let c : word_address (y k) ≤ z = word_below (y k) z a in
      let j : z - y k ≡ x - (p k).first = omega (arith, ex, ey, i.starts) in
      let m : place_in q (p k) + (x - (p k).first) ≡ x - q.start.0 = omega (arith, i.starts) in
      words_bytes (y k) d z c
      ∙ rw (le-leb _ _ a, lt-ltb _ _ b, j, get_or-take (p k).length (drop (place_in q (p k)) bytes) (x - (p k).first) 0 (omega arith), get_or-drop (place_in q (p k)) bytes (x - (p k).first) 0, m)

pub accepted_write_sends : AcceptedWriteSends
accepted_write_sends b q bytes room e f =
    let ok = write_ok b q (length bytes) room f in
    let s = b.settings in
    let r : Routed s q = record { settings = e; burst = ok.burst; window = ok.window } in
    let n = data_length q (length bytes) ok.bytes in
    record {
      sent = all s q bytes room r n ok.area (pieces_of s.writes q) (omega arith);
      back = λ k h. request_reads_back (write_of s q k) (write_valid s q bytes room r n ok.area k h);
      carried = λ k h x i j. carried s q bytes room r n ok.area k h x i j;
    }
