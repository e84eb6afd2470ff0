-- An area keeps its length: no call sends more than it holds.
use Prim.Native.Nat.{ℕ, zero, suc, ◌+◌, ◌*◌, ◌≤◌, zero-le}
use mathlib.Core.Path.{◌≡◌, refl, ap}
use mathlib.Core.List.{List, [], ◌++◌}
use mathlib.Core.Bool.{Bool, true, false, cond}
use native.Mathlib.Omega.{arith}
use borrow.Author.Tests.{eqb-true, leb-true}
use lib.Dec.{leb, eqb}
use lib.ListN.{length, drop, length-append, length-drop}
use Rattle.tlp.specs.declared.request.Request.{Request}
use Rattle.tlp.specs.Request.{valid_request, request_bytes}
use Rattle.tags.proofs.Tags.{available_within}
use Rattle.address.specs.declared.Settings.{Settings}
use Rattle.burst.specs.declared.Burst.{Burst}
use Rattle.ecam.specs.Request.{data_bytes}
use Rattle.packets.specs.Writes.{write_packet, write_sent}
use Rattle.packets.proofs.Packets.{header_short, packet_valid, packet_none, packet_short}
use Rattle.machine.specs.Bridge.{Bridge}
use Rattle.machine.specs.State.{tag_count, free_slot}
use Rattle.machine.specs.Memory.{filled, packet, pieces_of, claimed, read_sent, read_bytes, read_refusal, read_area, write_refusal, write_bytes, write_area}
use Rattle.machine.specs.Config.{Access, route_of, goes_out, payload_of, routed_bytes, config_refusal, config_bytes, config_area}
use Rattle.machine.proofs.Refusals.{read_ok}
use Rattle.machine.proofs.Configs.{passed}

filled_keeps : (sent area : List ℕ) → length sent ≤ length area → length (filled sent area) ≡ length area
filled_keeps sent area l = omega (arith, length-append sent (drop (length sent) area), length-drop (length sent) area)

-- an accepted call fills a prefix of it, a refused one nothing
area_by : (n : ℕ) (sent area : List ℕ) → (n ≡ 0 → length sent ≤ length area) → (t : Bool) → eqb n 0 ≡ t
    → length (cond t (filled sent area) area) ≡ length area
area_by n sent area fits true e = filled_keeps sent area (fits (eqb-true n 0 e))
area_by n sent area fits false e = refl

-- ---- a read: at most 32 headers

header_more : (sent header : List ℕ) (k : ℕ) → length sent ≤ 16 * k → length header ≤ 16 → length (sent ++ header) ≤ 16 * suc k
header_more sent header k l h = omega (arith, length-append sent header)

headers_short : (slot : ℕ) (q : Burst) (b : Bridge) (k : ℕ) → length (read_sent slot q b k) ≤ 16 * k
unfolding read_sent
headers_short slot q b zero = zero-le
headers_short slot q b (suc k) = header_more (read_sent slot q b k) _ k (headers_short slot q b k) (packet_short _)

read_fits : (b : Bridge) (q : Burst) (room : ℕ) → read_refusal b q room ≡ 0 → length (read_bytes b q) ≤ room
read_fits b q room e =
    let ok = read_ok b q room e in
    omega (
      arith,
      ok.area,
      ok.tags,
      available_within tag_count b.core.free,
      headers_short (free_slot b) q (claimed (free_slot b) q b) (pieces_of b.settings.reads q),
    )

pub read_keeps : (b : Bridge) (q : Burst) (area : List ℕ) → length (read_area b q area) ≡ length area
unfolding read_area
read_keeps b q area = area_by (read_refusal b q (length area)) (read_bytes b q) area (read_fits b q (length area)) _ refl

-- ---- a write: what the area cannot hold is left out

write_by : (sent p : List ℕ) (room : ℕ) (t : Bool) → leb (length sent + length p) room ≡ t → length sent ≤ room
    → length (cond t (sent ++ p) sent) ≤ room
write_by sent p room true e l = omega (arith, leb-true (length sent + length p) room e, length-append sent p)
write_by sent p room false e l = l

write_fits : (s : Settings) (q : Burst) (bytes : List ℕ) (room k : ℕ) → length (write_sent s q bytes room k) ≤ room
unfolding write_sent
write_fits s q bytes room zero = zero-le
write_fits s q bytes room (suc k) = write_by (write_sent s q bytes room k) (write_packet s q bytes k) room _ refl (write_fits s q bytes room k)

pub write_keeps : (b : Bridge) (q : Burst) (bytes area : List ℕ) → length (write_area b q bytes area) ≡ length area
unfolding write_area
write_keeps b q bytes area =
    area_by (write_refusal b q (length bytes) (length area)) (write_bytes b.settings q bytes (length area)) area
    (λ _. write_fits b.settings q bytes (length area) (pieces_of b.settings.writes q)) _ refl

-- ---- a configuration access: one header, and at most a word

payload_short : (write : Bool) (word : ℕ) → length (payload_of write word) ≤ 4
unfolding payload_of data_bytes
payload_short true word = omega arith
payload_short false word = omega arith

packet_by : (r : Request) (payload : List ℕ) (t : Bool) → valid_request r ≡ t → length payload ≤ 4 → length (packet r payload) ≤ 20
packet_by r payload true e l =
    omega (arith, ap length (packet_valid r payload e), length-append (request_bytes r) payload, header_short r)
packet_by r payload false e l = omega (arith, ap length (packet_none r payload e))

config_by : (sent : List ℕ) (t : Bool) → length sent ≤ 20 → length (cond t sent []) ≤ 20
config_by sent true l = l
config_by sent false l = zero-le

config_fits : (b : Bridge) (a : Access) (room : ℕ) → config_refusal b a room ≡ 0 → length (config_bytes b a) ≤ room
config_fits b a room e =
    omega (
      arith,
      (passed b.core (route_of b a) room e).long,
      config_by (routed_bytes b a) (goes_out (route_of b a)) (packet_by _ _ _ refl (payload_short a.write a.word)),
    )

pub config_keeps : (b : Bridge) (a : Access) (area : List ℕ) → length (config_area b a area) ≡ length area
unfolding config_area
config_keeps b a area = area_by (config_refusal b a (length area)) (config_bytes b a) area (config_fits b a (length area)) _ refl
