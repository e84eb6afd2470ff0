-- The packets of a memory write.
use Rattle.std.specs.Prelude.{ℕ, zero, suc, ◌+◌, List, [], ◌++◌, true, cond, length, take, drop, leb}
use Rattle.address.specs.declared.Settings.{Settings}
use Rattle.burst.specs.declared.Burst.{Burst}
use Rattle.burst.specs.Words.{words_of}
use Rattle.packets.specs.Packets.{pcie_of, pieces_of, piece_of, place_in, piece_request, packet}

-- the packet of the k-th piece: 'each header followed by its words, unwanted bytes zero'; 'a memory write has tag 0'
unfoldable pub write_packet : Settings → Burst → List ℕ → ℕ → List ℕ
write_packet s q bytes k =
    packet (piece_request true s q 0 (piece_of s.writes q k))
    (words_of (pcie_of s.windows q (piece_of s.writes q k).first)
    (take (piece_of s.writes q k).length (drop (place_in q (piece_of s.writes q k)) bytes)))

-- the packets of the first k pieces; one that the area cannot hold any more is left out: accepted settings make none
unfoldable pub write_sent : Settings → Burst → List ℕ → ℕ → ℕ → List ℕ
write_sent s q bytes room zero = []
write_sent s q bytes room (suc k) =
    cond (leb (length (write_sent s q bytes room k) + length (write_packet s q bytes k)) room)
    (write_sent s q bytes room k ++ write_packet s q bytes k)
    (write_sent s q bytes room k)

abbrev pub write_bytes : Settings → Burst → List ℕ → ℕ → List ℕ
write_bytes s q bytes room = write_sent s q bytes room (pieces_of s.writes q)
