-- Memory reads and writes (01, 'Memory bursts'). What is sent for a burst is defined in `packets`, what
-- refuses one in Refusals, and passed on.
use Rattle.std.specs.Prelude.{ℕ, zero, suc, List, [], ◌++◌, false, cond, length, eqb}
use Rattle.tags.specs.Tags.{lowest}
use Rattle.address.specs.declared.Settings.{Settings}
use Rattle.burst.specs.declared.Burst.{Burst}
use Rattle.burst.specs.declared.Piece.{Piece}
use Rattle.burst.specs.Bursts.{length_of}
use Rattle.refusals.specs.declared.Response.TheVariants.{Nothing, Okay}
use Rattle.parts.specs.declared.Pending.{Pending}
use Rattle.parts.specs.Pendings.{memory_pending}
use Rattle.machine.specs.State.{Bridge, Answered, tag_count, slot_size, slot_open, okay, set_state, set_size, set_pieces, set_fault, set_cause, set_session, figures_now, opened, free_slot, accepted, answered, refused}
pub use Rattle.parts.specs.Access.{area_size}
pub use Rattle.packets.specs.Packets.{filled, window_for, index_of, pieces_of, piece_of, place_in, piece_request}
unfoldable pub use Rattle.packets.specs.Packets.{pcie_of, memory_request, packet}
pub use Rattle.packets.specs.Writes.{write_bytes}
unfoldable pub use Rattle.packets.specs.Writes.{write_packet, write_sent}
pub use Rattle.machine.specs.Refusals.{read_number, write_number}

-- ---- reads

unfoldable pub read_refusal : Bridge → Burst → ℕ → ℕ
read_refusal b q room = read_number b.settings b.core (free_slot b) q room

-- slot k waits for n bytes, in so many pieces, of a read that is accepted now
abbrev pub waiting_for : ℕ → ℕ → ℕ → Bridge → Bridge
waiting_for k n count b =
    set_state k slot_open (set_size k n (set_pieces k count (set_fault k slot_size (set_cause k okay (set_session k (figures_now b.core).session b)))))

-- and for a burst
unfoldable pub claimed : ℕ → Burst → Bridge → Bridge
claimed k q b = waiting_for k (length_of q) (pieces_of b.settings.reads q) b

-- what is kept of the request for a piece
abbrev pub piece_pending : ℕ → Settings → Burst → Piece → Pending
piece_pending slot s q p = memory_pending slot (place_in q p) p.length (pcie_of s.windows q p.first)

-- the first k pieces are opened, in address order, each with the lowest free tag
unfoldable pub read_to : ℕ → Burst → Bridge → ℕ → Bridge
read_to slot q b zero = b
read_to slot q b (suc k) = opened (piece_pending slot b.settings q (piece_of b.settings.reads q k)) (read_to slot q b k)

-- and one header is sent for each
unfoldable pub read_sent : ℕ → Burst → Bridge → ℕ → List ℕ
read_sent slot q b zero = []
read_sent slot q b (suc k) =
    read_sent slot q b k
    ++ packet
    (piece_request false b.settings q (lowest tag_count (read_to slot q b k).core.free) (piece_of b.settings.reads q k)) []

-- the bridge with slot and pieces opened, and what is sent
abbrev pub read_bridge : Bridge → Burst → Bridge
read_bridge b q = read_to (free_slot b) q (claimed (free_slot b) q b) (pieces_of b.settings.reads q)

abbrev pub read_bytes : Bridge → Burst → List ℕ
read_bytes b q = read_sent (free_slot b) q (claimed (free_slot b) q b) (pieces_of b.settings.reads q)

-- row 0: 'read .. none yet, with the slot'
unfoldable pub read_step : Bridge → Burst → ℕ → Answered
read_step b q room =
    cond (eqb (read_refusal b q room) 0)
    (answered (read_bridge b q) (accepted Nothing (free_slot b) (length (read_bytes b q)) 0))
    (refused (read_refusal b q room) b)

unfoldable pub read_area : Bridge → Burst → List ℕ → List ℕ
read_area b q area = cond (eqb (read_refusal b q (length area)) 0) (filled (read_bytes b q) area) area

-- ---- writes

unfoldable pub write_refusal : Bridge → Burst → ℕ → ℕ → ℕ
write_refusal b q len room = write_number b.settings b.core q len room

-- 'Writes are posted: OKAY when sent'
unfoldable pub write_step : Bridge → Burst → List ℕ → ℕ → Answered
write_step b q bytes room =
    cond (eqb (write_refusal b q (length bytes) room) 0)
    (answered b (accepted Okay 0 (length (write_bytes b.settings q bytes room)) 0))
    (refused (write_refusal b q (length bytes) room) b)

unfoldable pub write_area : Bridge → Burst → List ℕ → List ℕ → List ℕ
write_area b q bytes area =
    cond (eqb (write_refusal b q (length bytes) (length area)) 0)
    (filled (write_bytes b.settings q bytes (length area)) area) area
