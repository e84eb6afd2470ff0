-- What is sent for a memory burst: its pieces through their window, and a packet for each (01, 'Memory bursts').
use Rattle.std.specs.Prelude.{ℕ, ◌-◌, Option, Some, None, List, [], ◌++◌, Bool, cond, length, drop}
use Rattle.tlp.specs.declared.request.Target.TheVariants.{Memory}
use Rattle.tlp.specs.declared.request.Request.{Request}
use Rattle.tlp.specs.Request.{valid_request, request_bytes}
use Rattle.address.specs.declared.Windows.{Windows}
use Rattle.address.specs.declared.Settings.{Settings}
use Rattle.address.specs.Windows.{axi, window_of, translated_at}
use Rattle.burst.specs.declared.Burst.{Burst}
use Rattle.burst.specs.declared.Piece.{Piece}
use Rattle.burst.specs.Bursts.{length_of}
use Rattle.burst.specs.Pieces.{piece_count, piece_at}
use Rattle.burst.specs.Words.{word_address, word_count, first_enables, last_enables}

-- the area after a call: 'An accepted call writes a prefix .. the rest stays'
abbrev pub filled : List ℕ → List ℕ → List ℕ
filled sent area = sent ++ drop (length sent) area

abbrev pub window_for : Windows → Burst → Option ℕ
window_for w q = window_of w.count w.base w.size q.start

abbrev pub index_of : Option ℕ → ℕ
index_of (Some i) = i
index_of None = 0

-- the PCIe address of an AXI address, through the window that holds the burst's first byte
unfoldable pub pcie_of : Windows → Burst → ℕ → ℕ
pcie_of w q x = (translated_at w (index_of (window_for w q)) (axi x)).0

abbrev pub pieces_of : ℕ → Burst → ℕ
pieces_of limit q = piece_count limit q.start.0 (length_of q)

abbrev pub piece_of : ℕ → Burst → ℕ → Piece
piece_of limit q k = piece_at limit q.start.0 (length_of q) k

-- where a piece's bytes lie in the burst
abbrev pub place_in : Burst → Piece → ℕ
place_in q p = p.first - q.start.0

-- the request for n bytes from PCIe address a on
unfoldable pub memory_request : Bool → ℕ → ℕ → ℕ → ℕ → Request
memory_request write requester tag a n =
    record {
      write = write;
      target = Memory (word_address a);
      length = word_count a n;
      requester = requester;
      tag = tag;
      last = last_enables a n;
      first = first_enables a n;
    }

-- the request of a burst's piece
abbrev pub piece_request : Bool → Settings → Burst → ℕ → Piece → Request
piece_request write s q tag p = memory_request write s.requester tag (pcie_of s.windows q p.first) p.length

-- a packet: header and payload. A request outside the header's ranges has none: accepted settings make no such request
unfoldable pub packet : Request → List ℕ → List ℕ
packet r payload = cond (valid_request r) (request_bytes r ++ payload) []
