-- What holds of memory reads and writes.
use Rattle.std.specs.Prelude.{◌≡◌, ◌≢◌, Bool, true, false, cond, ◌&&◌, ℕ, ◌+◌, ◌-◌, ◌*◌, ◌/◌, ◌%◌, ◌^◌, ◌≤◌, ◌<◌, length, get_or, take, drop, ltb, leb, eqb, Ok}
use mathlib.Core.List.{List, ◌++◌, flat_map}
use Rattle.bits.specs.Bits.{is_set}
use Rattle.tags.specs.Tags.{free_tags, without, lowest_few}
use Rattle.tags.specs.Laws.{FreeTag}
use Rattle.tlp.specs.declared.request.Target.{Target}
use Rattle.tlp.specs.declared.request.Target.TheVariants.{Memory, Config0, Config1}
use Rattle.tlp.specs.declared.request.Request.{Request}
use Rattle.tlp.specs.Request.{request_bytes, read_request}
use Rattle.tlp.specs.Laws.{ValidRequest}
use Rattle.address.specs.declared.Settings.{Settings}
use Rattle.address.specs.Windows.{found_number}
use Rattle.address.specs.Settings.{settings_number}
use Rattle.address.specs.Laws.{Limit}
use Rattle.burst.specs.declared.Burst.{Burst}
use Rattle.burst.specs.declared.Piece.{Piece}
use Rattle.burst.specs.Bursts.{burst_number, length_of}
use Rattle.burst.specs.Pieces.{addresses, pieces}
use Rattle.burst.specs.Words.{word_address, lower_address, wanted, words_of}
use Rattle.machine.specs.Bridge.{Bridge}
use Rattle.machine.specs.State.{tag_count, slot_count, memory_read, tag_at, slot_at, raise, free_slot, refusal}
use Rattle.machine.specs.Memory.{window_for, pcie_of, pieces_of, piece_of, place_in, memory_request, piece_request, packet, read_refusal, read_bridge, read_bytes, read_step, read_area, write_refusal, write_bytes, write_step, write_area}
use Rattle.bridge_laws.specs.Rows.{claimed_slot}

-- ## Behind the window

-- right settings, a right burst, and a window that holds its first byte
pub record Routed (s : Settings) (q : Burst) : Type 0 where
  pub settings : settings_number s ≡ 0
  pub burst : burst_number q ≡ 0
  pub window : found_number (window_for s.windows q) ≡ 0

-- a byte of the burst
abbrev pub Covered : Burst → ℕ → Type 0
Covered q x = (q.start.0 ≤ x) × (x < q.start.0 + length_of q)

-- behind the window the burst's bytes stand in one row, as before it
abbrev pub RowBehind : Type 0
RowBehind =
    (s : Settings) (q : Burst) → Routed s q → (x : ℕ) → Covered q x
    → pcie_of s.windows q x ≡ pcie_of s.windows q q.start.0 + (x - q.start.0)

-- each keeps its low 12 bits
abbrev pub LowBitsBehind : Type 0
LowBitsBehind =
    (s : Settings) (q : Burst) → Routed s q → (x : ℕ) → Covered q x → pcie_of s.windows q x % 4096 ≡ x % 4096

-- the bytes that a piece's request asks for
abbrev pub bytes_behind : Settings → Burst → Piece → List ℕ
bytes_behind s q p = addresses (pcie_of s.windows q p.first) p.length

-- THE TILING BEHIND: joined in order, those of all pieces are the burst's bytes behind its window, each once
abbrev pub TilesBehind : Type 0
TilesBehind =
    (s : Settings) (q : Burst) → Routed s q
    → (l : ℕ) → Limit l
    → flat_map (bytes_behind s q) (pieces l q.start.0 (length_of q))
    ≡ addresses (pcie_of s.windows q q.start.0) (length_of q)

-- ## Requests

-- the request of every piece is valid
abbrev pub PieceRequestValid : Type 0
PieceRequestValid =
    (s : Settings) (q : Burst) → Routed s q
    → (l : ℕ) → Limit l
    → (k : ℕ) → k < pieces_of l q
    → (write : Bool) (tag : ℕ) → tag < 256
    → ValidRequest (piece_request write s q tag (piece_of l q k))

-- the byte at address x is asked for by a header with this address, length and enables: it lies in the words, and the
-- enables of its word have its bit; between the first word and the last every byte is wanted
abbrev pub asks_from : ℕ → ℕ → ℕ → ℕ → ℕ → Bool
asks_from a words last first x =
    leb a x
    && ltb x (a + 4 * words)
    && eqb (cond (ltb x (a + 4)) first (cond (leb (a + 4 * (words - 1)) x) last 15) / 2 ^ ((x - a) % 4) % 2) 1

abbrev pub asks_at : Target → Request → ℕ → Bool
asks_at (Memory a) r x = asks_from a r.length r.last r.first x
asks_at (Config0 p) r x = false
asks_at (Config1 p) r x = false

abbrev pub asks : Request → ℕ → Bool
asks r x = asks_at r.target r x

-- the request for n bytes from a on asks for these bytes and no others
abbrev pub AsksWanted : Type 0
AsksWanted =
    (write : Bool) (requester tag a n : ℕ) → 0 < n → (x : ℕ) → asks (memory_request write requester tag a n) x ≡ wanted a n x

-- a valid request's packet is its header and its payload
abbrev pub PacketWhole : Type 0
PacketWhole = (r : Request) (payload : List ℕ) → ValidRequest r → packet r payload ≡ request_bytes r ++ payload

-- ## Reads

-- the k-th free tag, and the request of the k-th piece
abbrev pub tag_of : Bridge → ℕ → ℕ
tag_of b k = get_or (free_tags tag_count b.core.free) k 0

abbrev pub read_of : Bridge → Burst → ℕ → Request
read_of b q k = piece_request false b.settings q (tag_of b k) (piece_of b.settings.reads q k)

-- what an accepted read sends: a header for each piece, with a free tag, and the tags rise; each reads back
pub record ReadSends (b : Bridge) (q : Burst) : Type 0 where
  pub sent :
      read_bytes b q ≡ flat_map (λ (k : ℕ). request_bytes (read_of b q k)) (addresses 0 (pieces_of b.settings.reads q))
  pub back :
      (k : ℕ) → k < pieces_of b.settings.reads q → read_request (request_bytes (read_of b q k)) ≡ Ok (read_of b q k)
  pub free : (k : ℕ) → k < pieces_of b.settings.reads q → FreeTag tag_count b.core.free (tag_of b k)
  pub rise : (i j : ℕ) → i < j → j < pieces_of b.settings.reads q → tag_of b i < tag_of b j

abbrev pub AcceptedReadSends : Type 0
AcceptedReadSends =
    (b : Bridge) (q : Burst) (room : ℕ) → settings_number b.settings ≡ 0 → read_refusal b q room ≡ 0 → ReadSends b q

-- what it leaves as it was: settings, registers, both counters, configuration slot; the rows of other slots, and of tags that
-- are not free
pub record ReadKeeps (b c : Bridge) : Type 0 where
  pub settings : c.settings ≡ b.settings
  pub registers : c.core.registers ≡ b.core.registers
  pub ticks : c.core.ticks ≡ b.core.ticks
  pub counter : c.core.session ≡ b.core.session
  pub config : c.core.config ≡ b.core.config
  pub slots : (k : ℕ) → k ≢ free_slot b → slot_at c k ≡ slot_at b k
  pub free : (t : ℕ) → is_set b.core.free t ≡ false → is_set c.core.free t ≡ false
  pub tags : (t : ℕ) → is_set b.core.free t ≡ false → tag_at c t ≡ tag_at b t

abbrev pub AcceptedReadKeeps : Type 0
AcceptedReadKeeps = (b : Bridge) (q : Burst) (room : ℕ) → read_refusal b q room ≡ 0 → ReadKeeps b (read_bridge b q)

-- the columns have an entry for each tag and each slot
pub record Tables (b : Bridge) : Type 0 where
  pub missing : length b.missing ≡ tag_count
  pub sent : length b.sent ≡ tag_count
  pub owner : length b.owner ≡ tag_count
  pub place : length b.place ≡ tag_count
  pub next : length b.next ≡ tag_count
  pub kind : length b.kind ≡ tag_count
  pub state : length b.state ≡ slot_count
  pub size : length b.size ≡ slot_count
  pub pieces : length b.pieces ≡ slot_count
  pub fault : length b.fault ≡ slot_count
  pub cause : length b.cause ≡ slot_count
  pub session : length b.session ≡ slot_count

-- what an accepted read stores: each piece at its tag, the burst at its slot; the tags are no longer free
pub record ReadOpens (b : Bridge) (q : Burst) (c : Bridge) : Type 0 where
  pub free : c.core.free ≡ without b.core.free (lowest_few tag_count b.core.free (pieces_of b.settings.reads q))
  pub tag :
      (k : ℕ) → k < pieces_of b.settings.reads q
      → tag_at c (tag_of b k)
      ≡ record {
        missing = (piece_of b.settings.reads q k).length;
        sent = b.core.ticks;
        owner = free_slot b;
        place = place_in q (piece_of b.settings.reads q k);
        next = lower_address (pcie_of b.settings.windows q (piece_of b.settings.reads q k).first);
        kind = memory_read;
      }
  pub slot : slot_at c (free_slot b) ≡ claimed_slot b q

abbrev pub AcceptedReadOpens : Type 0
AcceptedReadOpens =
    (b : Bridge) (q : Burst) (room : ℕ) → Tables b → read_refusal b q room ≡ 0 → ReadOpens b q (read_bridge b q)

-- ## Writes

-- the request and the payload of the k-th piece
abbrev pub write_of : Settings → Burst → ℕ → Request
write_of s q k = piece_request true s q 0 (piece_of s.writes q k)

abbrev pub payload_of : Settings → Burst → List ℕ → ℕ → List ℕ
payload_of s q bytes k =
    words_of (pcie_of s.windows q (piece_of s.writes q k).first)
    (take (piece_of s.writes q k).length (drop (place_in q (piece_of s.writes q k)) bytes))

-- what an accepted write sends: for each piece a header, which reads back, and its words; none is left out. Each byte of the
-- burst stands in the words of its piece, at its address behind the window
pub record WriteSends (s : Settings) (q : Burst) (bytes : List ℕ) (room : ℕ) : Type 0 where
  pub sent :
      write_bytes s q bytes room
      ≡ flat_map (λ (k : ℕ). request_bytes (write_of s q k) ++ payload_of s q bytes k) (addresses 0 (pieces_of s.writes q))
  pub back : (k : ℕ) → k < pieces_of s.writes q → read_request (request_bytes (write_of s q k)) ≡ Ok (write_of s q k)
  pub carried :
      (k : ℕ) → k < pieces_of s.writes q
      → (x : ℕ) → (piece_of s.writes q k).first ≤ x
      → x < (piece_of s.writes q k).first + (piece_of s.writes q k).length
      → get_or (payload_of s q bytes k)
      (pcie_of s.windows q x - word_address (pcie_of s.windows q (piece_of s.writes q k).first)) 0
      ≡ get_or bytes (x - q.start.0) 0

abbrev pub AcceptedWriteSends : Type 0
AcceptedWriteSends =
    (b : Bridge) (q : Burst) (bytes : List ℕ) (room : ℕ) → settings_number b.settings ≡ 0
    → write_refusal b q (length bytes) room ≡ 0 → WriteSends b.settings q bytes room

-- ## Refusals

-- 'Apart from the change column, a refusal sends nothing and changes no register, tag, slot or byte': only 3 changes, bit 25
abbrev pub RefusedRead : Type 0
RefusedRead =
    (b : Bridge) (q : Burst) (area : List ℕ) → (read_refusal b q (length area) ≡ 0 → ⊥)
    → ((read_step b q (length area)).bridge ≡ cond (eqb (read_refusal b q (length area)) 3) (raise 25 b) b)
    × ((read_step b q (length area)).answer ≡ refusal (read_refusal b q (length area)))
    × (read_area b q area ≡ area)

abbrev pub RefusedWrite : Type 0
RefusedWrite =
    (b : Bridge) (q : Burst) (bytes area : List ℕ) → (write_refusal b q (length bytes) (length area) ≡ 0 → ⊥)
    → ((write_step b q bytes (length area)).bridge
    ≡ cond (eqb (write_refusal b q (length bytes) (length area)) 3) (raise 25 b) b)
    × ((write_step b q bytes (length area)).answer ≡ refusal (write_refusal b q (length bytes) (length area)))
    × (write_area b q bytes area ≡ area)
