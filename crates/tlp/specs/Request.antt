-- Document 01, 'Header bytes': requests.
use Rattle.std.specs.Prelude.{ℕ, ◌+◌, ◌*◌, ◌/◌, ◌%◌, ◌^◌, List, [], ◌∷◌, Bool, true, false, cond, not, ◌&&◌, ◌||◌, length, ltb, leb, eqb, Option, Some, None, Result, Ok, Err}
use Rattle.refusals.specs.declared.Refusal.{Refusal}
use Rattle.refusals.specs.declared.Refusal.TheVariants.{Malformed}
use Rattle.tlp.specs.declared.request.ConfigAddress.{ConfigAddress}
use Rattle.tlp.specs.declared.request.Target.{Target}
use Rattle.tlp.specs.declared.request.Target.TheVariants.{Memory, Config0, Config1}
use Rattle.tlp.specs.declared.request.Request.{Request}
use Rattle.tlp.specs.Bytes.{bytes, byte, number, length_in, write_header, area_after}

-- The ranges.

-- length 1 has last enables 0, a longer one both not 0
abbrev pub valid_enables : ℕ → ℕ → ℕ → Bool
valid_enables words last first = eqb words 1 && eqb last 0 || ltb 1 words && not (eqb last 0) && not (eqb first 0)

abbrev pub valid_config : ConfigAddress → Bool
valid_config p = ltb p.bus 256 && ltb p.device 32 && ltb p.function 8 && ltb p.extended 16 && ltb p.register 64

-- a memory address has its low two bits zero; configuration has length 1
unfoldable pub valid_target : ℕ → Target → Bool
valid_target words (Memory a) = eqb (a % 4) 0
valid_target words (Config0 p) = eqb words 1 && valid_config p
valid_target words (Config1 p) = eqb words 1 && valid_config p

unfoldable pub valid_request : Request → Bool
valid_request r =
    leb 1 r.length
    && leb r.length 1024
    && ltb r.requester (2 ^ 16)
    && ltb r.tag 256
    && ltb r.last 16
    && ltb r.first 16
    && valid_enables r.length r.last r.first
    && valid_target r.length r.target

-- The bytes.

-- byte 0, format and type: read 00/20, write 40/60, config read 04/05, config write 44/45. A memory header has 3 words
-- below 2^32 and 4 from there on.
unfoldable pub format_type : Bool → Target → ℕ
format_type false (Memory a) = cond (ltb a (2 ^ 32)) 0x00 0x20
format_type true (Memory a) = cond (ltb a (2 ^ 32)) 0x40 0x60
format_type false (Config0 p) = 0x04
format_type false (Config1 p) = 0x05
format_type true (Config0 p) = 0x44
format_type true (Config1 p) = 0x45

abbrev pub config_bytes : ConfigAddress → List ℕ
config_bytes p = p.bus ∷ (p.device * 8 + p.function) ∷ p.extended ∷ (p.register * 4) ∷ []

abbrev pub address_bytes : ℕ → List ℕ
address_bytes a = cond (ltb a (2 ^ 32)) (bytes 4 a) (bytes 8 a)

-- from byte 8 on: the address; or bus, device x 8 + function, extended register, register x 4
unfoldable pub target_bytes : Target → List ℕ
target_bytes (Memory a) = address_bytes a
target_bytes (Config0 p) = config_bytes p
target_bytes (Config1 p) = config_bytes p

-- bytes 0 to 3: format and type; zero; length bits 9:8; length bits 7:0. Bytes 4 to 7: requester ID, tag, last
-- enables then first enables
unfoldable pub request_bytes : Request → List ℕ
request_bytes r =
    format_type r.write r.target
    ∷ 0
    ∷ (r.length % 1024 / 256)
    ∷ (r.length % 256)
    ∷ (r.requester / 256)
    ∷ (r.requester % 256)
    ∷ r.tag
    ∷ (r.last * 16 + r.first)
    ∷ target_bytes r.target

-- The writer.

abbrev pub write_request : Request → ℕ → Result ℕ Refusal
write_request r room = write_header room (valid_request r) (request_bytes r)

abbrev pub area_after_request : Request → List ℕ → List ℕ
area_after_request r area = area_after area (valid_request r) (request_bytes r)

-- The reader.

-- the layouts
pub data Format : Type 0 where
  Memory3 : Format
  Memory4 : Format
  Type0 : Format
  Type1 : Format
  Other : Format

-- byte 0 without the write bit
unfoldable pub format_of : ℕ → Format
format_of k =
    cond (eqb k 0x00) Memory3 (cond (eqb k 0x20) Memory4 (cond (eqb k 0x04) Type0 (cond (eqb k 0x05) Type1 Other)))

abbrev pub config_in : List ℕ → ConfigAddress
config_in s =
    record {
      bus = byte s 8;
      device = byte s 9 / 8;
      function = byte s 9 % 8;
      extended = byte s 10;
      register = byte s 11 / 4;
    }

-- exactly the header's bytes; 4-word addresses are 2^32 or more; the register's low two bits are zero
unfoldable pub target_in : Format → List ℕ → Option Target
target_in Memory3 s = cond (eqb (length s) 12) (Some (Memory (number s 8 4))) None
target_in Memory4 s = cond (eqb (length s) 16 && leb (2 ^ 32) (number s 8 8)) (Some (Memory (number s 8 8))) None
target_in Type0 s = cond (eqb (length s) 12 && eqb (byte s 11 % 4) 0) (Some (Config0 (config_in s))) None
target_in Type1 s = cond (eqb (length s) 12 && eqb (byte s 11 % 4) 0) (Some (Config1 (config_in s))) None
target_in Other s = None

abbrev pub request_in : List ℕ → Target → Request
request_in s target =
    record {
      write = leb 0x40 (byte s 0);
      target = target;
      length = length_in (byte s 2 * 256 + byte s 3);
      requester = byte s 4 * 256 + byte s 5;
      tag = byte s 6;
      last = byte s 7 / 16;
      first = byte s 7 % 16;
    }

-- 'all else zero', EP among it: byte 0 has bit 7 zero, byte 1 is zero, byte 2 holds only the length's two bits
unfoldable pub request_reserved : List ℕ → Bool
request_reserved s = ltb (byte s 0) 0x80 && eqb (byte s 1) 0 && ltb (byte s 2) 4

abbrev pub accept_request : Request → Result Request Refusal
accept_request r = cond (valid_request r) (Ok r) (Err Malformed)

abbrev pub read_with : List ℕ → Option Target → Result Request Refusal
read_with s (Some target) = accept_request (request_in s target)
read_with s None = Err Malformed

unfoldable pub read_request : List ℕ → Result Request Refusal
read_request s = cond (request_reserved s) (read_with s (target_in (format_of (byte s 0 % 0x40)) s)) (Err Malformed)
