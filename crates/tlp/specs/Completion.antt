-- Document 01, 'Header bytes' and the first paragraph of 'Completions': completions.
use Rattle.std.specs.Prelude.{ℕ, ◌+◌, ◌*◌, ◌/◌, ◌%◌, ◌^◌, List, [], ◌∷◌, Bool, cond, not, ◌&&◌, ◌||◌, length, ltb, leb, eqb, Result, Ok, Err}
use Rattle.refusals.specs.declared.Refusal.{Refusal}
use Rattle.refusals.specs.declared.Refusal.TheVariants.{Malformed}
use Rattle.tlp.specs.declared.completion.Completion.{Completion}
use Rattle.tlp.specs.Bytes.{byte, flag, or_full, length_in, write_header, area_after}

-- The ranges.

-- with data, status is 0; without, length is 0 and EP 0
abbrev pub valid_payload : Completion → Bool
valid_payload c =
    c.payload && eqb c.status 0 && leb 1 c.length && leb c.length 1024
    || not c.payload && eqb c.length 0 && not c.poisoned

unfoldable pub valid_completion : Completion → Bool
valid_completion c =
    valid_payload c
    && ltb c.completer (2 ^ 16)
    && ltb c.status 8
    && leb 1 c.count
    && leb c.count 4096
    && ltb c.requester (2 ^ 16)
    && ltb c.tag 256
    && ltb c.lower 128

-- The bytes.

-- byte 0 is 0A, with data 4A; byte 2 has EP in bit 6 and length bits 9:8; bytes 4 to 11: completer ID; status in 7:5 and
-- byte count 11:8 in 3:0; count 7:0; requester ID; tag; lower address. Count 4,096 is written as 0
unfoldable pub completion_bytes : Completion → List ℕ
completion_bytes c =
    cond c.payload 0x4A 0x0A
    ∷ 0
    ∷ (flag c.poisoned * 64 + c.length % 1024 / 256)
    ∷ (c.length % 256)
    ∷ (c.completer / 256)
    ∷ (c.completer % 256)
    ∷ (c.status * 32 + c.count % 4096 / 256)
    ∷ (c.count % 256)
    ∷ (c.requester / 256)
    ∷ (c.requester % 256)
    ∷ c.tag
    ∷ c.lower
    ∷ []

-- The writer.

abbrev pub write_completion : Completion → ℕ → Result ℕ Refusal
write_completion c room = write_header room (valid_completion c) (completion_bytes c)

abbrev pub area_after_completion : Completion → List ℕ → List ℕ
area_after_completion c area = area_after area (valid_completion c) (completion_bytes c)

-- The reader.

-- length bits 0 mean 1,024 with data and 0 without
abbrev pub payload_length : Bool → ℕ → ℕ
payload_length payload field = cond payload (length_in field) field

-- count bits 0 mean 4,096
abbrev pub count_in : ℕ → ℕ
count_in field = or_full 4096 field

abbrev pub completion_in : List ℕ → Completion
completion_in s =
    record {
      payload = eqb (byte s 0) 0x4A;
      poisoned = leb 0x40 (byte s 2);
      length = payload_length (eqb (byte s 0) 0x4A) (byte s 2 % 4 * 256 + byte s 3);
      completer = byte s 4 * 256 + byte s 5;
      status = byte s 6 / 32;
      count = count_in (byte s 6 % 16 * 256 + byte s 7);
      requester = byte s 8 * 256 + byte s 9;
      tag = byte s 10;
      lower = byte s 11;
    }

-- exactly 12 bytes; 0A or 4A; all else zero: byte 1, byte 2 but EP and the length's two bits, bit 4 of byte 6
unfoldable pub completion_reserved : List ℕ → Bool
completion_reserved s =
    eqb (length s) 12
    && (eqb (byte s 0) 0x0A || eqb (byte s 0) 0x4A)
    && eqb (byte s 1) 0
    && ltb (byte s 2) 0x80
    && ltb (byte s 2 % 0x40) 4
    && ltb (byte s 6 % 32) 16

abbrev pub accept_completion : Completion → Result Completion Refusal
accept_completion c = cond (valid_completion c) (Ok c) (Err Malformed)

unfoldable pub read_completion : List ℕ → Result Completion Refusal
read_completion s = cond (completion_reserved s) (accept_completion (completion_in s)) (Err Malformed)
