-- The layout of a record: 'kind (4 bits), zero (4), body length in bytes (16), body, padded with zero bits to a byte', all
-- 'bit-packed, most significant bit first'. One table, for the writer and the reader.
use Rattle.std.specs.Prelude.{ℕ, ◌+◌, ◌-◌, ◌*◌, ◌/◌, ◌%◌, ◌^◌, List, [], ◌∷◌, ◌++◌, Bool, true, false, ◌&&◌, length, get_or, ltb, leb}
use Rattle.tlp.specs.Bytes.{bytes}

-- a kind of body: the widths of its fields in bits, in their order; and how many bytes it has, at least and at most. What its
-- fields and the padding leave of it are plain bytes
pub record Layout : Type 0 where
  pub fields : List ℕ
  pub least : ℕ
  pub most : ℕ

abbrev pub row : List ℕ → ℕ → ℕ → Layout
row fields least most = record { fields = fields; least = least; most = most }

-- 'address 64, size code 3, beats less one 8, type 2'
abbrev pub burst_fields : List ℕ
burst_fields = 64 ∷ 3 ∷ 8 ∷ 2 ∷ []

abbrev pub bits_of : List ℕ → ℕ
bits_of [] = 0
bits_of (w ∷ ws) = w + bits_of ws

-- the bytes that fields of these widths take, the last of them padded
abbrev pub bytes_for : List ℕ → ℕ
bytes_for ws = (bits_of ws + 7) / 8

-- 'Lengths are what the fields give': no plain bytes
abbrev pub exactly : List ℕ → Layout
exactly fields = row fields (bytes_for fields) (bytes_for fields)

-- by kind: 0 end, the number of earlier events; 1 read; 2 write, the same fields, then its data; 3 configuration, its offset, write
-- flag, strobes and data; 4 completion, header and payload; 5 link, one for up; 6 tick; 7 take, its slot. 'A write has 10 to 4,112
-- bytes, a completion 12 to 4,112'
abbrev pub layouts : List Layout
layouts =
    exactly (32 ∷ [])
    ∷ exactly burst_fields
    ∷ row burst_fields 10 4112
    ∷ exactly (28 ∷ 1 ∷ 4 ∷ 32 ∷ [])
    ∷ row [] 12 4112
    ∷ exactly (1 ∷ [])
    ∷ exactly []
    ∷ exactly (4 ∷ [])
    ∷ []

abbrev pub kinds : ℕ
kinds = length layouts

abbrev pub layout_of : ℕ → Layout
layout_of kind = get_or layouts kind (row [] 0 0)

-- kind and zero bits in the first byte, the length in two more
abbrev pub head_size : ℕ
head_size = 3

-- the longest record: a write's or a completion's
abbrev pub longest : ℕ
longest = 4115

-- ---- fields in a number

-- values side by side, the first in the highest bits
abbrev pub packed : List ℕ → List ℕ → ℕ
packed [] vs = 0
packed (w ∷ ws) [] = 0
packed (w ∷ ws) (v ∷ vs) = v * 2 ^ bits_of ws + packed ws vs

-- and back
abbrev pub unpacked : List ℕ → ℕ → List ℕ
unpacked [] x = []
unpacked (w ∷ ws) x = x / 2 ^ bits_of ws % 2 ^ w ∷ unpacked ws x

-- a value for each field, none too wide for it
abbrev pub fit : List ℕ → List ℕ → Bool
fit [] [] = true
fit [] (v ∷ vs) = false
fit (w ∷ ws) [] = false
fit (w ∷ ws) (v ∷ vs) = ltb v (2 ^ w) && fit ws vs

-- ---- fields in bytes

abbrev pub field_bytes : Layout → ℕ
field_bytes l = bytes_for l.fields

abbrev pub spare_bits : Layout → ℕ
spare_bits l = 8 * field_bytes l - bits_of l.fields

abbrev pub length_fits : Layout → ℕ → Bool
length_fits l body = leb l.least body && leb body l.most

-- the bytes of a record: its head, its fields, and plain bytes
unfoldable pub record_bytes : ℕ → List ℕ → List ℕ → List ℕ
record_bytes kind values plain =
    (kind * 16)
    ∷ bytes 2 (field_bytes (layout_of kind) + length plain)
    ++ bytes (field_bytes (layout_of kind)) (packed (layout_of kind).fields values * 2 ^ spare_bits (layout_of kind))
    ++ plain
