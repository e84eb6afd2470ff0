-- What the bytes of a capture begin with: a record, a part of one, or a fault.
use Rattle.std.specs.Prelude.{ℕ, ◌+◌, ◌/◌, ◌%◌, ◌^◌, List, Bool, cond, not, ◌&&◌, length, get_or, take, drop, ltb, leb, eqb}
use Rattle.tlp.specs.Bytes.{byte, number}
use Rattle.records.specs.declared.Fault.{Fault}
use Rattle.records.specs.declared.Fault.TheVariants.{Kind, Length, Padding, Count}
use Rattle.records.specs.Layout.{Layout, layout_of, kinds, head_size, unpacked, field_bytes, spare_bits, length_fits}
use Rattle.records.specs.Events.{Captured, event_of}

pub data Next : Type 0 where
  -- no bytes, or a part of a record in which no fault is known yet
  more : Next
  bad : Fault → Next
  -- a right end record
  end : Next
  -- an event, and how many bytes its record has
  event : Captured → ℕ → Next

-- ---- what stands where in a record

abbrev pub kind_in : List ℕ → ℕ
kind_in s = byte s 0 / 16

abbrev pub body_in : List ℕ → ℕ
body_in s = number s 1 2

abbrev pub size_in : List ℕ → ℕ
size_in s = head_size + body_in s

abbrev pub layout_in : List ℕ → Layout
layout_in s = layout_of (kind_in s)

-- the fields with their padding, as one number
abbrev pub fields_in : List ℕ → ℕ
fields_in s = number s head_size (field_bytes (layout_in s))

abbrev pub values_in : List ℕ → List ℕ
values_in s = unpacked (layout_in s).fields (fields_in s / 2 ^ spare_bits (layout_in s))

abbrev pub plain_in : List ℕ → List ℕ
plain_in s = drop (head_size + field_bytes (layout_in s)) (take (size_in s) s)

-- ---- a whole record

-- 'padding (the zero bits too)'
abbrev pub is_padded : List ℕ → Bool
is_padded s = eqb (byte s 0 % 16) 0 && eqb (fields_in s % 2 ^ spare_bits (layout_in s)) 0

-- an end states 'the number of earlier events'
abbrev pub end_of : ℕ → List ℕ → Next
end_of n s = cond (eqb (get_or (values_in s) 0 0) n) end (bad Count)

-- 'then padding .. and count on the whole record', with n events before it
unfoldable pub whole : ℕ → List ℕ → Next
whole n s =
    cond (is_padded s)
    (cond (eqb (kind_in s) 0) (end_of n s) (event (event_of (kind_in s) (values_in s) (plain_in s)) (size_in s)))
    (bad Padding)

-- ---- any bytes

-- 'A kind is judged on its first byte, a length on the first three, then ..'
unfoldable pub next : ℕ → List ℕ → Next
next n s =
    cond (ltb (length s) 1) more
    (cond (leb kinds (kind_in s)) (bad Kind)
    (cond (ltb (length s) head_size) more
    (cond (not (length_fits (layout_in s) (body_in s))) (bad Length)
    (cond (ltb (length s) (size_in s)) more
    (whole n s)))))
