-- Where a configuration access goes.
use Rattle.std.specs.Prelude.{ℕ, ◌+◌, ◌^◌, Bool, cond, not, ◌&&◌, leb, eqb}
use Rattle.refusals.specs.Table.{offset_over, not_routed, wrong_device}
use Rattle.ecam.specs.Fields.{Registers}
use Rattle.ecam.specs.Offset.{device, bus, word}

-- out of range; a local word; a request of type 0 or of type 1; not routed; not device 0
pub data Route : Type 0 where
  OutOfRange : Route
  Local : ℕ → Route
  Type0 : Route
  Type1 : Route
  NotRouted : Route
  DeviceNotZero : Route

-- row 9: offset at or over 2^(20+n)
abbrev pub out_of_range : ℕ → ℕ → Bool
out_of_range n o = leb (2 ^ (20 + n)) o

-- 'Primary bus: local, any device and function'
abbrev pub is_local : Registers → ℕ → Bool
is_local r o = eqb (bus o) r.primary

-- 'secondary <= bus <= subordinate'; row 10 where not
abbrev pub is_routed : Registers → ℕ → Bool
is_routed r o = leb r.secondary (bus o) && leb (bus o) r.subordinate

-- 'type 0 when bus = secondary, else type 1'
abbrev pub is_type0 : Registers → ℕ → Bool
is_type0 r o = eqb (bus o) r.secondary

-- row 11: 'Refusal 11 from now on is for the secondary bus only' (02, A4): device 0 alone is there
abbrev pub device_not_zero : Registers → ℕ → Bool
device_not_zero r o = is_type0 r o && not (eqb (device o) 0)

-- the order: 9, then local, then 10, then 11
unfoldable pub route : ℕ → Registers → ℕ → Route
route n r o =
    cond (out_of_range n o) OutOfRange
    (cond (is_local r o) (Local (word o))
    (cond (not (is_routed r o)) NotRouted
    (cond (device_not_zero r o) DeviceNotZero
    (cond (is_type0 r o) Type0 Type1))))

-- each case's refusal number
abbrev pub number_of : Route → ℕ
number_of OutOfRange = offset_over
number_of (Local w) = 0
number_of Type0 = 0
number_of Type1 = 0
number_of NotRouted = not_routed
number_of DeviceNotZero = wrong_device
