-- The function that a request names, and the offset that reaches a function.
use mathlib.Core.Path.{◌≡◌, refl, sym, ap, ◌∙◌}
use Prim.Native.Nat.{ℕ, ◌+◌, ◌*◌, ◌%◌, ◌^◌, ◌≤◌, ◌<◌}
use native.Mathlib.Nat.{mod-eq_of_lt, lt_of_lt_of_le, mul-le-mul_right}
use native.Mathlib.Omega.{arith}
use lib.Pow.{pow-add, pow_mono}
use Rattle.tlp.specs.declared.request.ConfigAddress.{ConfigAddress}
use Rattle.tlp.specs.declared.request.Target.TheVariants.{Config0, Config1}
use Rattle.tlp.proofs.Ranges.{ConfigRanges, config_ranges}
use Rattle.ecam.specs.Fields.{Registers}
use Rattle.ecam.specs.Route.{Type0, Type1, route}
use Rattle.ecam.specs.Offset.{register, extended, function, device, bus}
use Rattle.ecam.specs.Request.{config_address, config_target}
use Rattle.ecam.specs.RouteLaws.{BusInHeader, NotLocal, function_on, Type0Names, Type1Names, offset_of, OtherBus, Type0Reaches, Type1Reaches}
use Rattle.ecam.proofs.Routes.{bus_fits, route_exactly}

pub bus_in_header : BusInHeader
unfolding config_address
bus_in_header n o l h = mod-eq_of_lt (lt_of_lt_of_le (bus_fits n o h) (pow_mono l))

-- ---- the function that a request names

-- the header's bus number and device, and the offset's other fields
address_on : (o b d : ℕ) → (config_address o).bus ≡ b → device o ≡ d → config_address o ≡ function_on b d o
unfolding config_address
address_on o b d e f = rw (e, f)

pub type0_names : Type0Names
unfolding config_target
type0_names n r o l e =
    let w = (route_exactly n r o Type0).0 e in
    rw e (ap Config0 (address_on o r.secondary 0 (bus_in_header n o l w.0.in_range ∙ w.2) w.3))

pub type1_names : Type1Names
unfolding config_target
type1_names n r o l e =
    let w = (route_exactly n r o Type1).0 e in
    rw e (ap Config1 (address_on o (bus o) (device o) (bus_in_header n o l w.0.in_range) refl))

-- ---- the offset that reaches a function

module _ (p : ConfigAddress) (c : ConfigRanges p) where
  bus_of : bus (offset_of p) ≡ p.bus
  bus_of = omega (arith, c.device, c.function, c.extended, c.register)

  device_of : device (offset_of p) ≡ p.device
  device_of = omega (arith, c.device, c.function, c.extended, c.register)

  function_of : function (offset_of p) ≡ p.function
  function_of = omega (arith, c.device, c.function, c.extended, c.register)

  extended_of : extended (offset_of p) ≡ p.extended
  extended_of = omega (arith, c.device, c.function, c.extended, c.register)

  register_of : register (offset_of p) ≡ p.register
  register_of = omega (arith, c.device, c.function, c.extended, c.register)

  below_next : offset_of p < (p.bus + 1) * 2 ^ 20
  below_next = omega (arith, c.device, c.function, c.extended, c.register)

  bus_whole : p.bus % 2 ^ 8 ≡ p.bus
  bus_whole = mod-eq_of_lt c.bus

  address_of : config_address (offset_of p) ≡ p
  unfolding config_address
  address_of = rw (bus_of, device_of, function_of, extended_of, register_of, bus_whole)

module _ (n : ℕ) (r : Registers) (p : ConfigAddress) (h : OtherBus n r p) where
  c : ConfigRanges p
  c = config_ranges p h.valid

  in_range_lem : offset_of p < 2 ^ (20 + n)
  in_range_lem = rw (pow-add 2 20 n) (lt_of_lt_of_le (below_next p c) (omega (arith, mul-le-mul_right (2 ^ 20) h.fits)))

  not_local : NotLocal n r (offset_of p)
  not_local = record { in_range = in_range_lem; not_primary = λ e. h.not_primary (sym (bus_of p c) ∙ e) }

  goes0 : p.bus ≡ r.secondary → r.secondary ≤ r.subordinate → p.device ≡ 0 → route n r (offset_of p) ≡ Type0
  goes0 e l z =
      let b = bus_of p c in
      (route_exactly n r (offset_of p) Type0).1
      (not_local, record { above = omega (arith, b, e); below = omega (arith, b, e, l) }, b ∙ e, device_of p c ∙ z)

  goes1 : r.secondary < p.bus → p.bus ≤ r.subordinate → route n r (offset_of p) ≡ Type1
  goes1 l m =
      let b = bus_of p c in
      (route_exactly n r (offset_of p) Type1).1
      (not_local, record { above = omega (arith, b, l); below = omega (arith, b, m) }, omega (arith, b, l))

pub type0_reaches : Type0Reaches
unfolding config_target
type0_reaches n r p h e l z =
    let g = goes0 n r p h e l z in (g, rw g (ap Config0 (address_of p (c n r p h))))

pub type1_reaches : Type1Reaches
unfolding config_target
type1_reaches n r p h l m =
    let g = goes1 n r p h l m in (g, rw g (ap Config1 (address_of p (c n r p h))))
