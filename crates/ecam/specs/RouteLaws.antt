-- Offsets, routes, and the function that a request names: what is proved of them for every number of bus bits n (of a header's
-- bus number up to 8), all registers and every offset.
use Rattle.std.specs.Prelude.{◌≡◌, [], ◌∷◌, true, not, ℕ, ◌+◌, ◌*◌, ◌%◌, ◌^◌, ◌≤◌, ◌<◌}
use Rattle.common.specs.Tests.{first_of}
use Rattle.tlp.specs.declared.request.ConfigAddress.{ConfigAddress}
use Rattle.tlp.specs.declared.request.Target.TheVariants.{Config0, Config1}
use Rattle.tlp.specs.Request.{valid_config}
use Rattle.ecam.specs.Fields.{Registers}
use Rattle.ecam.specs.Route.{Route, OutOfRange, Local, Type0, Type1, NotRouted, DeviceNotZero, out_of_range, is_local, is_routed, device_not_zero, route, number_of}
use Rattle.ecam.specs.Offset.{register, extended, function, device, bus, word}
use Rattle.ecam.specs.Request.{config_address, config_target}

-- ---- offsets

-- the fields and the two ignored bits are the whole offset
abbrev pub FieldsAreOffset : Type 0
FieldsAreOffset = (o : ℕ) → bus o * 2 ^ 20 + device o * 2 ^ 15 + function o * 2 ^ 12 + extended o * 2 ^ 8 + register o * 2 ^ 2 + o % 4 ≡ o

-- the local word is chosen by the two register fields alone
abbrev pub WordIsRegister : Type 0
WordIsRegister = (o : ℕ) → word o ≡ extended o * 2 ^ 8 + register o * 2 ^ 2

-- an offset in range has a bus number of n bits
abbrev pub BusFits : Type 0
BusFits = (n o : ℕ) → o < 2 ^ (20 + n) → bus o < 2 ^ n

-- of an offset in range, with at most 8 bus bits, the header has the whole bus number
abbrev pub BusInHeader : Type 0
BusInHeader = (n o : ℕ) → n ≤ 8 → o < 2 ^ (20 + n) → (config_address o).bus ≡ bus o

-- ---- routes

-- a route's number is the refusal table's, in its order
abbrev pub NumberIsTable : Type 0
NumberIsTable =
    (n : ℕ) (r : Registers) (o : ℕ)
    → number_of (route n r o)
    ≡ first_of ((out_of_range n o, 9) ∷ (is_local r o, 0) ∷ (not (is_routed r o), 10) ∷ (device_not_zero r o, 11) ∷ [])

-- A exactly when B
abbrev pub Exactly : Type 0 → Type 0 → Type 0
Exactly A B = (A → B) × (B → A)

-- in range and not on the primary bus
pub record NotLocal (n : ℕ) (r : Registers) (o : ℕ) : Type 0 where
  pub in_range : o < 2 ^ (20 + n)
  pub not_primary : bus o ≡ r.primary → ⊥

-- 'secondary <= bus <= subordinate'
pub record Between (r : Registers) (o : ℕ) : Type 0 where
  pub above : r.secondary ≤ bus o
  pub below : bus o ≤ r.subordinate

-- when an access goes each way. 02, A4: 11 'is for the secondary bus only; type 1 requests carry any device'
abbrev pub When : ℕ → Registers → ℕ → Route → Type 0
When n r o OutOfRange = 2 ^ (20 + n) ≤ o
When n r o (Local w) = (o < 2 ^ (20 + n)) × (bus o ≡ r.primary) × (w ≡ word o)
When n r o NotRouted = NotLocal n r o × (Between r o → ⊥)
When n r o DeviceNotZero = NotLocal n r o × Between r o × (bus o ≡ r.secondary) × (device o ≡ 0 → ⊥)
When n r o Type0 = NotLocal n r o × Between r o × (bus o ≡ r.secondary) × (device o ≡ 0)
When n r o Type1 = NotLocal n r o × Between r o × (r.secondary < bus o)

-- each route, exactly when
abbrev pub RouteExactly : Type 0
RouteExactly = (n : ℕ) (r : Registers) (o : ℕ) (x : Route) → Exactly (route n r o ≡ x) (When n r o x)

-- where the primary bus is the secondary one too, it is local
abbrev pub PrimaryFirst : Type 0
PrimaryFirst =
    (n : ℕ) (r : Registers) (o : ℕ)
    → o < 2 ^ (20 + n)
    → r.primary ≡ r.secondary
    → bus o ≡ r.secondary
    → route n r o ≡ Local (word o)

-- where the secondary number is above the subordinate, no bus is routed, the secondary one neither
abbrev pub CrossedNotRouted : Type 0
CrossedNotRouted =
    (n : ℕ) (r : Registers) (o : ℕ) → NotLocal n r o → r.subordinate < r.secondary → route n r o ≡ NotRouted

-- ---- the function that a request names

-- the offset's function and register, on this bus and device
abbrev pub function_on : ℕ → ℕ → ℕ → ConfigAddress
function_on b d o = record { bus = b; device = d; function = function o; extended = extended o; register = register o }

-- a type 0 request names a function of device 0 on the secondary bus
abbrev pub Type0Names : Type 0
Type0Names =
    (n : ℕ) (r : Registers) (o : ℕ)
    → n ≤ 8
    → route n r o ≡ Type0
    → config_target (route n r o) o ≡ Config0 (function_on r.secondary 0 o)

-- a type 1 request one of the offset's device on the offset's bus
abbrev pub Type1Names : Type 0
Type1Names =
    (n : ℕ) (r : Registers) (o : ℕ)
    → n ≤ 8
    → route n r o ≡ Type1
    → config_target (route n r o) o ≡ Config1 (function_on (bus o) (device o) o)

-- the offset of a register of a function
abbrev pub offset_of : ConfigAddress → ℕ
offset_of p = p.bus * 2 ^ 20 + p.device * 2 ^ 15 + p.function * 2 ^ 12 + p.extended * 2 ^ 8 + p.register * 2 ^ 2

-- a header's address with a bus number of n bits, not the primary one
pub record OtherBus (n : ℕ) (r : Registers) (p : ConfigAddress) : Type 0 where
  pub valid : valid_config p ≡ true
  pub fits : p.bus < 2 ^ n
  pub not_primary : p.bus ≡ r.primary → ⊥

-- every function of device 0 on the secondary bus is reached by its offset
abbrev pub Type0Reaches : Type 0
Type0Reaches =
    (n : ℕ) (r : Registers) (p : ConfigAddress)
    → OtherBus n r p
    → p.bus ≡ r.secondary
    → r.secondary ≤ r.subordinate
    → p.device ≡ 0
    → (route n r (offset_of p) ≡ Type0) × (config_target (route n r (offset_of p)) (offset_of p) ≡ Config0 p)

-- and every function of every device on every bus behind it
abbrev pub Type1Reaches : Type 0
Type1Reaches =
    (n : ℕ) (r : Registers) (p : ConfigAddress)
    → OtherBus n r p
    → r.secondary < p.bus
    → p.bus ≤ r.subordinate
    → (route n r (offset_of p) ≡ Type1) × (config_target (route n r (offset_of p)) (offset_of p) ≡ Config1 p)
