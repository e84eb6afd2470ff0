-- The worked examples of configuration space, as facts about the definitions.
use Rattle.std.specs.Prelude.{◌≡◌, true, false, List, [], ◌∷◌, ◌++◌, ℕ, zero, suc, ◌/◌, ◌%◌}
use Rattle.tlp.specs.Request.{request_bytes}
use Rattle.ecam.specs.Fields.{Registers}
use Rattle.ecam.specs.Route.{OutOfRange, Local, Type0, Type1, NotRouted, DeviceNotZero, route, number_of}
use Rattle.ecam.specs.Offset.{bus, word}
use Rattle.ecam.specs.Registers.{fresh, with_primary, with_secondary, with_subordinate, with_decode, with_link, local_read, local_write, messaged}
use Rattle.ecam.specs.Request.{config_request}

-- registers with these bus numbers, all else as in a fresh bridge
abbrev pub buses : ℕ → ℕ → ℕ → Registers
buses p s b = with_subordinate (with_secondary (with_primary fresh p) s) b

-- W7: offset 00100000, buses 0/1/1, config read, tag 0: 04 00 00 01 00 00 00 0F 01 00 00 00
pub record W7 : Type 0 where
  pub goes : route 8 (buses 0 1 1) 0x00100000 ≡ Type0
  pub header :
      request_bytes (config_request (route 8 (buses 0 1 1) 0x00100000) 0x00100000 false 0 0 0)
      ≡ 0x04 ∷ 0x00 ∷ 0x00 ∷ 0x01 ∷ 0x00 ∷ 0x00 ∷ 0x00 ∷ 0x0F ∷ 0x01 ∷ 0x00 ∷ 0x00 ∷ 0x00 ∷ []

-- W8: n = 1: 001FFFFC, same buses, gets 11; 00200000 gets 9
pub record W8 : Type 0 where
  pub last : route 1 (buses 0 1 1) 0x001FFFFC ≡ DeviceNotZero
  pub eleven : number_of (route 1 (buses 0 1 1) 0x001FFFFC) ≡ 11
  pub past : route 1 (buses 0 1 1) 0x00200000 ≡ OutOfRange
  pub nine : number_of (route 1 (buses 0 1 1) 0x00200000) ≡ 9

-- W9: fresh bridge, bus 0 local, bus 1 gets 10. Secondary 3, subordinate 2: bus 3 gets 10; whatever the rest of the offset
pub record W9 : Type 0 where
  pub local : (o : ℕ) → bus o ≡ 0 → route 8 fresh o ≡ Local (word o)
  pub next : (o : ℕ) → bus o ≡ 1 → number_of (route 8 fresh o) ≡ 10
  pub crossed : (o : ℕ) → bus o ≡ 3 → number_of (route 8 (buses 0 3 2) o) ≡ 10

-- W12 (02, A4): offset 00228000, device 5 on bus 2, buses 0/1/2, config read, tag 0: 05 00 00 01 00 00 00 0F 02 28 00 00
pub record W12 : Type 0 where
  pub goes : route 8 (buses 0 1 2) 0x00228000 ≡ Type1
  pub header :
      request_bytes (config_request (route 8 (buses 0 1 2) 0x00228000) 0x00228000 false 0 0 0)
      ≡ 0x05 ∷ 0x00 ∷ 0x00 ∷ 0x01 ∷ 0x00 ∷ 0x00 ∷ 0x00 ∷ 0x0F ∷ 0x02 ∷ 0x28 ∷ 0x00 ∷ 0x00 ∷ []

-- the same device on the other buses: bus 1, the secondary, gets 11, bus 0 is local, bus 3 gets 10. With primary = secondary = 1
-- bus 1 is local; with secondary 3, subordinate 2 bus 3 gets 10
pub record DeviceFive : Type 0 where
  pub secondary : route 8 (buses 0 1 2) 0x00128000 ≡ DeviceNotZero
  pub primary : route 8 (buses 0 1 2) 0x00028000 ≡ Local 0
  pub past : route 8 (buses 0 1 2) 0x00328000 ≡ NotRouted
  pub both : route 8 (buses 1 1 2) 0x00128000 ≡ Local 0
  pub crossed : route 8 (buses 0 3 2) 0x00328000 ≡ NotRouted

-- ---- error messages (02, A1)

-- an error message from a requester ID, with a tag and a code
abbrev pub message : ℕ → ℕ → ℕ → List ℕ
message id tag code = 0x30 ∷ 0 ∷ 0 ∷ 0 ∷ (id / 256) ∷ (id % 256) ∷ tag ∷ code ∷ 0 ∷ 0 ∷ 0 ∷ 0 ∷ 0 ∷ 0 ∷ 0 ∷ 0 ∷ []

abbrev pub link_up : Registers
link_up = with_link fresh true

-- n messages alike
abbrev pub messages : ℕ → List ℕ → Registers → Registers
messages zero m r = r
messages (suc n) m r = messages n m (messaged r m)

-- one correctable error from 0100, with tag 7; one fatal error from 0310
pub record OneMessage : Type 0 where
  pub decode : local_read (messaged link_up (message 0x0100 7 0x30)) 0x138 ≡ 0x00000200
  pub status : local_read (messaged link_up (message 0x0100 7 0x30)) 0x148 ≡ 0x00010000
  pub fifo : local_read (messaged link_up (message 0x0100 7 0x30)) 0x154 ≡ 0x00040100
  pub fatal : local_read (messaged link_up (message 0x0310 0 0x33)) 0x138 ≡ 0x00000800
  pub from : local_read (messaged link_up (message 0x0310 0 0x33)) 0x154 ≡ 0x00060310

-- every other decode bit set, three queued, of codes 30, 31 and 33; then 138 written with all ones; then 154 written three
-- times, once with strobes 0; then 138 written with bit 10
abbrev pub three : Registers
three =
    messaged (messaged (messaged (with_decode link_up 0x03F00101) (message 0x0100 0 0x30)) (message 0x0200 0 0x31)) (message 0x0310 0 0x33)

abbrev pub written : Registers
written = local_write three 0x138 0xF 0xFFFFFFFF

abbrev pub removed : Registers
removed = local_write (local_write (local_write written 0x154 0xF 0) 0x154 0 0) 0x154 1 0xFFFFFFFF

pub record ThreeMessages : Type 0 where
  pub before : local_read three 0x138 ≡ 0x03F00F01
  pub kept : local_read written 0x138 ≡ 0x00000E00
  pub second : local_read (local_write written 0x154 0xF 0) 0x154 ≡ 0x00050200
  pub fifo : local_read removed 0x154 ≡ 0
  pub status : local_read removed 0x148 ≡ 0
  pub decode : local_read removed 0x138 ≡ 0x00000E00
  pub cleared : local_read (local_write removed 0x138 0xF 0x00000400) 0x138 ≡ 0x00000A00

-- 32 of code 30, then one of code 33; then 154 written, and one more
abbrev pub full : Registers
full = messaged (messages 32 (message 0x0100 0 0x30) link_up) (message 0x0310 0 0x33)

abbrev pub again : Registers
again = messaged (local_write full 0x154 0 0) (message 0x0200 0 0x31)

pub record ManyMessages : Type 0 where
  pub decode : local_read full 0x138 ≡ 0x00000A00
  pub status : local_read full 0x148 ≡ 0x00030000
  pub fifo : local_read full 0x154 ≡ 0x00040100
  pub room : local_read again 0x148 ≡ 0x00030000
  pub last : again.errors ≡ (messages 31 (message 0x0100 0 0x30) link_up).errors ++ 0x00050200 ∷ []

-- 13C written with all ones
pub record AllMasked : Type 0 where
  pub mask : local_read (local_write fresh 0x13C 0xF 0xFFFFFFFF) 0x13C ≡ 0x03F00F01
