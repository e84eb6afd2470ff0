-- The request that a routed access sends.
use mathlib.Core.Path.{◌≡◌, sym}
use mathlib.Core.Bool.{Bool, true, false, cond}
use Prim.Native.Nat.{ℕ, ◌+◌, ◌*◌, ◌/◌, ◌%◌, ◌^◌, ◌<◌}
use native.Mathlib.Nat.{mod-lt, div-one}
use native.Mathlib.Omega.{arith}
use lib.Dec.{lit<}
use lib.Pow.{shr_mod, split}
use borrow.Author.Tests.{lt-ltb}
use Rattle.tlp.specs.Request.{valid_config, valid_target, valid_request}
use Rattle.ecam.specs.Route.{Route, OutOfRange, Local, Type0, Type1, NotRouted, DeviceNotZero}
use Rattle.ecam.specs.Registers.{byte}
use Rattle.ecam.specs.Request.{config_address, config_target, config_request, data_bytes, data_word}
use Rattle.ecam.specs.Laws.{ConfigRequestValid, DataReadsBack}
use Rattle.ecam.proofs.Routes.{cut}

address_valid : (o : ℕ) → valid_config (config_address o) ≡ true
unfolding config_address
address_valid o =
    rw (
      lt-ltb (o / 2 ^ 20 % 2 ^ 8) 256 (mod-lt (o / 2 ^ 20) (lit< tt)),
      lt-ltb (o / 2 ^ 15 % 2 ^ 5) 32 (mod-lt (o / 2 ^ 15) (lit< tt)),
      lt-ltb (o / 2 ^ 12 % 2 ^ 3) 8 (mod-lt (o / 2 ^ 12) (lit< tt)),
      lt-ltb (o / 2 ^ 8 % 2 ^ 4) 16 (mod-lt (o / 2 ^ 8) (lit< tt)),
      lt-ltb (o / 2 ^ 2 % 2 ^ 6) 64 (mod-lt (o / 2 ^ 2) (lit< tt)),
    )

target_valid : (x : Route) (o : ℕ) → valid_target 1 (config_target x o) ≡ true
unfolding valid_target config_target
target_valid OutOfRange o = address_valid o
target_valid (Local w) o = address_valid o
target_valid Type0 o = address_valid o
target_valid Type1 o = address_valid o
target_valid NotRouted o = address_valid o
target_valid DeviceNotZero o = address_valid o

first_fits : (write : Bool) (s : ℕ) → cond write (s % 16) 15 < 16
first_fits true s = mod-lt s (lit< tt)
first_fits false s = lit< tt

pub config_request_valid : ConfigRequestValid
unfolding valid_request config_request
config_request_valid x o write s requester tag hr ht =
    rw (lt-ltb requester (2 ^ 16) hr, lt-ltb tag 256 ht, lt-ltb (cond write (s % 16) 15) 16 (first_fits write s)) (target_valid x o)

joined : (d a b c e f g h : ℕ) → d ≡ b * 2 ^ 8 + a → b ≡ e * 2 ^ 8 + c → e ≡ g * 2 ^ 8 + f → h ≡ g → a + c * 2 ^ 8 + f * 2 ^ 16 + h * 2 ^ 24 ≡ d
joined d a b c e f g h p q s t = omega arith

pub data_reads_back : DataReadsBack
unfolding data_word data_bytes byte
data_reads_back d h =
    rw (div-one d)
    (joined d (d % 2 ^ 8) (d / 2 ^ 8) (d / 2 ^ 8 % 2 ^ 8) (d / 2 ^ 16) (d / 2 ^ 16 % 2 ^ 8) (d / 2 ^ 24) (d / 2 ^ 24 % 2 ^ 8)
    (sym (split d 8)) (cut d 8 8) (cut d 16 8) (shr_mod 8 24 h))
