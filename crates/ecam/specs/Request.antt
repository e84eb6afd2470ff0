-- The request that a routed access sends, and its data word.
use Rattle.std.specs.Prelude.{ℕ, ◌+◌, ◌*◌, ◌%◌, ◌^◌, List, [], ◌∷◌, Bool, cond, length, get_or, ltb}
use Rattle.tlp.specs.declared.request.ConfigAddress.{ConfigAddress}
use Rattle.tlp.specs.declared.request.Target.{Target}
use Rattle.tlp.specs.declared.request.Target.TheVariants.{Config0, Config1}
use Rattle.tlp.specs.declared.request.Request.{Request}
use Rattle.ecam.specs.Route.{Route, OutOfRange, Local, Type0, Type1, NotRouted, DeviceNotZero}
use Rattle.ecam.specs.Offset.{register, extended, function, device, bus}
use Rattle.ecam.specs.Registers.{byte}

-- the offset's fields; a header's bus number has 8 bits
unfoldable pub config_address : ℕ → ConfigAddress
config_address o =
    record { bus = bus o % 2 ^ 8; device = device o; function = function o; extended = extended o; register = register o }

-- type 1 or type 0, as the route says; the other routes send nothing
unfoldable pub config_target : Route → ℕ → Target
config_target OutOfRange o = Config0 (config_address o)
config_target (Local w) o = Config0 (config_address o)
config_target Type0 o = Config0 (config_address o)
config_target Type1 o = Config1 (config_address o)
config_target NotRouted o = Config0 (config_address o)
config_target DeviceNotZero o = Config0 (config_address o)

-- 'First enables are F for a read, the strobes mod 16 for a write; last 0'; length 1
unfoldable pub config_request : Route → ℕ → Bool → ℕ → ℕ → ℕ → Request
config_request x o write s requester tag =
    record {
      write = write;
      target = config_target x o;
      length = 1;
      requester = requester;
      tag = tag;
      last = 0;
      first = cond write (s % 16) 0xF;
    }

-- 'Data goes low byte first'
unfoldable pub data_bytes : ℕ → List ℕ
data_bytes d = byte d 0 ∷ byte d 1 ∷ byte d 2 ∷ byte d 3 ∷ []

-- the word of four bytes; fewer are no word
unfoldable pub data_word : List ℕ → ℕ
data_word s = cond (ltb (length s) 4) 0 (get_or s 0 0 + get_or s 1 0 * 2 ^ 8 + get_or s 2 0 * 2 ^ 16 + get_or s 3 0 * 2 ^ 24)
