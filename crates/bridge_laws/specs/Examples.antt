-- The worked examples: document 01's ten starred ones and W12 (02, A4), as facts about the definitions.
use Rattle.std.specs.Prelude.{ℕ, ◌^◌, ◌-◌, ◌≡◌, [], ◌∷◌, map, true, false, get_or}
use Rattle.tlp.specs.declared.request.Target.TheVariants.{Config0, Config1}
use Rattle.address.specs.declared.Settings.{Settings}
use Rattle.address.specs.Settings.{example_settings, example_windows}
use Rattle.burst.specs.Examples as burst
use Rattle.ecam.specs.Examples as ecam
use Rattle.machine.specs.Bridge.{Bridge}
use Rattle.machine.specs.State.{with_registers, with_ticks, core_in, missing_of, fresh_bridge}
use Rattle.machine.specs.Memory.{area_size, read_refusal, read_step, read_bytes}
use Rattle.machine.specs.Config.{Access, access_of, config_refusal, config_bytes}
use Rattle.bridge_laws.specs.ExampleBridges.{empty_store, up_bridge, down, up}
use Rattle.bridge_laws.specs.RouteLaws.{Sends}
use Rattle.bridge_laws.specs.CompletionExamples.{W3Completed, W3Refused}
use Rattle.machine.specs.Completions.{Held, held}
use Rattle.machine.specs.Ticks.{with_link, ticked}

-- W1: 12340ABC, z 2, 1 beat, read, tag 0: 00 00 00 01 00 00 00 0F 56 71 0A BC
pub record W1 : Type 0 where
  pub number : (read_step up (burst.incr 0x12340ABC 2 1) area_size).answer.number ≡ 0
  pub bytes :
      read_bytes up (burst.incr 0x12340ABC 2 1)
      ≡ 0x00 ∷ 0x00 ∷ 0x00 ∷ 0x01 ∷ 0x00 ∷ 0x00 ∷ 0x00 ∷ 0x0F ∷ 0x56 ∷ 0x71 ∷ 0x0A ∷ 0xBC ∷ []

-- the example settings with time limit 2, and the counter at its last value
abbrev pub quick_settings : Settings
quick_settings = record { windows = example_windows; bits = 8; reads = 128; writes = 128; limit = 2; requester = 0 }

abbrev pub last_tick : Bridge
last_tick = core_in (with_ticks (2 ^ 32 - 1) (up_bridge quick_settings).core) (up_bridge quick_settings)

-- a read sent then, and what is missing for its tag after one tick and after two
abbrev pub sent_last : Held
sent_last = held (read_step last_tick (burst.incr 0x12340ABC 2 1) area_size).bridge empty_store

-- W10: sent at 4,294,967,295 with T = 2: open at tick 0, closed at tick 1
pub record W10 : Type 0 where
  pub zero : (ticked sent_last).bridge.core.ticks ≡ 0
  pub stays : missing_of (ticked sent_last).bridge 0 ≡ 4
  pub one : (ticked (ticked sent_last)).bridge.core.ticks ≡ 1
  pub closed : missing_of (ticked (ticked sent_last)).bridge 0 ≡ 0
  pub finished : get_or (ticked (ticked sent_last)).bridge.state 0 0 ≡ 2

-- a bridge with these bus numbers, its link up
abbrev pub bus_bridge : Settings → ℕ → ℕ → ℕ → Bridge
bus_bridge s p q r = core_in (with_registers (with_link (ecam.buses p q r) true) (fresh_bridge s).core) (fresh_bridge s)

abbrev pub narrow_settings : Settings
narrow_settings = record { windows = example_windows; bits = 1; reads = 128; writes = 128; limit = 65535; requester = 0 }

-- a configuration read
abbrev pub read_at : ℕ → Access
read_at offset = access_of offset false 0 0

-- W2 to W9 and W12 as the bridge plays them: the headers it sends, and its numbers
pub record Played : Type 0 where
  pub w2 :
      read_bytes up (burst.incr 0x12340ABC 2 64)
      ≡ 0x00 ∷ 0x00 ∷ 0x00 ∷ 0x11 ∷ 0x00 ∷ 0x00 ∷ 0x00 ∷ 0xFF ∷ 0x56 ∷ 0x71 ∷ 0x0A ∷ 0xBC
      ∷ 0x00 ∷ 0x00 ∷ 0x00 ∷ 0x20 ∷ 0x00 ∷ 0x00 ∷ 0x01 ∷ 0xFF ∷ 0x56 ∷ 0x71 ∷ 0x0B ∷ 0x00
      ∷ 0x00 ∷ 0x00 ∷ 0x00 ∷ 0x0F ∷ 0x00 ∷ 0x00 ∷ 0x02 ∷ 0xFF ∷ 0x56 ∷ 0x71 ∷ 0x0B ∷ 0x80 ∷ []
  pub w3 :
      read_bytes up (burst.incr 0x12340ABE 2 2)
      ≡ 0x00 ∷ 0x00 ∷ 0x00 ∷ 0x02 ∷ 0x00 ∷ 0x00 ∷ 0x00 ∷ 0xFC ∷ 0x56 ∷ 0x71 ∷ 0x0A ∷ 0xBC ∷ []
  pub w4 :
      read_bytes up (burst.incr 0x12340ABD 0 2)
      ≡ 0x00 ∷ 0x00 ∷ 0x00 ∷ 0x01 ∷ 0x00 ∷ 0x00 ∷ 0x00 ∷ 0x06 ∷ 0x56 ∷ 0x71 ∷ 0x0A ∷ 0xBC ∷ []
  pub w5 :
      map (λ q. read_refusal up q area_size) (burst.incr 0x12340FFE 2 1 ∷ burst.incr 0x12340FFC 2 2 ∷ [])
      ≡ 0 ∷ 3 ∷ []
  pub w6 :
      map (λ q. read_refusal up q area_size) (burst.incr 0x1234FFFC 2 1 ∷ burst.incr 0x12350000 2 1 ∷ [])
      ≡ 0 ∷ 2 ∷ []
  pub w7 :
      config_bytes (bus_bridge example_settings 0 1 1) (read_at 0x00100000)
      ≡ 0x04 ∷ 0x00 ∷ 0x00 ∷ 0x01 ∷ 0x00 ∷ 0x00 ∷ 0x00 ∷ 0x0F ∷ 0x01 ∷ 0x00 ∷ 0x00 ∷ 0x00 ∷ []
  pub w8 :
      map (λ o. config_refusal (bus_bridge narrow_settings 0 1 1) (read_at o) area_size) (0x001FFFFC ∷ 0x00200000 ∷ [])
      ≡ 11 ∷ 9 ∷ []
  pub w9 :
      map (λ o. config_refusal down (read_at o) area_size) (0x00000000 ∷ 0x00100000 ∷ [])
      ≡ 0 ∷ 10 ∷ []
  pub crossed : config_refusal (bus_bridge example_settings 0 3 2) (read_at 0x00300000) area_size ≡ 10
  pub w12 :
      config_bytes (bus_bridge example_settings 0 1 2) (read_at 0x00228000)
      ≡ 0x05 ∷ 0x00 ∷ 0x00 ∷ 0x01 ∷ 0x00 ∷ 0x00 ∷ 0x00 ∷ 0x0F ∷ 0x02 ∷ 0x28 ∷ 0x00 ∷ 0x00 ∷ []
  pub w12_accepted : config_refusal (bus_bridge example_settings 0 1 2) (read_at 0x00228000) area_size ≡ 0

-- the ten starred examples and W12, one statement
pub record Starred : Type 0 where
  pub w1 : W1
  pub w2 : burst.W2
  pub w3 : burst.W3
  pub w4 : burst.W4
  pub w5 : burst.W5
  pub w6 : burst.W6
  pub w7 : ecam.W7
  pub w8 : ecam.W8
  pub w9 : ecam.W9
  pub w10 : W10
  pub w12 : ecam.W12
  pub played : Played
  -- W3's 'count 6, lower 3E', on the bridge that its read leaves: the completion that is taken, and those that are not
  pub answered : W3Completed
  pub refused : W3Refused

-- W7 and W12 by the laws on routes, whose premises hold there: the function that each request names
pub record Reached : Type 0 where
  pub w7 :
      Sends (bus_bridge example_settings 0 1 1) (read_at 0x00100000) area_size
      (Config0 (record { bus = 1; device = 0; function = 0; extended = 0; register = 0 }))
  pub w12 :
      Sends (bus_bridge example_settings 0 1 2) (read_at 0x00228000) area_size
      (Config1 (record { bus = 2; device = 5; function = 0; extended = 0; register = 0 }))
