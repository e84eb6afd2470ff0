-- The bridges that the worked examples are played on.
use Rattle.std.specs.Prelude.{List, true, ℕ, replicate}
use Rattle.address.specs.declared.Settings.{Settings}
use Rattle.address.specs.Settings.{example_settings}
use Rattle.machine.specs.Bridge.{Bridge}
use Rattle.machine.specs.State.{fresh_bridge}
use Rattle.machine.specs.Completions.{store_size, held}
use Rattle.machine.specs.Ticks.{linked}

-- a store of zeros
abbrev pub empty_store : List ℕ
empty_store = replicate store_size 0

-- a fresh bridge whose link has come up
abbrev pub up_bridge : Settings → Bridge
up_bridge s = (linked true (held (fresh_bridge s) empty_store)).bridge

-- with the settings of the examples, the link down and up
abbrev pub down : Bridge
down = fresh_bridge example_settings

abbrev pub up : Bridge
up = up_bridge example_settings
