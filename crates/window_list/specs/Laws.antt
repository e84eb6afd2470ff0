-- What a list of window records makes of a bridge, said of the definitions alone.
use Rattle.std.specs.Prelude.{◌≡◌, ℕ, ◌≤◌, ◌<◌, List, [], get_or, length}
use Rattle.address.specs.declared.Windows.{Windows}
use Rattle.address.specs.Settings.{settings_number, example_settings}
use Rattle.machine.specs.State.{refused, fresh_bridge, new_bridge}
use Rattle.window_list.specs.declared.Window.{Window}
use Rattle.window_list.specs.declared.Others.{Others}
use Rattle.window_list.specs.List.{nth, settings_of}

-- what plain arrays have at place k
abbrev pub entry_of : Windows → ℕ → Window
entry_of w k = record { base = get_or w.base k 0; size = get_or w.size k 0; target = get_or w.target k 0 }

-- plain arrays are the list's records: as many of them, and each at its place
pub record Same (list : List Window) (w : Windows) : Type 0 where
  pub many : w.count ≡ length list
  pub each : (k : ℕ) → entry_of w k ≡ nth list k

-- settings that break no rule: there are 1 to 6 records, and they are the windows of the bridge
pub record Taken (list : List Window) (others : Others) : Type 0 where
  pub some : 1 ≤ length list
  pub most : length list ≤ 6
  pub number : (new_bridge (settings_of list others)).answer.number ≡ 0
  pub windows : Same list (new_bridge (settings_of list others)).bridge.settings.windows

abbrev pub ListTaken : Type 0
ListTaken = (list : List Window) (others : Others) → settings_number (settings_of list others) ≡ 0 → Taken list others

-- no record: 1, and the bridge of the worked examples
abbrev pub NoneRefused : Type 0
NoneRefused = (others : Others) → new_bridge (settings_of [] others) ≡ refused 1 (fresh_bridge example_settings)

-- more than six: the same
abbrev pub SevenRefused : Type 0
SevenRefused = (list : List Window) (others : Others) → 6 < length list → new_bridge (settings_of list others) ≡ refused 1 (fresh_bridge example_settings)
