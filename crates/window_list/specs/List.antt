-- The settings that a list of window records stands for (01, 'Settings': 'then also taken as a list of window records
-- that the caller lends').
use Rattle.std.specs.Prelude.{ℕ, cond, List, [], ◌∷◌, ltb, get_or, length}
use Rattle.address.specs.declared.Windows.{Windows}
use Rattle.address.specs.declared.Settings.{Settings}
use Rattle.window_list.specs.declared.Window.{Window}
use Rattle.window_list.specs.declared.Others.{Others}

-- record k of a list, and zeros where the list is over
abbrev pub zeros : Window
zeros = record { base = 0; size = 0; target = 0 }

abbrev pub nth : List Window → ℕ → Window
nth list k = get_or list k zeros

-- one number of each of the first six records
abbrev pub six : (Window → ℕ) → List Window → List ℕ
six number list =
    number (nth list 0)
    ∷ number (nth list 1)
    ∷ number (nth list 2)
    ∷ number (nth list 3)
    ∷ number (nth list 4)
    ∷ number (nth list 5)
    ∷ []

-- n records are n windows; '1 to 6': 7, which is refused, stands for every number above
abbrev pub count_of : ℕ → ℕ
count_of n = cond (ltb 6 n) 7 n

-- the first n records of a list as plain arrays
abbrev pub windows_of : ℕ → List Window → Windows
windows_of n list = record {
  count = count_of n;
  base = six (λ w. w.base) list;
  size = six (λ w. w.size) list;
  target = six (λ w. w.target) list;
}

-- these windows, and the other settings
abbrev pub settings_with : Windows → Others → Settings
settings_with windows others = record {
  windows = windows;
  bits = others.bits;
  reads = others.reads;
  writes = others.writes;
  limit = others.limit;
  requester = others.requester;
}

-- all records of a list, and the other settings
abbrev pub settings_of : List Window → Others → Settings
settings_of list others = settings_with (windows_of (length list) list) others
