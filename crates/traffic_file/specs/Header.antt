-- The header of a file (docs/TRAFFIC.md, 'Header').
use Rattle.std.specs.Prelude.{ℕ, ◌+◌, Bool, cond, ◌&&◌, ◌||◌, List, ◌==◌, nat_le}
use Rattle.traffic_text.specs.Numbers.{word_at}

-- versions 2 and 3 ask for a list, version 1 for plain arrays
abbrev pub is_list : List ℕ → Bool
is_list h = word_at h 4 == 2 || word_at h 4 == 3

-- the bytes of the header in version 1, of a window, and of a first session value
abbrev pub header_size : ℕ
header_size = 184

abbrev pub window_size : ℕ
window_size = 24

abbrev pub session_size : ℕ
session_size = 4

-- what follows them: in version 2 a window, in version 3 the first session value too
abbrev pub more_size : List ℕ → ℕ
more_size h = cond (word_at h 4 == 2) window_size (cond (word_at h 4 == 3) (window_size + session_size) 0)

abbrev pub store_size : List ℕ → ℕ
store_size h = word_at h 180

-- the magic, the version and the length of the store
abbrev pub is_right : List ℕ → Bool
is_right h = word_at h 0 == 0x41504254 && (word_at h 4 == 1 || is_list h) && nat_le (store_size h) 40960

-- where the first record begins
abbrev pub start_of : List ℕ → ℕ
start_of h = header_size + more_size h
