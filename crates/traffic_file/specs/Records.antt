-- Event records (docs/TRAFFIC.md, 'Event records'): how long their parts are, what they are lent, and which fields are
-- wrong ('Cut and damaged files', 3).
use Rattle.std.specs.Prelude.{ℕ, Bool, true, false, cond, ◌&&◌, ◌||◌, List, [], ◌∷◌, ◌==◌, nat_le, nat_lt}
use Rattle.common.specs.Tests.{first_of}
use Rattle.traffic_text.specs.Numbers.{byte_at, word_at}

-- the bytes of the fixed fields after the kind byte, 0 for what is no kind
unfoldable pub fixed_size : ℕ → ℕ
fixed_size k =
    first_of
    (((k == 1), 24)
    ∷ ((k == 2), 28)
    ∷ ((k == 3), 21)
    ∷ ((k == 4), 8)
    ∷ ((k == 5), 8)
    ∷ ((k == 6), 5)
    ∷ ((k == 7), 8)
    ∷ ((k == 8), 8)
    ∷ ((k == 9), 54)
    ∷ ((k == 10), 4)
    ∷ ((k == 11), 34)
    ∷ ((k == 12), 4)
    ∷ ((k == 13), 4)
    ∷ ((k == 255), 4)
    ∷ [])

-- the variable bytes after them
unfoldable pub variable_size : ℕ → List ℕ → ℕ
variable_size k f =
    first_of
    (((k == 2), word_at f 24)
    ∷ ((k == 4), word_at f 4)
    ∷ ((k == 10), word_at f 0)
    ∷ ((k == 12), word_at f 0)
    ∷ ((k == 13), word_at f 0)
    ∷ [])

-- the ticks that a record asks for
abbrev pub ticks_of : ℕ → List ℕ → ℕ
ticks_of k f = cond (k == 5) (word_at f 4) 0

-- read, write, configuration and the header writers are lent the area
unfoldable pub lends_area : ℕ → Bool
lends_area k = k == 1 || k == 2 || k == 3 || k == 9 || k == 11

-- completion to release are lent the store
abbrev pub lends_store : ℕ → Bool
lends_store k = nat_le 4 k && nat_le k 8

-- the header writers and readers play without the bridge
abbrev pub is_header : ℕ → Bool
is_header k = nat_le 9 k && nat_le k 12

-- an area above 8,192; a store above the header's length
unfoldable pub lent_wrong : ℕ → List ℕ → ℕ → Bool
lent_wrong k f most = cond (lends_area k) (nat_lt 8192 (word_at f 0)) (cond (lends_store k) (nat_lt most (word_at f 0)) false)

-- a flag above 1; a target above 2; a repeat of 0 or above 131,072
unfoldable pub rest_wrong : ℕ → List ℕ → Bool
rest_wrong k f =
    cond (k == 3) (nat_lt 1 (byte_at f 12))
    (cond (k == 5) (word_at f 4 == 0 || nat_lt 131072 (word_at f 4))
    (cond (k == 6) (nat_lt 1 (byte_at f 4))
    (cond (k == 9) (nat_lt 1 (byte_at f 4) || nat_lt 2 (byte_at f 5))
    (cond (k == 11) (nat_lt 1 (byte_at f 4) || nat_lt 1 (byte_at f 5)) false))))

-- these, or a length of variable bytes above 8,192
unfoldable pub is_wrong : ℕ → List ℕ → ℕ → Bool
is_wrong k f most = cond (nat_lt 8192 (variable_size k f)) true (cond (lent_wrong k f most) true (rest_wrong k f))
