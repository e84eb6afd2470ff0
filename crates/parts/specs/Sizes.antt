-- Lengths and encodings of the bridge's state, one place each.
use Rattle.std.specs.Prelude.{ℕ}

-- ---- how many, and how long

-- '32 free tags'
abbrev pub tag_count : ℕ
tag_count = 32

-- '8 free read slots'
abbrev pub slot_count : ℕ
slot_count = 8

-- 'whose bytes lie from 4,096k': a slot's bytes
abbrev pub slot_size : ℕ
slot_size = 4096

-- 'a lent store of at least 32,768 bytes'
abbrev pub store_size : ℕ
store_size = 32768

-- 'The lent sending area must hold 4,608 bytes'
abbrev pub area_size : ℕ
area_size = 4608

-- 'Slot 8 is the configuration slot'
abbrev pub config_slot : ℕ
config_slot = 8

-- ---- the state of a slot

abbrev pub slot_free : ℕ
slot_free = 0

abbrev pub slot_open : ℕ
slot_open = 1

abbrev pub slot_finished : ℕ
slot_finished = 2

-- ---- the kind of a request that waits for completions

abbrev pub memory_read : ℕ
memory_read = 0

abbrev pub config_read : ℕ
config_read = 1

abbrev pub config_write : ℕ
config_write = 2
