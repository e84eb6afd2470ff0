-- What is kept of a request by its tag.
use Rattle.std.specs.Prelude.{ℕ, ◌%◌, Bool, cond}
use Rattle.parts.specs.declared.Pending.{Pending}
use Rattle.parts.specs.Sizes.{config_slot, memory_read, config_read, config_write}

-- of a memory read's piece: where its bytes go, how many they are, and the PCIe address of the first, mod 128
abbrev pub memory_pending : ℕ → ℕ → ℕ → ℕ → Pending
memory_pending slot place missing address =
    record { slot = slot; place = place; missing = missing; next = address % 128; kind = memory_read }

-- of a configuration access: one piece of 4 bytes for the configuration slot; its completion has lower address 0
abbrev pub word_pending : Bool → Pending
word_pending write =
    record { slot = config_slot; place = 0; missing = 4; next = 0; kind = cond write config_write config_read }
