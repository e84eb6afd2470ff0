-- Memory calls of the worked examples, and calls at the edges of the refusals, as facts about the definitions.
use Rattle.std.specs.Prelude.{◌≡◌, [], ◌∷◌, ◌-◌, ◌^◌}
use Rattle.address.specs.Settings.{example_settings}
use Rattle.burst.specs.Examples.{incr}
use Rattle.machine.specs.State.{with_free, core_in}
use Rattle.machine.specs.Memory.{read_refusal, write_refusal, write_bytes}
use Rattle.bridge_laws.specs.ExampleBridges.{down, up}

-- the write of the two bytes of W4, AA and BB: one word, first enables 6
abbrev pub WriteTwo : Type 0
WriteTwo =
    (write_refusal up (incr 0x12340ABD 0 2) 2 4608 ≡ 0)
    × (write_bytes example_settings (incr 0x12340ABD 0 2) (0xAA ∷ 0xBB ∷ []) 4608
    ≡ 0x40 ∷ 0x00 ∷ 0x00 ∷ 0x01 ∷ 0x00 ∷ 0x00 ∷ 0x00 ∷ 0x06 ∷ 0x56 ∷ 0x71 ∷ 0x0A ∷ 0xBC ∷ 0x00 ∷ 0xAA ∷ 0xBB ∷ 0x00 ∷ [])

-- order: 8 before 3, 3 before 2, 2 before 15, 15 before 4
abbrev pub InOrder : Type 0
InOrder =
    (write_refusal down (incr 0 6 1) 5 4607 ≡ 8)
    × (write_refusal down (incr 0 6 1) 5 4608 ≡ 3)
    × (write_refusal down (incr 0 2 1) 5 4608 ≡ 2)
    × (write_refusal down (incr 0x12340ABC 2 1) 5 4608 ≡ 15)
    × (write_refusal down (incr 0x12340ABC 2 1) 4 4608 ≡ 4)
    × (write_refusal up (incr 0x12340ABC 2 1) 4 4608 ≡ 0)

-- 'W11: 4,096-byte read at limit 128 needs 32 tags; one resting tag gives 7'
abbrev pub W11 : Type 0
W11 =
    (read_refusal up (incr 0x12340000 4 256) 4608 ≡ 0)
    × (read_refusal (core_in (with_free (2 ^ 32 - 2) up.core) up) (incr 0x12340000 4 256) 4608 ≡ 7)
