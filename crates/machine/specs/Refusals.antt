-- What refuses a memory burst (01, 'Memory bursts'), of the settings, the core and the lowest free slot: the tests, in the
-- order of the refusal table.
use Rattle.std.specs.Prelude.{ℕ, [], ◌∷◌, not, ◌&&◌, ltb, leb, eqb}
use Rattle.refusals.specs.Table.{refused_by, read_order, write_order}
use Rattle.tags.specs.Tags.{available}
use Rattle.address.specs.declared.Settings.{Settings}
use Rattle.address.specs.Windows.{found_number}
use Rattle.burst.specs.declared.Burst.{Burst}
use Rattle.burst.specs.Bursts.{burst_number, data_number}
use Rattle.packets.specs.Packets.{window_for, pieces_of}
use Rattle.parts.specs.Cores.{Core}
use Rattle.parts.specs.Sizes.{tag_count, slot_count, area_size, slot_open}

abbrev pub read_number : Settings → Core → ℕ → Burst → ℕ → ℕ
read_number s c slot q room =
    refused_by read_order
    (ltb room area_size
    ∷ not (eqb (burst_number q) 0)
    ∷ not (eqb (found_number (window_for s.windows q)) 0)
    ∷ not c.registers.link
    ∷ (eqb c.config.state slot_open && not c.config.write)
    ∷ leb slot_count slot
    ∷ ltb (available tag_count c.free) (pieces_of s.reads q)
    ∷ [])

-- 'writes skip 5 to 7'
abbrev pub write_number : Settings → Core → Burst → ℕ → ℕ → ℕ
write_number s c q len room =
    refused_by write_order
    (ltb room area_size
    ∷ not (eqb (burst_number q) 0)
    ∷ not (eqb (found_number (window_for s.windows q)) 0)
    ∷ not (eqb (data_number q len) 0)
    ∷ not c.registers.link
    ∷ [])
