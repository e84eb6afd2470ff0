-- The registers that the code's struct means, with the cells that hold the queued messages.
use Rattle.std.specs.Prelude.{ℕ, List}
use Rattle.messages.specs.Code.Cells.{queue_of}
use Rattle.messages.specs.declared.queue.Ring.{Ring}
use Rattle.ecam.specs.declared.registers.Registers as code
use Rattle.ecam.specs.Fields.{Registers}

abbrev pub registers_from : code.Registers → List ℕ → Registers
registers_from r cells =
    record {
      primary = r.primary;
      secondary = r.secondary;
      subordinate = r.subordinate;
      disable = r.disable;
      decode = r.decode;
      mask = r.mask;
      link = r.link;
      errors = queue_of r.errors cells;
      overflow = r.overflow;
    }

-- and back: the struct whose queue is where a ring says
abbrev pub registers_at : Ring → Registers → code.Registers
registers_at ring r =
    record {
      primary = r.primary;
      secondary = r.secondary;
      subordinate = r.subordinate;
      disable = r.disable;
      decode = r.decode;
      mask = r.mask;
      link = r.link;
      errors = ring;
      overflow = r.overflow;
    }
