-- Demand 3: all its claims, and what they say of the example.
use mathlib.Core.Path.{◌≡◌}
use mathlib.Core.List.{List, map}
use Rattle.machine.specs.Take.{looked}
use Rattle.trace.specs.Events.{Event, seen}
use Rattle.trace.specs.Claims.{seen_apart, Demand3}
use Rattle.trace.specs.Example.{ten_bytes}
use Rattle.trace.specs.Applied.{there, old, new}
use Rattle.trace.proofs.Bytes.Bytes as first
use Rattle.trace.proofs.Deadline.Deadline as second
use Rattle.trace.proofs.Okay.Okay as second-okay
use Rattle.trace.proofs.Alike.Alike as third
use Rattle.trace.proofs.Applied.{applied}

pub demand3 : Demand3
demand3 = record {
  bytes = first.bytes;
  read_deadline = second.read_deadline;
  config_deadline = second.config_deadline;
  read_okay = second-okay.read_okay;
  config_okay = second-okay.config_okay;
  local_okay = second-okay.local_okay;
  alike = third.alike;
}

-- the example's read of ten bytes holds what was sent for it, and two of its bridges are alike
pub example_bytes : looked there.bridge there.store 0 ≡ ten_bytes
example_bytes = applied.bytes demand3.bytes

pub example_alike : (later : List Event) → map seen_apart (seen old later) ≡ map seen_apart (seen new later)
example_alike = applied.alike demand3.alike
