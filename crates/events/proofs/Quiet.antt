-- A tick while nothing is open. The search takes it for `step_in`, so that no proof names the test there; of any bridge and
-- store, so that it need not read the tables.
use mathlib.Core.Path.{◌≡◌}
use Prim.Native.Nat.{ℕ, ◌≤◌, ◌<◌}
use borrow.Author.Tests.{le-ltb}
use lib.ListN.{length}
use Rattle.machine.specs.State.{tag_count, missing_of, core_in, with_ticks}
use Rattle.machine.specs.Completions.{store_size, Held, held}
use Rattle.machine.specs.Ticks.{next_tick, ticked}
use Rattle.machine.proofs.Ticks.{none_old}

pub nothing_open : (h : Held) → store_size ≤ length h.store → ((t : ℕ) → t < tag_count → missing_of h.bridge t ≡ 0) → ticked h ≡ held (core_in (with_ticks (next_tick h.bridge.core.ticks) h.bridge.core) h.bridge) h.store
unfolding ticked
nothing_open h long none =
    rw (le-ltb _ _ long)
    (none_old (held (core_in (with_ticks (next_tick h.bridge.core.ticks) h.bridge.core) h.bridge) h.store) tag_count none)
