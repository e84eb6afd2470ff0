-- Session numbers (02, A2), step by step; over whole lists of events they are in `trace`.
use Rattle.std.specs.Prelude.{ℕ, ◌+◌, ◌%◌, ◌^◌, ◌<◌, ◌≡◌, Bool, cond, ◌&&◌, not, length, ltb}
use Rattle.burst.specs.declared.Burst.{Burst}
use Rattle.machine.specs.State.{Bridge, slot_count, config_slot, free_slot, figures_now, registers_of}
use Rattle.machine.specs.Memory.{read_refusal, read_step}
use Rattle.machine.specs.Config.{Access, config_refusal, config_step}
use Rattle.machine.specs.Completions.{store_size, Held}
use Rattle.machine.specs.Ticks.{linked}
use Rattle.machine.specs.Take.{take_refusal, figures_of, release_step}
use Rattle.bridge_laws.specs.MemoryLaws.{Tables}

-- an accepted link event that finds the link down and brings it up counts one, and after the last value comes zero; no other
-- counts: a refused one, a repeated up, a drop
abbrev pub LinkCounts : Type 0
LinkCounts =
    (up : Bool) (h : Held)
    → (linked up h).bridge.core.session
    ≡ cond (not (ltb (length h.store) store_size) && up && not (registers_of h.bridge).link)
    ((h.bridge.core.session + 1) % 2 ^ 32) h.bridge.core.session

-- an accepted access is kept with the figures of now: in a read's slot
abbrev pub ReadFigures : Type 0
ReadFigures =
    (b : Bridge) (q : Burst) (room : ℕ) → Tables b → read_refusal b q room ≡ 0
    → figures_of (read_step b q room).bridge (free_slot b) ≡ figures_now b.core

-- and in the configuration slot, whether the access is local or goes out
abbrev pub ConfigFigures : Type 0
ConfigFigures =
    (b : Bridge) (a : Access) (room : ℕ) → config_refusal b a room ≡ 0
    → (config_step b a room).bridge.core.config.figures ≡ figures_now b.core

-- an accepted release reports the figures that were kept with the answer, whatever the counter has by then
abbrev pub ReleaseReports : Type 0
ReleaseReports =
    (b : Bridge) (room k : ℕ) → take_refusal b room k ≡ 0
    → (k < slot_count → (release_step b room k).answer.figures ≡ figures_of b k)
    × (k ≡ config_slot → (release_step b room k).answer.figures ≡ b.core.config.figures)
