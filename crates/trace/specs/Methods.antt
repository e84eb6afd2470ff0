-- Each method is `step` at its event: what its contract says of its answer, of the view of its bridge, of store and area is what
-- `step` gives.
use Rattle.std.specs.Prelude.{ℕ, ◌≡◌, List, [], Bool, length}
use Rattle.burst.specs.declared.Burst.{Burst}
use Rattle.machine.specs.Bridge.{Bridge}
use Rattle.machine.specs.State.{Answered}
use Rattle.machine.specs.Memory.{filled, read_step, read_area, write_step, write_area}
use Rattle.machine.specs.Config.{access_of, config_step, config_area}
use Rattle.machine.specs.Completions.{held, completed, complete_step}
use Rattle.machine.specs.Ticks.{ticked, tick_step, linked, link_step}
use Rattle.machine.specs.Messages.{message_step}
use Rattle.machine.specs.Take.{take_refusal, looked, release_step}
use Rattle.trace.specs.Events.{read, write, config, look, release, message, call, completion, tick, link, Result, step}

-- a method that answers with r: the store after it, and its area before and after; where it has no area, both are empty
pub record Plays (x : Result) (r : Answered) (store area after : List ℕ) : Type 0 where
  pub bridge : r.bridge ≡ x.after.bridge
  pub answer : r.answer ≡ x.out.answer
  pub store_after : store ≡ x.after.store
  pub area_after : after ≡ filled x.out.sent area

pub record Methods : Type 0 where
  pub read :
      (b : Bridge) (store : List ℕ) (q : Burst) (area : List ℕ)
      → Plays (step (held b store) (call (read q (length area)))) (read_step b q (length area)) store area (read_area b q area)
  pub write :
      (b : Bridge) (store : List ℕ) (q : Burst) (bytes area : List ℕ)
      → Plays (step (held b store) (call (write q bytes (length area)))) (write_step b q bytes (length area)) store area
      (write_area b q bytes area)
  pub config :
      (b : Bridge) (store : List ℕ) (offset : ℕ) (w : Bool) (strobes word : ℕ) (area : List ℕ)
      → let a = access_of offset w strobes word in
      Plays (step (held b store) (call (config a (length area)))) (config_step b a (length area)) store area (config_area b a area)
  pub complete :
      (b : Bridge) (store : List ℕ) (i : ℕ) (s : List ℕ)
      → Plays (step (held b store) (completion i s)) (complete_step b store s) (completed (held b store) s).store [] []
  pub tick :
      (b : Bridge) (store : List ℕ)
      → Plays (step (held b store) tick) (tick_step b store) (ticked (held b store)).store [] []
  pub link :
      (b : Bridge) (store : List ℕ) (up : Bool)
      → Plays (step (held b store) (link up)) (link_step up b store) (linked up (held b store)).store [] []
  pub release :
      (b : Bridge) (store : List ℕ) (k : ℕ)
      → Plays (step (held b store) (call (release k))) (release_step b (length store) k) store [] []
  pub message :
      (b : Bridge) (store m : List ℕ) → Plays (step (held b store) (call (message m))) (message_step b m) store [] []
  -- a look hands back a part and leaves bridge and store; its number is what `take_number` gives
  pub look :
      (b : Bridge) (store : List ℕ) (k : ℕ)
      → ((step (held b store) (call (look k))).after ≡ held b store)
      × ((step (held b store) (call (look k))).out.part ≡ looked b store k)
      × ((step (held b store) (call (look k))).out.answer.number ≡ take_refusal b (length store) k)
