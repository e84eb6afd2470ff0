-- What was told before a call changes nothing in it.
use Prim.Native.Nat.{ℕ, ◌-◌}
use mathlib.Core.Path.{◌≡◌, refl, sym, ap, ◌∙◌}
use mathlib.Core.List.{List, [], ◌∷◌, append-nil, append_assoc}
use mathlib.Core.Option.{Option, none, some}
use mathlib.Core.Bool.{Bool, true, false, cond}
use Rattle.records.specs.Events as records
use Rattle.records.specs.Events.{Captured, read, write, config_read, config_write, completion, link, tick}
use Rattle.records.specs.Stream.{Reader, push}
use Rattle.replay.specs.Events.{Told, Stage, stage, played}
use Rattle.replay.specs.Play.{playing, Played, nothing, more, counts, staged, halts, play}
use Rattle.replay_laws.specs.Play.{told_first, played_after, ToldBefore}

-- ---- one event

event_told : (ts : List Told) (g : Stage) (e : Captured) → played (told_first ts g) e ≡ told_first ts (played g e)
unfolding played
event_told ts g (read q) = ap (stage _ _) (append_assoc ts g.told _)
event_told ts g (write q d) = ap (stage _ _) (append_assoc ts g.told _)
event_told ts g (config_read offset) = ap (stage _ _) (append_assoc ts g.told _)
event_told ts g (config_write offset strobes word) = ap (stage _ _) (append_assoc ts g.told _)
event_told ts g (completion s) = ap (stage _ _) (append_assoc ts g.told _)
event_told ts g (link up) = ap (stage _ _) (append_assoc ts g.told _)
event_told ts g tick = ap (stage _ _) (append_assoc ts g.told _)
event_told ts g (records.take slot) = ap (stage _ _) (append_assoc ts g.told _)

byte_told : (ts : List Told) (g : Stage) (e : Option Captured) → staged (told_first ts g) e ≡ told_first ts (staged g e)
byte_told ts g none = refl
byte_told ts g (some e) = event_told ts g e

-- ---- a call

call_told : (a : ℕ) (r : Reader) (ts : List Told) (g : Stage) (s : List ℕ)
    → play a (playing r (told_first ts g)) s ≡ played_after ts (play a (playing r g) s)
call_told a r ts g [] = refl
call_told a r ts g (b ∷ s) = by (halts a r.phase) (call_told (a - counts (push r b).event) (push r b).reader ts (staged g (push r b).event) s)
  where
    on : Stage → Played
    on h = play (a - counts (push r b).event) (playing (push r b).reader h) s

    by : (t : Bool) → on (told_first ts (staged g (push r b).event)) ≡ played_after ts (on (staged g (push r b).event))
        → cond t (nothing (playing r (told_first ts g))) (more (counts (push r b).event) 1 (on (staged (told_first ts g) (push r b).event)))
        ≡ played_after ts (cond t (nothing (playing r g)) (more (counts (push r b).event) 1 (on (staged g (push r b).event))))
    by true h = refl
    by false h = ap (more (counts (push r b).event) 1) (ap on (byte_told ts g (push r b).event) ∙ h)

pub told_before : ToldBefore
told_before a r h area earlier s =
    ap (λ (ts : List Told). play a (playing r (stage h area ts)) s) (sym (append-nil earlier))
    ∙ call_told a r earlier (stage h area []) s
