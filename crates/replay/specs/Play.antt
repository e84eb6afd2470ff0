-- 'A call says how many whole events it may play and gets back how many it played.'
use Rattle.std.specs.Prelude.{ℕ, ◌+◌, ◌-◌, ◌/◌, List, [], ◌∷◌, Bool, cond, not, ◌||◌, eqb, ltb}
use Rattle.std.proofs.Math.Option.{Option, none, some}
use Rattle.refusals.specs.Table.{too_short}
use Rattle.records.specs.declared.Phase.{Phase}
use Rattle.records.specs.Events.{Captured}
use Rattle.records.specs.Stream.{Reader, is_reading, Pushed, push}
use Rattle.records.specs.Layout.{longest}
use Rattle.replay.specs.Events.{Stage, played, row_size}

pub record Playing : Type 0 where
  pub reader : Reader
  pub stage : Stage

abbrev pub playing : Reader → Stage → Playing
playing r g = record { reader = r; stage = g }

pub record Played : Type 0 where
  pub after : Playing
  -- how many events were played, and how many bytes were read
  pub played : ℕ
  pub used : ℕ

abbrev pub nothing : Playing → Played
nothing p = record { after = p; played = 0; used = 0 }

abbrev pub more : ℕ → ℕ → Played → Played
more n bytes x = record { after = x.after; played = n + x.played; used = bytes + x.used }

abbrev pub counts : Option Captured → ℕ
counts none = 0
counts (some e) = 1

abbrev pub staged : Stage → Option Captured → Stage
staged g none = g
staged g (some e) = played g e

-- a byte, with the event that it may complete
abbrev pub on_byte : Playing → Pushed → Playing
on_byte p x = playing x.reader (staged p.stage x.event)

-- the allowance is used up, or the reader has met the end or a fault
abbrev pub halts : ℕ → Phase → Bool
halts allowed p = eqb allowed 0 || not (is_reading p)

-- with `allowed` events to play: byte by byte, until these are played, the input ends, or an end or a fault is met. The end and a bad
-- record are no events; 'with the allowance used up nothing more is judged'
abbrev pub play : ℕ → Playing → List ℕ → Played
play allowed p [] = nothing p
play allowed p (b ∷ s) =
    cond (halts allowed p.reader.phase) (nothing p)
    (more (counts (push p.reader b).event) 1
    (play (allowed - counts (push p.reader b).event) (on_byte p (push p.reader b)) s))

-- ---- the call

-- 8 where the buffer has no room for the longest record, or the rows not for so many events; a refused call plays nothing
abbrev pub replay_number : ℕ → ℕ → ℕ → ℕ
replay_number held rows allowed = cond (ltb held longest) too_short (cond (ltb (rows / row_size) allowed) too_short 0)

abbrev pub granted : ℕ → ℕ → ℕ
granted number allowed = cond (eqb number 0) allowed 0
