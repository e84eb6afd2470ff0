-- What a call leaves to its caller, who lends some things and keeps others by value.
use Rattle.std.specs.Prelude.{Result, Ok, Err}
use Rattle.refusals.specs.declared.Refusal.{Refusal}
use Rattle.bridge.specs.declared.Bridge.{Bridge}
use Rattle.records.specs.declared.Reader.{Reader}
use Rattle.replay.specs.declared.replay.Replayed.{Replayed}

-- a refused call reads and plays nothing: its caller keeps bridge and reader
abbrev pub left : Bridge → Reader → Result Replayed Refusal → Replayed
left b r (Ok x) = x
left b r (Err e) = record { bridge = b; reader = r; used = 0; played = 0 }
