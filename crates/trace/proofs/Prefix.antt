-- A far side that meets the premise of a list of events meets that of each first part of the list.
use Prim.Native.Nat.{ℕ}
use mathlib.Core.Path.{refl}
use mathlib.Core.List.{List, [], ◌∷◌, ◌++◌}
use mathlib.Core.Bool.{Bool, true, false, cond, ◌&&◌}
use lib.Dec.{eqb}
use Rattle.machine.specs.Completions.{Held, completion_of}
use Rattle.trace.specs.Events.{Event, call, completion, tick, link, step}
use Rattle.trace.specs.FarSide.{Wire, wire_after, Some, none, came, lost, readable, paired, Along, FarFirst}
use Rattle.trace.proofs.Tags.Turn.{some_then}

some_nothing : {A : Type 0} (m : List A) → Some [] m
some_nothing [] = none
some_nothing (y ∷ m) = lost (some_nothing m)

-- what is paired with a request in a first part is some of what is paired with it
paired_first : (i : ℕ) (es fs : List Event) → Some (paired i es) (paired i (es ++ fs))
paired_first i [] fs = some_nothing (paired i fs)
paired_first i (call c ∷ es) fs = paired_first i es fs
paired_first i (completion j s ∷ es) fs = by (eqb i j && readable (completion_of s)) (paired_first i es fs)
  where
    by : (t : Bool) {l m : List (List ℕ)} → Some l m → Some (cond t (s ∷ l) l) (cond t (s ∷ m) m)
    by true h = came refl h
    by false h = h
paired_first i (tick ∷ es) fs = paired_first i es fs
paired_first i (link up ∷ es) fs = paired_first i es fs

along_first : (sent : ℕ → List (List ℕ)) (h : Held) (w : Wire) (es fs : List Event) → Along sent h w (es ++ fs) → Along sent h w es
along_first sent h w [] fs a = tt
along_first sent h w (e ∷ es) fs (p, a, rest) = (p, a, along_first sent (step h e).after (wire_after w h e) es fs rest)

pub far_first : FarFirst
far_first sent h es fs far =
    record { along = along_first sent h _ es fs far.along; order = λ i. some_then (paired_first i es fs) (far.order i) }
