-- The byte that makes a record whole is its last: a reader that judges after each byte holds no byte too many.
use Prim.Native.Nat.{ℕ, ◌<◌}
use mathlib.Core.Path.{◌≡◌, sym, ap, ◌∙◌}
use mathlib.Core.List.{List, [], ◌∷◌, ◌++◌}
use native.Mathlib.Decide.{dec_lt}
use native.Mathlib.Omega.{arith}
use lib.ListN.{length, take, drop, length-append, take-append-drop}
use lib.Seq.{take-append-le}
use Rattle.records.specs.Events.{Captured}
use Rattle.records.specs.Reading.{more, event, next}
use Rattle.records.proofs.Judged.{judged_stays, more_no_event}
use Rattle.records.proofs.Known.{whole_is_there, event_known}

pub just_whole : (n : ℕ) (h : List ℕ) (b : ℕ) (e : Captured) (size : ℕ) → next n h ≡ more → next n (h ++ b ∷ []) ≡ event e size
    → size ≡ length (h ++ b ∷ [])
just_whole n h b e size m w = go (dec_lt (length h) size)
  where
    go : Dec (length h < size) → size ≡ length (h ++ b ∷ [])
    go (yes l) = omega (arith, l, length-append h (b ∷ []), (whole_is_there n (h ++ b ∷ []) e size w).1)
    go (no l) =
        let x : next n (take size h) ≡ event e size =
        ap (next n) (sym (take-append-le size h (b ∷ []) (omega (arith, l)))) ∙ (event_known n (h ++ b ∷ []) e size w).alone
        ∙ w
        in
        let y : next n h ≡ event e size =
        ap (next n) (sym (take-append-drop size h))
        ∙ judged_stays n (take size h) (drop size h) (λ q. more_no_event e size (sym q ∙ x))
        ∙ x
        in absurd (more_no_event e size (sym m ∙ y))
