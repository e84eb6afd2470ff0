-- C1: a reader that is fed a file in parts, and one that has stopped.
use Prim.Native.Nat.{ℕ}
use mathlib.Core.Path.{◌≡◌, refl, sym, ap, ◌∙◌}
use mathlib.Core.List.{List, [], ◌∷◌, ◌++◌, append_assoc}
use mathlib.Core.Option.{none}
use mathlib.Core.Bool.{false}
use Rattle.records.specs.Stream.{Reader, is_reading, Pushed, pushed, push, Fed, fed, listed, feed}
use Rattle.replay_laws.specs.Stream.{joined, AnyCut, AnyCutting}

pub any_cut : AnyCut
any_cut r [] t = refl
any_cut r (b ∷ s) t =
    let x = push r b in
    ap (λ (f : Fed). fed f.reader (listed x.event ++ f.events)) (any_cut x.reader s t)
    ∙ ap (fed _) (sym (append_assoc (listed x.event) _ _))

pub any_cutting : AnyCutting
any_cutting r [] = refl
any_cutting r (s ∷ rest) =
    ap (λ (f : Fed). fed f.reader ((feed r s).events ++ f.events)) (any_cutting (feed r s).reader rest)
    ∙ sym (any_cut r s (joined rest))

-- ---- after the end or a fault nothing is read

push_nothing : (r : Reader) (b : ℕ) → is_reading r.phase ≡ false → push r b ≡ pushed r none
unfolding push
push_nothing r b e = rw e

pub feed_nothing : (r : Reader) (s : List ℕ) → is_reading r.phase ≡ false → feed r s ≡ fed r []
feed_nothing r [] e = refl
feed_nothing r (b ∷ s) e =
    ap (λ (x : Pushed). fed (feed x.reader s).reader (listed x.event ++ (feed x.reader s).events)) (push_nothing r b e)
    ∙ feed_nothing r s e
