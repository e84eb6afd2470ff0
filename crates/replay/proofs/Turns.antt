-- The reader's steps, played.
use mathlib.Core.Path.{◌≡◌, refl, sym, ap, ◌∙◌, subst}
use mathlib.Core.List.{List, [], ◌∷◌, ◌++◌, append-nil}
use mathlib.Core.Option.{Option, none, some}
use mathlib.Core.Bool.{true}
use Prim.Native.Nat.{ℕ, suc, ◌+◌, ◌-◌, ◌<◌, ◌≤◌}
use native.Mathlib.Nat.{zero-add, sub-zero}
use native.Mathlib.Omega.{arith}
use lib.ListN.{length, take, drop, take-append-drop}
use lib.Seq.{sets, length-take-le}
use lib.Dec.{lit≤, eqb-suc-zero}
use Rattle.records.specs.Events.{Captured}
use Rattle.records.specs.Stream.{Reader, is_reading, Pushed, pushed, push}
use Rattle.records.specs.Code.Steps.{Steps, last, then}
use Rattle.parts.specs.Answers.{Answer}
use Rattle.replay.specs.Events.{Told, tells, Stage, played, row_of}
use Rattle.replay.specs.Play.{playing, Played, more, counts, staged, play}
use Rattle.replay.specs.Code.Tables.{Does, Turned}

one_more_lem : (n m : ℕ) (x : Played) → more 0 1 (more n m x) ≡ more n (suc m) x
one_more_lem n m x =
    let h : 1 + (m + x.used) ≡ suc m + x.used = omega arith in
    rw (zero-add (n + x.played), h)

play_byte : (allowed : ℕ) (r : Reader) (g : Stage) (b : ℕ) (s : List ℕ) (x : Pushed) → is_reading r.phase ≡ true → push r b ≡ x → play (suc allowed) (playing r g) (b ∷ s) ≡ more (counts x.event) 1 (play (suc allowed - counts x.event) (playing x.reader (staged g x.event)) s)
play_byte allowed r g b s x p w = rw (eqb-suc-zero allowed, p, w) refl

pub play_steps : (r q : Reader) (s : List ℕ) (e : Option Captured) (allowed : ℕ) (g : Stage) (t : List ℕ) → Steps r s q e → play (suc allowed) (playing r g) (s ++ t) ≡ more (counts e) (length s) (play (suc allowed - counts e) (playing q (staged g e)) t)
play_steps r q s e allowed g t (last {b = b} p w) = play_byte allowed r g b t (pushed q e) p w
play_steps r q s e allowed g t (then {p = m} {b = b} {s = l} p w k) =
    play_byte allowed r g b (l ++ t) (pushed m none) p w
    ∙ ap (λ (n : ℕ). more 0 1 (play n (playing m g) (l ++ t))) (sub-zero (suc allowed))
    ∙ ap (λ (x : Played). more 0 1 x) (play_steps m q l e allowed g t k)
    ∙ one_more_lem (counts e) (length l) (play (suc allowed - counts e) (playing q (staged g e)) t)

steps_some : {r q : Reader} {s : List ℕ} {e : Option Captured} → Steps r s q e → 0 < length s
steps_some (last p w) = omega arith
steps_some (then p w k) = omega arith

-- the steps of an input's first bytes
play_first : (r q : Reader) (e : Option Captured) (g : Stage) (allowed used : ℕ) (input : List ℕ) → Steps r (take used input) q e → used ≤ length input → play (suc allowed) (playing r g) input ≡ more (counts e) used (play (suc allowed - counts e) (playing q (staged g e)) (drop used input))
play_first r q e g allowed used input k h =
    ap (λ (x : List ℕ). play (suc allowed) (playing r g) x) (sym (take-append-drop used input))
    ∙ play_steps r q (take used input) e allowed g (drop used input) k
    ∙ ap (λ (x : ℕ). more (counts e) x (play (suc allowed - counts e) (playing q (staged g e)) (drop used input))) (length-take-le used input h)

used_some : (r q : Reader) (e : Option Captured) (used : ℕ) (input : List ℕ) → Steps r (take used input) q e → used ≤ length input → 0 < used
used_some r q e used input k h = omega (arith, steps_some k, length-take-le used input h)

-- no event
pub does_none : (g : List Told → Stage) (rows : List ℕ) (at : ℕ) → Does g g none 0 rows rows at
does_none g rows at =
    record {
      told = [];
      stages = λ earlier. ap g (append-nil earlier);
      counted = refl;
      events = refl;
      rows_after = refl;
    }

-- one
pub does_one : (g h : List Told → Stage) (e : Captured) (a : Answer) (rows later : List ℕ) (at : ℕ) → ((told : List Told) → h (told ++ tells e a ∷ []) ≡ played (g told) e) → later ≡ sets rows at (row_of (tells e a)) → Does g h (some e) 1 rows later at
does_one g h e a rows later at w v =
    record { told = tells e a ∷ []; stages = w; counted = refl; events = refl; rows_after = v }

at_most_one : (e : Option Captured) → counts e ≤ 1
at_most_one none = lit≤ tt
at_most_one (some e) = lit≤ tt

-- a turn
pub turned : (r q : Reader) (g h : List Told → Stage) (e : Option Captured) (input : List ℕ) (used n : ℕ) (rows later : List ℕ) (at : ℕ) → Steps r (take used input) q e → used ≤ length input → Does g h e n rows later at → Turned (λ (told : List Told). playing r (g told)) (λ (told : List Told). playing q (h told)) input used n rows later at
turned r q g h e input used n rows later at k l d =
    record {
      told = d.told;
      plays = λ earlier allowed.
          play_first r q e (g earlier) allowed used input k l
          ∙ ap (λ (x : Stage). more (counts e) used (play (suc allowed - counts e) (playing q x) (drop used input))) (sym (d.stages earlier))
          ∙ ap (λ (x : ℕ). more x used (play (suc allowed - x) (playing q (h (earlier ++ d.told))) (drop used input))) d.events;
      counted = d.counted;
      single = subst (λ (x : ℕ). x ≤ 1) d.events (at_most_one e);
      some = used_some r q e used input k l;
      there = l;
      rows_after = d.rows_after;
    }
