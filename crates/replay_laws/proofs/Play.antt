-- C3 and C4: calls of replay.
use Prim.Native.Nat.{ℕ, zero, suc, ◌+◌, ◌-◌, ◌<◌, min}
use mathlib.Core.Path.{◌≡◌, refl, sym, ap, ◌∙◌, subst}
use mathlib.Core.Logic.{◌⊎◌, inl, inr}
use mathlib.Core.List.{List, [], ◌∷◌, ◌++◌}
use mathlib.Core.Option.{Option, none, some}
use mathlib.Core.Bool.{Bool, true, false, cond, not, ◌||◌}
use native.Mathlib.Nat.{zero-add, add_assoc, min-zero, not-suc-le-zero}
use native.Mathlib.Omega.{arith}
use borrow.Author.Tests.{ne_eqb}
use lib.Dec.{eqb}
use lib.ListN.{length, take, drop}
use Rattle.records.specs.Events.{Captured}
use Rattle.records.specs.Stream.{is_reading, Pushed, push, Fed, listed, feed}
use Rattle.replay.specs.Events.{Stage, played_all}
use Rattle.replay.specs.Play.{Playing, Played, nothing, more, counts, staged, on_byte, play}
use Rattle.replay_laws.specs.Play.{Replays, ReplayIsRun, AllowancesAdd, NothingAllowed}
use Rattle.replay_laws.proofs.Cuts.{feed_nothing}

one_add : (n : ℕ) → 1 + n ≡ suc n
one_add n = omega arith

-- ---- one byte of a call

-- what reading it gives
abbrev after_byte : ℕ → Playing → ℕ → List ℕ → Played
after_byte a p b s = play (a - counts (push p.reader b).event) (on_byte p (push p.reader b)) s

abbrev read_byte : ℕ → Playing → ℕ → List ℕ → Played
read_byte a p b s = more (counts (push p.reader b).event) 1 (after_byte a p b s)

-- with nothing allowed, and once the reader has stopped
pub nothing_allowed : NothingAllowed
nothing_allowed p [] = refl
nothing_allowed p (b ∷ s) = refl

stopped : (a : ℕ) (p : Playing) (s : List ℕ) → is_reading p.reader.phase ≡ false → play a p s ≡ nothing p
stopped a p [] e = refl
stopped a p (b ∷ s) e = ap (λ (t : Bool). cond t (nothing p) (read_byte a p b s)) (by (eqb a 0))
  where
    by : (t : Bool) → (t || not (is_reading p.reader.phase)) ≡ true
    by true = refl
    by false = rw e

-- else the byte is read
goes_on : (a : ℕ) (p : Playing) (b : ℕ) (s : List ℕ) → 0 < a → is_reading p.reader.phase ≡ true
    → play a p (b ∷ s) ≡ read_byte a p b s
goes_on a p b s l e = ap (λ (t : Bool). cond t (nothing p) (read_byte a p b s)) test
  where
    test : (eqb a 0 || not (is_reading p.reader.phase)) ≡ false
    test = rw (ne_eqb a 0 (omega arith), e)

-- ---- with the event that it completed

count_by : (e : Option Captured) (a n : ℕ) (es : List Captured) → n ≡ min (suc a - counts e) (length es)
    → counts e + n ≡ min (suc a) (length (listed e ++ es))
count_by none a n es h = omega arith
count_by (some e) a n es h = omega arith

stage_by : (e : Option Captured) (g : Stage) (n : ℕ) (es : List Captured)
    → played_all (staged g e) (take n es) ≡ played_all g (take (counts e + n) (listed e ++ es))
stage_by none g n es = rw (zero-add n)
stage_by (some e) g n es = rw (one_add n)

events_by : (e : Option Captured) (n : ℕ) (es fs : List Captured) → fs ≡ take n es → listed e ++ fs ≡ take (counts e + n) (listed e ++ es)
events_by none n es fs h = rw (zero-add n) h
events_by (some e) n es fs h = rw (one_add n) (ap (λ (l : List Captured). e ∷ l) h)

least_by : (e : Option Captured) (a : ℕ) (es : List Captured) → length es < suc a - counts e → length (listed e ++ es) < suc a
least_by none a es h = omega arith
least_by (some e) a es h = omega arith

full_by : (e : Option Captured) (a n : ℕ) → n ≡ suc a - counts e → counts e + n ≡ suc a
full_by none a n h = omega arith
full_by (some e) a n h = omega arith

-- ---- C3

module _ (a : ℕ) (p : Playing) (b : ℕ) (s : List ℕ) (r : is_reading p.reader.phase ≡ true) where
  abbrev x : Pushed
  x = push p.reader b

  replays_on : (y : Played) → Replays (suc a - counts x.event) (on_byte p x) s y → Replays (suc a) p (b ∷ s) (more (counts x.event) 1 y)
  replays_on y h = record {
    count = count_by x.event a y.played (feed x.reader s).events h.count;
    stage = h.stage ∙ stage_by x.event p.stage y.played (feed x.reader s).events;
    reader = rw (one_add y.used) h.reader;
    events = rw (one_add y.used) (events_by x.event y.played (feed x.reader s).events _ h.events);
    least = before;
    stops = why h.stops;
  }
    where
      before : (j : ℕ) → j < 1 + y.used
          → (length (feed p.reader (take j (b ∷ s))).events < suc a) × (is_reading (feed p.reader (take j (b ∷ s))).reader.phase ≡ true)
      before zero l = (omega arith, r)
      before (suc j) l = let q = h.least j (omega arith) in (least_by x.event a _ q.0, q.1)

      why : (y.used ≡ length s) ⊎ ((y.played ≡ suc a - counts x.event) ⊎ (is_reading y.after.reader.phase ≡ false))
          → (1 + y.used ≡ suc (length s)) ⊎ ((counts x.event + y.played ≡ suc a) ⊎ (is_reading y.after.reader.phase ≡ false))
      why (inl e) = inl (omega arith)
      why (inr (inl e)) = inr (inl (full_by x.event a y.played e))
      why (inr (inr e)) = inr (inr e)

-- a call that reads nothing
replays_nothing : (allowed : ℕ) (p : Playing) (s : List ℕ) → 0 ≡ min allowed (length (feed p.reader s).events)
    → (0 ≡ length s) ⊎ ((0 ≡ allowed) ⊎ (is_reading p.reader.phase ≡ false)) → Replays allowed p s (nothing p)
replays_nothing allowed p s n w = record {
  count = n;
  stage = refl;
  reader = refl;
  events = refl;
  least = λ j l. absurd (not-suc-le-zero l);
  stops = w;
}

pub replay_is_run : ReplayIsRun
replay_is_run allowed p [] = replays_nothing allowed p [] (omega arith) (inl refl)
replay_is_run zero p (b ∷ s) = replays_nothing 0 p (b ∷ s) (omega arith) (inr (inl refl))
replay_is_run (suc a) p (b ∷ s) = by (is_reading p.reader.phase) refl (replay_is_run (suc a - counts (push p.reader b).event) (on_byte p (push p.reader b)) s)
  where
    none_come : is_reading p.reader.phase ≡ false → 0 ≡ min (suc a) (length (feed p.reader (b ∷ s)).events)
    none_come e = sym (ap (λ (f : Fed). min (suc a) (length f.events)) (feed_nothing p.reader (b ∷ s) e) ∙ min-zero (suc a))

    by : (z : Bool) → is_reading p.reader.phase ≡ z
        → Replays (suc a - counts (push p.reader b).event) (on_byte p (push p.reader b)) s (after_byte (suc a) p b s)
        → Replays (suc a) p (b ∷ s) (play (suc a) p (b ∷ s))
    by true e h = subst (Replays (suc a) p (b ∷ s)) (sym (goes_on (suc a) p b s (omega arith) e)) (replays_on a p b s e _ h)
    by false e h =
        subst (Replays (suc a) p (b ∷ s)) (sym (stopped (suc a) p (b ∷ s) e))
        (replays_nothing (suc a) p (b ∷ s) (none_come e) (inr (inr e)))

-- ---- C4

more_none : (y : Played) → y ≡ more 0 0 y
more_none y = rw (zero-add y.played, zero-add y.used)

more_more : (k l m n : ℕ) (y : Played) → more k l (more m n y) ≡ more (k + m) (l + n) y
more_more k l m n y = rw (add_assoc k m y.played, add_assoc l n y.used)

-- a call with b more, after a call that gave y
abbrev then : ℕ → List ℕ → Played → Played
then b s y = more y.played y.used (play b y.after (drop y.used s))

counts_first : (e : Option Captured) (a b : ℕ) → suc a + b - counts e ≡ suc a - counts e + b
counts_first none a b = omega arith
counts_first (some e) a b = omega arith

pub allowances_add : AllowancesAdd
allowances_add a b p [] = refl
allowances_add zero b p (c ∷ s) = rw (zero-add b) (more_none (play b p (c ∷ s)))
allowances_add (suc a) b p (c ∷ s) =
    by (is_reading p.reader.phase) refl
    (allowances_add (suc a - counts (push p.reader c).event) b (on_byte p (push p.reader c)) s)
  where
    by : (z : Bool) → is_reading p.reader.phase ≡ z
        → play (suc a - counts (push p.reader c).event + b) (on_byte p (push p.reader c)) s ≡ then b s (after_byte (suc a) p c s)
        → play (suc a + b) p (c ∷ s) ≡ then b (c ∷ s) (play (suc a) p (c ∷ s))
    by true e h =
        let k = counts (push p.reader c).event in
        let y = after_byte (suc a) p c s in
        goes_on (suc a + b) p c s (omega arith) e
        ∙ ap (λ (n : ℕ). more k 1 (play n (on_byte p (push p.reader c)) s)) (counts_first (push p.reader c).event a b)
        ∙ ap (more k 1) h
        ∙ more_more k 1 y.played y.used (play b y.after (drop y.used s))
        ∙ ap (λ (l : List ℕ). more (k + y.played) (1 + y.used) (play b y.after l)) (ap (λ (n : ℕ). drop n (c ∷ s)) (sym (one_add y.used)))
        ∙ ap (then b (c ∷ s)) (sym (goes_on (suc a) p c s (omega arith) e))
    by false e h =
        stopped (suc a + b) p (c ∷ s) e
        ∙ ap (more 0 0) (sym (stopped b p (c ∷ s) e))
        ∙ ap (then b (c ∷ s)) (sym (stopped (suc a) p (c ∷ s) e))
