-- A file that is played in any blocks and with any allowances.
use Prim.Native.Nat.{ℕ, ◌<◌, ◌^◌, min}
use mathlib.Core.Path.{◌≡◌, refl, sym, ap, ap₂, ◌∙◌, subst}
use mathlib.Core.Logic.{◌⊎◌, inl, inr}
use mathlib.Core.List.{List, [], ◌∷◌, ◌++◌}
use mathlib.Core.Bool.{false}
use lib.ListN.{length, take, drop, take-append-drop}
use lib.Seq.{take-length}
use Rattle.records.specs.Events.{Captured}
use Rattle.records.specs.File.{file}
use Rattle.records.specs.Stream.{Reader, fresh, is_reading, Fed, feed}
use Rattle.replay.specs.Events.{Stage, played, played_all}
use Rattle.replay.specs.Play.{Playing, playing, Played, play}
use Rattle.replay_laws.specs.Stream.{joined, Says}
use Rattle.replay_laws.specs.Play.{Replays, PlayedCount, Call, blocks, calls, PlaysFile, AllRead, CallsPlayFile, bytes_read, CallsPlayRead}
use Rattle.replay_laws.proofs.Cuts.{any_cut, feed_nothing}
use Rattle.replay_laws.proofs.Play.{replay_is_run}
use Rattle.replay_laws.proofs.File.{stream_is_file}

played_append : (g : Stage) (es fs : List Captured) → played_all g (es ++ fs) ≡ played_all (played_all g es) fs
played_append g [] fs = refl
played_append g (e ∷ es) fs = played_append (played g e) es fs

-- ---- from p to x all events of the bytes s are played

record Plays (p : Playing) (s : List ℕ) (x : Playing) : Type 0 where
  stage : x.stage ≡ played_all p.stage (feed p.reader s).events
  reader : x.reader ≡ (feed p.reader s).reader

then : (p x y : Playing) (s t : List ℕ) → Plays p s x → Plays x t y → Plays p (s ++ t) y
then p x y s t one more =
    let cut = any_cut p.reader s t in
    let again = ap (λ (r : Reader). feed r t) one.reader in
    record {
      stage =
          more.stage
          ∙ ap₂ (λ (g : Stage) (f : Fed). played_all g f.events) one.stage again
          ∙ sym (ap (λ (f : Fed). played_all p.stage f.events) cut ∙ played_append p.stage (feed p.reader s).events _);
      reader = more.reader ∙ ap (λ (f : Fed). f.reader) again ∙ sym (ap (λ (f : Fed). f.reader) cut);
    }

-- nothing is left to read, or the reader has stopped
idle : (x : Playing) (t : List ℕ) → (t ≡ []) ⊎ (is_reading x.reader.phase ≡ false) → Plays x t x
idle x t (inl e) = subst (λ (l : List ℕ). Plays x l x) (sym e) (record { stage = refl; reader = refl })
idle x t (inr e) =
    let none = feed_nothing x.reader t e in
    record { stage = ap (λ (f : Fed). played_all x.stage f.events) (sym none); reader = ap (λ (f : Fed). f.reader) (sym none) }

-- ---- one call

-- the bytes that it read
reads : (p : Playing) (s : List ℕ) {a : ℕ} (y : Played) → Replays a p s y → Plays p (take y.used s) y.after
reads p s y q = record { stage = q.stage ∙ ap (played_all p.stage) (sym q.events); reader = q.reader }

-- and its whole block, where it read it or stopped in it
whole : (p : Playing) (s : List ℕ) {a : ℕ} (y : Played) → Replays a p s y
    → (y.used ≡ length s) ⊎ (is_reading y.after.reader.phase ≡ false) → Plays p s y.after
whole p s y q (inl e) = subst (λ (l : List ℕ). Plays p l y.after) (ap (λ (n : ℕ). take n s) e ∙ take-length s) (reads p s y q)
whole p s y q (inr e) =
    subst (λ (l : List ℕ). Plays p l y.after) (take-append-drop y.used s)
    (then p y.after y.after (take y.used s) (drop y.used s) (reads p s y q) (idle y.after (drop y.used s) (inr e)))

-- ---- a list of them

all_whole : (p : Playing) (cs : List Call) → AllRead p cs → Plays p (joined (blocks cs)) (calls p cs)
all_whole p [] w = record { stage = refl; reader = refl }
all_whole p (c ∷ cs) w =
    let x = play c.allowed p c.block in
    then p x.after (calls x.after cs) c.block (joined (blocks cs))
    (whole p c.block x (replay_is_run c.allowed p c.block) w.0) (all_whole x.after cs w.1)

all_reads : (p : Playing) (cs : List Call) → Plays p (bytes_read p cs) (calls p cs)
all_reads p [] = record { stage = refl; reader = refl }
all_reads p (c ∷ cs) =
    let x = play c.allowed p c.block in
    then p x.after (calls x.after cs) (take x.used c.block) (bytes_read x.after cs)
    (reads p c.block x (replay_is_run c.allowed p c.block)) (all_reads x.after cs)

-- ---- from a fresh reader

plays_file : (g : Stage) (cs : List Call) (x : List ℕ) → length x < 2 ^ 64 → Plays (playing fresh g) x (calls (playing fresh g) cs)
    → PlaysFile g cs x
plays_file g cs x l p =
    let f = stream_is_file x l in
    record {
      stage = p.stage ∙ ap (played_all g) f.events;
      verdict = subst (λ (r : Reader). Says r (file x).verdict) (sym p.reader) f.verdict;
    }

pub played_count : PlayedCount
played_count a g x l =
    (replay_is_run a (playing fresh g) x).count ∙ ap (λ (es : List Captured). min a (length es)) (stream_is_file x l).events

pub calls_play_file : CallsPlayFile
calls_play_file g cs w l = plays_file g cs (joined (blocks cs)) l (all_whole (playing fresh g) cs w)

pub calls_play_read : CallsPlayRead
calls_play_read g cs left w l =
    let p = playing fresh g in
    let x = calls p cs in
    plays_file g cs (bytes_read p cs ++ left) l (then p x x (bytes_read p cs) left (all_reads p cs) (idle x left w))
