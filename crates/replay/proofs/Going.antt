-- A call in its turns.
use mathlib.Core.Path.{◌≡◌, refl, sym, ap, ◌∙◌}
use mathlib.Core.Logic.{◌≢◌}
use mathlib.Core.List.{List, [], ◌∷◌, ◌++◌, append_assoc}
use mathlib.Core.Bool.{Bool, true, false, not, ◌||◌}
use Prim.Native.Nat.{ℕ, suc, ◌+◌, ◌-◌, ◌*◌, ◌/◌, ◌<◌, ◌≤◌, zero-le}
use native.Mathlib.Nat.{zero-add, add-zero, sub-zero}
use native.Mathlib.Omega.{arith}
use native.Mathlib.Decide.{ℕ_discrete}
use borrow.Author.Tests.{eq-eqb, ne_eqb, lt-ltb, le-ltb}
use lib.ListN.{length, drop, length-append, length-drop}
use lib.Seq.{sets, sets-eq, take_at, drop-append-add, drop-drop, drop-length}
use Rattle.bits.proofs.Flags.{apart}
use Rattle.machine.specs.Memory.{filled}
use Rattle.records.specs.declared.Phase.{Phase}
use Rattle.records.specs.Stream.{is_reading}
use Rattle.replay.specs.Events.{Told, row_of, rows_of}
use Rattle.replay.specs.Play.{Playing, Played, nothing, more, halts, play, replay_number, granted}
use Rattle.replay.specs.Code.Tables.{Turned, Going, Plays}

-- ---- rows

rows_append : (ts us : List Told) → rows_of (ts ++ us) ≡ rows_of ts ++ rows_of us
rows_append [] us = refl
rows_append (t ∷ ts) us = ap (λ (x : List ℕ). row_of t ++ x) (rows_append ts us) ∙ sym (append_assoc (row_of t) (rows_of ts) (rows_of us))

length_rows : (ts : List Told) → length (rows_of ts) ≡ 7 * length ts
length_rows [] = refl
length_rows (t ∷ ts) = let h = length_rows ts in omega (arith, h)

length_filled : (r l : List ℕ) → length r ≤ length l → length (filled r l) ≡ length l
length_filled r l h = omega (arith, h, length-append r (drop (length r) l), length-drop (length r) l)

-- further rows behind those that are there
more_rows : (r q l : List ℕ) (at : ℕ) → length r ≡ at → at + length q ≤ length l → sets (filled r l) at q ≡ filled (r ++ q) l
more_rows r q l at e h =
    let b : at + length q ≤ length (filled r l) = omega (arith, h, length_filled r l (omega (arith, e, h))) in
    let d : drop (at + length q) (filled r l) ≡ drop (length (r ++ q)) l =
    ap (λ (x : ℕ). drop (x + length q) (filled r l)) (sym e)
    ∙ drop-append-add r (drop (length r) l) (length q)
    ∙ drop-drop (length q) (length r) l
    ∙ ap (λ (x : ℕ). drop x l) (sym (length-append r q))
    in
    sets-eq q (filled r l) at b
    ∙ ap (λ (x : List ℕ). x ++ q ++ drop (at + length q) (filled r l)) (take_at r (drop (length r) l) at e)
    ∙ ap (λ (x : List ℕ). r ++ q ++ x) d

-- ---- turns

more_more : (n u m v : ℕ) (x : Played) → more n u (more m v x) ≡ more (n + m) (u + v) x
more_more n u m v x =
    let a : n + (m + x.played) ≡ n + m + x.played = omega arith in
    let b : u + (v + x.used) ≡ u + v + x.used = omega arith in
    rw (a, b)

more_none : (x : Played) → more 0 0 x ≡ x
more_none x = rw (zero-add x.played, zero-add x.used)

pub going_start : (now : List Told → Playing) (input : List ℕ) (allowed : ℕ) (rows : List ℕ) → Going (play allowed (now []) input) now input allowed 0 0 rows rows
going_start now input allowed rows =
    record {
      told = [];
      goes = sym (more_none (play (allowed - 0) (now []) input) ∙ ap (λ (x : ℕ). play x (now []) input) (sub-zero allowed));
      counted = refl;
      within = zero-le;
      there = zero-le;
      rows_after = refl;
    }

pub going_on : (all : Played) (now next : List Told → Playing) (input : List ℕ) (allowed used n u m : ℕ) (rows mid later part : List ℕ) → Going all now input allowed used n rows mid → n < allowed → 7 * allowed ≤ length rows → part ≡ drop used input → Turned now next part u m mid later (7 * n) → Going all next input allowed (used + u) (n + m) rows later
going_on all now next input allowed used n u m rows mid later part g h w e t =
    let a : allowed - n ≡ suc (allowed - n - 1) = omega (arith, h) in
    let b : suc (allowed - n - 1) - m ≡ allowed - (n + m) = omega (arith, h) in
    let l : length (rows_of g.told) ≡ 7 * n = length_rows g.told ∙ ap (λ (x : ℕ). 7 * x) g.counted in
    let k : length (rows_of t.told) ≡ 7 * m = length_rows t.told ∙ ap (λ (x : ℕ). 7 * x) t.counted in
    record {
      told = g.told ++ t.told;
      goes =
          g.goes
          ∙ ap (λ (x : ℕ). more n used (play x (now g.told) (drop used input))) a
          ∙ ap (λ (x : List ℕ). more n used (play (suc (allowed - n - 1)) (now g.told) x)) (sym e)
          ∙ ap (λ (x : Played). more n used x) (t.plays g.told (allowed - n - 1))
          ∙ ap (λ (x : List ℕ). more n used (more m u (play (suc (allowed - n - 1) - m) (next (g.told ++ t.told)) (drop u x)))) e
          ∙ more_more n used m u (play (suc (allowed - n - 1) - m) (next (g.told ++ t.told)) (drop u (drop used input)))
          ∙ ap (λ (x : ℕ). more (n + m) (used + u) (play x (next (g.told ++ t.told)) (drop u (drop used input)))) b
          ∙ ap (λ (x : List ℕ). more (n + m) (used + u) (play (allowed - (n + m)) (next (g.told ++ t.told)) x)) (drop-drop u used input);
      counted = length-append g.told t.told ∙ ap (λ (x : ℕ). x + length t.told) g.counted ∙ ap (λ (x : ℕ). n + x) t.counted;
      within = omega (arith, h, t.single);
      there = omega (arith, g.there, t.there, ap length e, length-drop used input);
      rows_after =
          t.rows_after
          ∙ ap (λ (x : List ℕ). sets x (7 * n) (rows_of t.told)) g.rows_after
          ∙ more_rows (rows_of g.told) (rows_of t.told) rows (7 * n) l (omega (arith, h, w, k, t.single))
          ∙ ap (λ (x : List ℕ). filled x rows) (sym (rows_append g.told t.told));
    }

-- ---- the end of a call

stops : (all : Played) (now : List Told → Playing) (input : List ℕ) (allowed used n : ℕ) (rows later : List ℕ) → ((told : List Told) → (now told).stage.told ≡ told) → (g : Going all now input allowed used n rows later) → play (allowed - n) (now g.told) (drop used input) ≡ nothing (now g.told) → Plays all now used n rows later
stops all now input allowed used n rows later s g e =
    let w : all ≡ more n used (nothing (now g.told)) = g.goes ∙ ap (λ (x : Played). more n used x) e in
    let t : all.after.stage.told ≡ g.told = ap (λ (x : Played). x.after.stage.told) w ∙ s g.told in
    record {
      leaves = ap (λ (x : Played). x.after) w ∙ ap now (sym t);
      reads = ap (λ (x : Played). x.used) w ∙ add-zero used;
      counts = ap (λ (x : Played). x.played) w ∙ add-zero n;
      rows_after = g.rows_after ∙ ap (λ (x : List Told). filled (rows_of x) rows) (sym t);
    }

halted_play : (allowed : ℕ) (p : Playing) (s : List ℕ) → halts allowed p.reader.phase ≡ true → play allowed p s ≡ nothing p
halted_play allowed p [] e = refl
halted_play allowed p (b ∷ s) e = rw e

pub stops_halted : (all : Played) (now : List Told → Playing) (input : List ℕ) (allowed used n : ℕ) (rows later : List ℕ) → ((told : List Told) → (now told).stage.told ≡ told) → (g : Going all now input allowed used n rows later) → halts (allowed - n) (now g.told).reader.phase ≡ true → Plays all now used n rows later
stops_halted all now input allowed used n rows later s g h =
    stops all now input allowed used n rows later s g (halted_play (allowed - n) (now g.told) (drop used input) h)

pub record Goes (allowed played : ℕ) (p : Phase) : Type 0 where
  pub fewer : played < allowed
  pub reading : is_reading p ≡ true

pub not_halted : (allowed played : ℕ) (p : Phase) → halts (allowed - played) p ≡ false → Goes allowed played p
not_halted allowed played p e = go (ℕ_discrete (allowed - played) 0) (is_reading p) refl
  where
    go : Dec (allowed - played ≡ 0) → (b : Bool) → is_reading p ≡ b → Goes allowed played p
    go (yes z) b f = absurd (apart (sym e ∙ ap (λ (x : Bool). x || not (is_reading p)) (eq-eqb (allowed - played) 0 z)))
    go (no z) true f = record { fewer = omega (arith, z); reading = f }
    go (no z) false f = absurd (apart (sym e ∙ ap (λ (x : Bool). x || not (is_reading p)) (ne_eqb (allowed - played) 0 z) ∙ ap not f))

-- ---- a refused call

pub refused_held : (held rows allowed : ℕ) → held < 4115 → replay_number held rows allowed ≡ 8
refused_held held rows allowed h = rw (lt-ltb held 4115 h)

pub refused_rows : (held rows allowed : ℕ) → 4115 ≤ held → rows / 7 < allowed → replay_number held rows allowed ≡ 8
refused_rows held rows allowed h k = rw (le-ltb held 4115 h, lt-ltb (rows / 7) allowed k)

-- it plays nothing
pub plays_none : (now : List Told → Playing) (input : List ℕ) (number allowed : ℕ) (rows : List ℕ) → ((told : List Told) → (now told).stage.told ≡ told) → number ≢ 0 → Plays (play (granted number allowed) (now []) input) now 0 0 rows rows
plays_none now input number allowed rows s h =
    rw (ne_eqb number 0 h) (stops_halted (play 0 (now []) input) now input 0 0 0 rows rows s (going_start now input 0 rows) refl)
