-- What replay promises (02, A5; readings C3 and C4).
use Rattle.std.specs.Prelude.{ℕ, ◌+◌, ◌<◌, ◌^◌, min, ◌≡◌, ◌⊎◌, List, [], ◌∷◌, ◌++◌, map, true, false, length, take, drop}
use Rattle.machine.specs.Completions.{Held}
use Rattle.records.specs.File.{file}
use Rattle.records.specs.Stream.{Reader, fresh, is_reading, feed}
use Rattle.replay.specs.Events.{Told, Stage, stage, played_all}
use Rattle.replay.specs.Play.{Playing, playing, Played, more, play}
use Rattle.replay_laws.specs.Stream.{joined, Says}

-- C3, of x, what a call gives. 'The smaller of that number and those complete in its input before the end or the first bad record';
-- the bridge, the store, the area and the answers are those of these events in turn, and the reader's state that of the bytes that
-- were read
pub record Replays (allowed : ℕ) (p : Playing) (s : List ℕ) (x : Played) : Type 0 where
  pub count : x.played ≡ min allowed (length (feed p.reader s).events)
  pub stage : x.after.stage ≡ played_all p.stage (take x.played (feed p.reader s).events)
  pub reader : x.after.reader ≡ (feed p.reader (take x.used s)).reader
  -- the bytes that were read complete just the events that were played
  pub events : (feed p.reader (take x.used s)).events ≡ take x.played (feed p.reader s).events
  -- it reads no further than it must: fewer bytes complete fewer events than are allowed, and meet no end or fault
  pub least :
      (j : ℕ) → j < x.used
      → (length (feed p.reader (take j s)).events < allowed) × (is_reading (feed p.reader (take j s)).reader.phase ≡ true)
  -- and stops before the end of its input for one of two reasons
  pub stops : (x.used ≡ length s) ⊎ ((x.played ≡ allowed) ⊎ (is_reading x.after.reader.phase ≡ false))

abbrev pub ReplayIsRun : Type 0
ReplayIsRun = (allowed : ℕ) (p : Playing) (s : List ℕ) → Replays allowed p s (play allowed p s)

-- C4. Two calls, the second on what the first has not read, are one call with both allowances
abbrev pub AllowancesAdd : Type 0
AllowancesAdd =
    (a b : ℕ) (p : Playing) (s : List ℕ)
    → play (a + b) p s
    ≡ more (play a p s).played (play a p s).used (play b (play a p s).after (drop (play a p s).used s))

-- allowance 0 plays nothing, judges nothing and reads no byte
abbrev pub NothingAllowed : Type 0
NothingAllowed = (p : Playing) (s : List ℕ) → play 0 p s ≡ record { after = p; played = 0; used = 0 }

-- what was told before a call changes nothing in it, and stands in front of what it tells
abbrev pub told_first : List Told → Stage → Stage
told_first earlier g = stage g.held g.area (earlier ++ g.told)

abbrev pub played_after : List Told → Played → Played
played_after earlier x =
    record { after = playing x.after.reader (told_first earlier x.after.stage); played = x.played; used = x.used }

abbrev pub ToldBefore : Type 0
ToldBefore =
    (allowed : ℕ) (r : Reader) (h : Held) (area : List ℕ) (earlier : List Told) (s : List ℕ)
    → play allowed (playing r (stage h area earlier)) s ≡ played_after earlier (play allowed (playing r (stage h area [])) s)

-- ---- a whole file, in any blocks and with any allowances

pub record Call : Type 0 where
  pub allowed : ℕ
  pub block : List ℕ

abbrev pub blocks : List Call → List (List ℕ)
blocks cs = map (λ (c : Call). c.block) cs

-- each call on what the last left
abbrev pub calls : Playing → List Call → Playing
calls p [] = p
calls p (c ∷ cs) = calls (play c.allowed p c.block).after cs

-- 'the returned number equals the definition's count of complete events', or the allowance where that is less
abbrev pub PlayedCount : Type 0
PlayedCount =
    (allowed : ℕ) (g : Stage) (x : List ℕ) → length x < 2 ^ 64
    → (play allowed (playing fresh g) x).played ≡ min allowed (length (file x).events)

-- from a fresh reader: the events played are those that the definition reads from the bytes x, and the reader says its verdict
pub record PlaysFile (g : Stage) (cs : List Call) (x : List ℕ) : Type 0 where
  pub stage : (calls (playing fresh g) cs).stage ≡ played_all g (file x).events
  pub verdict : Says (calls (playing fresh g) cs).reader (file x).verdict

-- where each call read its whole block, or met the end or a fault there or before, x is all that they were lent
abbrev pub AllRead : Playing → List Call → Type 0
AllRead p [] = Unit
AllRead p (c ∷ cs) =
    let x = play c.allowed p c.block in
    ((x.used ≡ length c.block) ⊎ (is_reading x.after.reader.phase ≡ false)) × AllRead x.after cs

abbrev pub CallsPlayFile : Type 0
CallsPlayFile =
    (g : Stage) (cs : List Call) → AllRead (playing fresh g) cs
    → length (joined (blocks cs)) < 2 ^ 64 → PlaysFile g cs (joined (blocks cs))

-- where a call may leave bytes, which the next is lent again, x is all that they read, and what was left at last; that is nothing, or
-- stands behind the end or a fault
abbrev pub bytes_read : Playing → List Call → List ℕ
bytes_read p [] = []
bytes_read p (c ∷ cs) =
    let x = play c.allowed p c.block in
    take x.used c.block ++ bytes_read x.after cs

abbrev pub CallsPlayRead : Type 0
CallsPlayRead =
    (g : Stage) (cs : List Call) (left : List ℕ)
    → (left ≡ []) ⊎ (is_reading (calls (playing fresh g) cs).reader.phase ≡ false)
    → length (bytes_read (playing fresh g) cs ++ left) < 2 ^ 64
    → PlaysFile g cs (bytes_read (playing fresh g) cs ++ left)
