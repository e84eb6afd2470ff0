-- The streaming reader over any cutting of a file (02, A5; readings C1 and C2).
use Rattle.std.specs.Prelude.{ℕ, ◌^◌, ◌<◌, ◌≤◌, ◌≡◌, ◌⊎◌, List, [], ◌∷◌, ◌++◌, false, length, take}
use Rattle.std.proofs.Math.Option.{none}
use Rattle.records.specs.declared.Phase.TheVariants as phase
use Rattle.records.specs.File as file
use Rattle.records.specs.File.{Verdict, ended, cut, file}
use Rattle.records.specs.Stream.{Reader, fresh, is_reading, fed, listed, feed, feed_all, Came, next_event}

-- ---- C1: any cutting

abbrev pub joined : List (List ℕ) → List ℕ
joined [] = []
joined (s ∷ rest) = s ++ joined rest

-- for every state of a reader: two parts in turn are the same as both at once
abbrev pub AnyCut : Type 0
AnyCut =
    (r : Reader) (s t : List ℕ)
    → feed r (s ++ t) ≡ fed (feed (feed r s).reader t).reader ((feed r s).events ++ (feed (feed r s).reader t).events)

-- and so are any number of parts, empty ones too
abbrev pub AnyCutting : Type 0
AnyCutting = (r : Reader) (parts : List (List ℕ)) → feed_all r parts ≡ feed r (joined parts)

-- ---- C2: it is the file's reader

-- what a reader says of a file's verdict
abbrev pub Says : Reader → Verdict → Type 0
Says r (ended n) = (r.phase ≡ phase.Ended) × (r.events ≡ n)
Says r (cut n) = (r.phase ≡ phase.Reading) × (r.events ≡ n)
Says r (file.bad f at) = (r.phase ≡ phase.Bad f) × (r.at ≡ at)

pub record ReadsFile (s : List ℕ) : Type 0 where
  pub events : (feed fresh s).events ≡ (file s).events
  pub verdict : Says (feed fresh s).reader (file s).verdict

-- of every file shorter than 2^64 bytes
abbrev pub StreamIsFile : Type 0
StreamIsFile = (s : List ℕ) → length s < 2 ^ 64 → ReadsFile s

-- ---- up to one event

-- `next_event`, which a call of the reader gives, reads as `feed` does, a first part of the bytes
pub record Feeds (r : Reader) (s : List ℕ) (c : Came) : Type 0 where
  pub within : c.used ≤ length s
  pub read : feed r (take c.used s) ≡ fed c.reader (listed c.event)
  -- it stops at the first event
  pub first : (j : ℕ) → j < c.used → (feed r (take j s)).events ≡ []
  -- and without one at the end of the bytes, or at an end or a fault
  pub stops : c.event ≡ none → (c.used ≡ length s) ⊎ (is_reading c.reader.phase ≡ false)

abbrev pub NextIsFeed : Type 0
NextIsFeed = (r : Reader) (s : List ℕ) → Feeds r s (next_event r s)
