-- The events that a capture holds, and what of each stands in its record.
use Rattle.std.specs.Prelude.{ℕ, ◌+◌, ◌-◌, List, [], ◌∷◌, Bool, cond, get_or, eqb}
use Rattle.address.specs.Windows.{axi}
use Rattle.burst.specs.declared.Burst.{Burst}
use Rattle.tlp.specs.Bytes.{flag}

-- a configuration access has two cases: strobes and data are 'both ignored in a read'
pub data Captured : Type 0 where
  read : Burst → Captured
  write : Burst → List ℕ → Captured
  config_read : ℕ → Captured
  config_write : ℕ → ℕ → ℕ → Captured
  completion : List ℕ → Captured
  link : Bool → Captured
  tick : Captured
  take : ℕ → Captured

abbrev pub kind_of : Captured → ℕ
kind_of (read q) = 1
kind_of (write q d) = 2
kind_of (config_read offset) = 3
kind_of (config_write offset strobes word) = 3
kind_of (completion packet) = 4
kind_of (link up) = 5
kind_of tick = 6
kind_of (take slot) = 7

-- 'address 64, size code 3, beats less one 8, type 2'
abbrev pub burst_values : Burst → List ℕ
burst_values q = q.start.0 ∷ q.size ∷ (q.beats - 1) ∷ q.kind ∷ []

-- the values of its fields; a configuration read's strobes and data are 'written 0'
abbrev pub values_of : Captured → List ℕ
values_of (read q) = burst_values q
values_of (write q d) = burst_values q
values_of (config_read offset) = offset ∷ 0 ∷ 0 ∷ 0 ∷ []
values_of (config_write offset strobes word) = offset ∷ 1 ∷ strobes ∷ word ∷ []
values_of (completion packet) = []
values_of (link up) = flag up ∷ []
values_of tick = []
values_of (take slot) = slot ∷ []

-- its plain bytes
abbrev pub plain_of : Captured → List ℕ
plain_of (read q) = []
plain_of (write q d) = d
plain_of (config_read offset) = []
plain_of (config_write offset strobes word) = []
plain_of (completion packet) = packet
plain_of (link up) = []
plain_of tick = []
plain_of (take slot) = []

-- ---- and the event of a kind, values and plain bytes

abbrev pub burst_of : List ℕ → Burst
burst_of vs =
    record {
      start = axi (get_or vs 0 0);
      size = get_or vs 1 0;
      beats = get_or vs 2 0 + 1;
      kind = get_or vs 3 0;
    }

abbrev pub config_of : List ℕ → Captured
config_of vs = cond (eqb (get_or vs 1 0) 0) (config_read (get_or vs 0 0)) (config_write (get_or vs 0 0) (get_or vs 2 0) (get_or vs 3 0))

abbrev pub event_of : ℕ → List ℕ → List ℕ → Captured
event_of kind vs plain =
    cond (eqb kind 1) (read (burst_of vs))
    (cond (eqb kind 2) (write (burst_of vs) plain)
    (cond (eqb kind 3) (config_of vs)
    (cond (eqb kind 4) (completion plain)
    (cond (eqb kind 5) (link (eqb (get_or vs 0 0) 1))
    (cond (eqb kind 6) tick (take (get_or vs 0 0)))))))
