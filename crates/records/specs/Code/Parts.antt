-- A record between its event and its bytes: a few numbers.
use Rattle.std.specs.Prelude.{ℕ, ◌+◌, ◌-◌, ◌*◌, ◌/◌, ◌%◌, ◌^◌, ◌≤◌, ◌≡◌, List, ◌∷◌, ◌++◌, true, false, length, take, Option, None, Some}
use Rattle.burst.specs.declared.Burst.{Burst}
use Rattle.tlp.specs.Bytes.{bytes}
use Rattle.records.specs.declared.kind.Kind.{Kind}
use Rattle.records.specs.declared.kind.Kind.TheVariants.{End, Config}
use Rattle.records.specs.declared.writing.Parts.{Parts}
use Rattle.records.specs.Layout.{layout_of}
use Rattle.records.specs.Writing.{Item, can_hold, item_bytes}
use Rattle.records.specs.Code.Kinds.{kind_number}

abbrev pub config_fields : List ℕ
config_fields = (layout_of 3).fields

-- ---- the numbers of each kind

abbrev pub burst_low : Burst → ℕ
burst_low q = q.size * 2 ^ 13 + (q.beats - 1) * 2 ^ 5 + q.kind * 2 ^ 3

abbrev pub config_high : ℕ → ℕ → ℕ → ℕ → ℕ
config_high offset write strobes word = offset * 2 ^ 36 + write * 2 ^ 35 + strobes * 2 ^ 31 + word / 2

abbrev pub burst_parts : Kind → Burst → ℕ → Parts
burst_parts kind q plain = record { kind = kind; high = q.start.0; low = burst_low q; length = 10; plain = plain }

abbrev pub config_parts : ℕ → ℕ → ℕ → ℕ → Parts
config_parts offset write strobes word =
    record { kind = Config; high = config_high offset write strobes word; low = word % 2 * 2 ^ 15; length = 9; plain = 0 }

abbrev pub byte_parts : Kind → ℕ → Parts
byte_parts kind byte = record { kind = kind; high = byte * 2 ^ 56; low = 0; length = 1; plain = 0 }

abbrev pub plain_parts : Kind → ℕ → Parts
plain_parts kind plain = record { kind = kind; high = 0; low = 0; length = 0; plain = plain }

abbrev pub end_parts : ℕ → Parts
end_parts high = record { kind = End; high = high; low = 0; length = 4; plain = 0 }

-- ---- their bytes

-- what of them has a bound
pub record Small (p : Parts) (d : List ℕ) : Type 0 where
  pub fields : p.length ≤ 10
  pub plain : p.plain ≤ 4112
  pub there : p.plain ≤ length d

-- the head, and the fields as far as they go
abbrev pub front_bytes : Parts → List ℕ
front_bytes p =
    (kind_number p.kind * 16) ∷ bytes 2 (p.length + p.plain) ++ take p.length (bytes 8 p.high ++ bytes 2 p.low)

abbrev pub laid_out : Parts → List ℕ → List ℕ
laid_out p d = front_bytes p ++ take p.plain d

-- ---- the numbers of what the layout can hold, or none

abbrev pub Lays : Option Parts → Item → List ℕ → Type 0
Lays None i d = can_hold i ≡ false
Lays (Some p) i d = (can_hold i ≡ true) × ((laid_out p d ≡ item_bytes i) × Small p d)
