-- The writer: one record a call, an event's or the end's.
use Rattle.std.specs.Prelude.{ℕ, ◌+◌, List, [], ◌∷◌, ◌++◌, Bool, true, false, cond, ◌&&◌, length, drop, ltb, leb, eqb}
use Rattle.refusals.specs.Table.{too_short, malformed}
use Rattle.records.specs.Layout.{layout_of, field_bytes, fit, length_fits, record_bytes}
use Rattle.records.specs.Events.{Captured, read, write, config_read, config_write, completion, link, tick, take, kind_of, values_of, plain_of}

-- what a caller asks to write. A message has no kind here, 'an event this layout cannot hold'
pub data Item : Type 0 where
  event : Captured → Item
  end : ℕ → Item
  message : List ℕ → Item

-- beats are written less one: there is no record of none
abbrev pub some_beats : Captured → Bool
some_beats (read q) = leb 1 q.beats
some_beats (write q d) = leb 1 q.beats
some_beats (config_read offset) = true
some_beats (config_write offset strobes word) = true
some_beats (completion packet) = true
some_beats (link up) = true
some_beats tick = true
some_beats (take slot) = true

-- each value fits its field, and the body's length its kind
abbrev pub fits_kind : ℕ → List ℕ → List ℕ → Bool
fits_kind kind values plain =
    fit (layout_of kind).fields values && length_fits (layout_of kind) (field_bytes (layout_of kind) + length plain)

unfoldable pub holds : Captured → Bool
holds e = some_beats e && fits_kind (kind_of e) (values_of e) (plain_of e)

abbrev pub can_hold : Item → Bool
can_hold (event e) = holds e
can_hold (end n) = fits_kind 0 (n ∷ []) []
can_hold (message m) = false

unfoldable pub record_of : Captured → List ℕ
record_of e = record_bytes (kind_of e) (values_of e) (plain_of e)

unfoldable pub end_record : ℕ → List ℕ
end_record n = record_bytes 0 (n ∷ []) []

abbrev pub item_bytes : Item → List ℕ
item_bytes (event e) = record_of e
item_bytes (end n) = end_record n
item_bytes (message m) = []

-- '12 for an event this layout cannot hold, then 8 for too short an area': shorter than this record
abbrev pub write_refusal : Item → ℕ → ℕ
write_refusal i room = cond (can_hold i) (cond (ltb room (length (item_bytes i))) too_short 0) malformed

pub record Written : Type 0 where
  pub number : ℕ
  pub length : ℕ

-- its number, and how many bytes it filled
unfoldable pub written : Item → ℕ → Written
written i room =
    record {
      number = write_refusal i room;
      length = cond (eqb (write_refusal i room) 0) (length (item_bytes i)) 0;
    }

-- the record fills a prefix and the rest stays; a refusal changes nothing
unfoldable pub area_after : Item → List ℕ → List ℕ
area_after i area =
    cond (eqb (write_refusal i (length area)) 0) (item_bytes i ++ drop (length (item_bytes i)) area) area
