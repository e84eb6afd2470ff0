-- What the code's values mean: an event of numbers with the bytes of its record, and a reader with the buffer that it is lent.
use Rattle.std.specs.Prelude.{ℕ, ◌+◌, ◌-◌, min, List, Result, Ok, Err, take, drop}
use Rattle.refusals.specs.declared.Refusal.{Refusal}
use Rattle.refusals.specs.Refusals.{number_of}
use Rattle.records.specs.declared.Event.{Event}
use Rattle.records.specs.declared.Event.TheVariants as code
use Rattle.records.specs.declared.Item.{Item}
use Rattle.records.specs.declared.Item.TheVariants as item
use Rattle.records.specs.declared.Found.{Found}
use Rattle.records.specs.declared.Found.TheVariants as found
use Rattle.records.specs.declared.Reader.{Reader}
use Rattle.records.specs.Layout.{longest, head_size, field_bytes, layout_of}
use Rattle.records.specs.Events.{Captured, read, write, config_read, config_write, completion, link, tick}
use Rattle.records.specs.Events as events
use Rattle.records.specs.Writing as writing
use Rattle.records.specs.Reading.{Next, more, bad, end, event}
use Rattle.records.specs.Stream as stream

-- an event with the bytes that are lent beside it: a write's data, a completion's packet
abbrev pub captured_with : Event → List ℕ → Captured
captured_with (code.Read q) d = read q
captured_with (code.Write q) d = write q d
captured_with (code.ConfigRead offset) d = config_read offset
captured_with (code.ConfigWrite offset strobes word) d = config_write offset strobes word
captured_with code.Completion d = completion d
captured_with (code.Link up) d = link up
captured_with code.Tick d = tick
captured_with (code.Take slot) d = events.take slot

-- where these begin in a record: behind its head and fields
abbrev pub behind_fields : ℕ → ℕ
behind_fields kind = head_size + field_bytes (layout_of kind)

abbrev pub plain_at : Event → ℕ
plain_at (code.Read q) = behind_fields 1
plain_at (code.Write q) = behind_fields 2
plain_at (code.ConfigRead offset) = behind_fields 3
plain_at (code.ConfigWrite offset strobes word) = behind_fields 3
plain_at code.Completion = behind_fields 4
plain_at (code.Link up) = behind_fields 5
plain_at code.Tick = behind_fields 6
plain_at (code.Take slot) = behind_fields 7

-- the event whose record these bytes are
abbrev pub captured : Event → List ℕ → Captured
captured e s = captured_with e (drop (plain_at e) s)

abbrev pub meant : List ℕ → Found → Next
meant s found.More = more
meant s (found.Bad f) = bad f
meant s found.End = end
meant s (found.Whole e size) = event (captured e (take size s)) size

-- what the writer is asked for, with the bytes lent beside it
abbrev pub item_with : Item → List ℕ → writing.Item
item_with (item.Event e) d = writing.event (captured_with e d)
item_with (item.End n) d = writing.end n
item_with item.Message d = writing.message d

-- what the writer answers, as its definition tells it: the refusal's number, and how many bytes it filled
abbrev pub answered : Result ℕ Refusal → writing.Written
answered (Ok n) = record { number = 0; length = n }
answered (Err r) = record { number = number_of r; length = 0 }

-- ---- the reader

-- of a record that is not yet judged at most so many bytes have come
abbrev pub most_held : ℕ
most_held = longest - 1

abbrev pub reader_of : Reader → List ℕ → stream.Reader
reader_of r buffer = stream.reader r.at r.events (take (min r.have most_held) buffer) r.phase
