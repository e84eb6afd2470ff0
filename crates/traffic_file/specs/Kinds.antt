-- The kinds of records (docs/TRAFFIC.md, 'Event records'): the number of each case of the enum, as in a record's kind byte.
use Rattle.std.specs.Prelude.{◌≡◌, ℕ, List, false}
use Rattle.traffic_file.specs.Records.{fixed_size, variable_size, ticks_of, lends_area, is_header, is_wrong}
use Rattle.traffic_file.specs.declared.record.Kind.{Kind}
use Rattle.traffic_file.specs.declared.record.Kind.TheVariants.{Read, Write, Config, Completion, Tick, Link, Look, Release, RequestWriter, RequestReader, CompletionWriter, CompletionReader, Message, End}

abbrev pub number_of : Kind → ℕ
number_of Read = 1
number_of Write = 2
number_of Config = 3
number_of Completion = 4
number_of Tick = 5
number_of Link = 6
number_of Look = 7
number_of Release = 8
number_of RequestWriter = 9
number_of RequestReader = 10
number_of CompletionWriter = 11
number_of CompletionReader = 12
number_of Message = 13
number_of End = 255

-- what is said of a number that no kind has
pub record IsNoKind (n : ℕ) : Type 0 where
  pub fixed : fixed_size n ≡ 0
  pub variable : (f : List ℕ) → variable_size n f ≡ 0
  pub ticks : (f : List ℕ) → ticks_of n f ≡ 0
  pub area : lends_area n ≡ false
  pub header : is_header n ≡ false
  pub right : (f : List ℕ) (most : ℕ) → is_wrong n f most ≡ false
