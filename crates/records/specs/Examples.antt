-- Examples of records and files, by their bytes (02, A5, and its readings).
use Rattle.std.specs.Prelude.{ℕ, ◌≡◌, List, [], ◌∷◌, true}
use Rattle.address.specs.Windows.{axi}
use Rattle.burst.specs.declared.Burst.{Burst}
use Rattle.records.specs.declared.Fault.TheVariants.{Kind, Length, Padding, Count}
use Rattle.records.specs.Events.{Captured, read, write, config_read, config_write, completion, link, tick}
use Rattle.records.specs.Events as events
use Rattle.records.specs.Writing.{record_of, end_record}
use Rattle.records.specs.File.{Verdict, ended, cut, bad, File, file}

abbrev pub incr : ℕ → ℕ → ℕ → Burst
incr start z beats = record { start = axi start; size = z; beats = beats; kind = 1 }

abbrev pub file_of : List Captured → Verdict → File
file_of es v = record { events = es; verdict = v }

-- the record of each kind
pub record Records : Type 0 where
  pub end_record_lem : end_record 1 ≡ (0x00 ∷ 0x00 ∷ 0x04 ∷ 0x00 ∷ 0x00 ∷ 0x00 ∷ 0x01 ∷ [])
  pub read_record :
      record_of (read (incr 0x12340ABC 2 1))
      ≡ (0x10 ∷ 0x00 ∷ 0x0A ∷ 0x00 ∷ 0x00 ∷ 0x00 ∷ 0x00 ∷ 0x12 ∷ 0x34 ∷ 0x0A ∷ 0xBC ∷ 0x40 ∷ 0x08 ∷ [])
  pub write_record :
      record_of (write (incr 0x12340ABD 0 2) (0x5A ∷ 0xA5 ∷ []))
      ≡ (0x20 ∷ 0x00 ∷ 0x0C ∷ 0x00 ∷ 0x00 ∷ 0x00 ∷ 0x00 ∷ 0x12 ∷ 0x34 ∷ 0x0A ∷ 0xBD ∷ 0x00 ∷ 0x28 ∷ 0x5A ∷ 0xA5 ∷ [])
  pub config_read_record :
      record_of (config_read 0x00100000)
      ≡ (0x30 ∷ 0x00 ∷ 0x09 ∷ 0x01 ∷ 0x00 ∷ 0x00 ∷ 0x00 ∷ 0x00 ∷ 0x00 ∷ 0x00 ∷ 0x00 ∷ 0x00 ∷ [])
  pub config_write_record :
      record_of (config_write 0x138 0xF 0xFFFFFFFF)
      ≡ (0x30 ∷ 0x00 ∷ 0x09 ∷ 0x00 ∷ 0x00 ∷ 0x13 ∷ 0x8F ∷ 0xFF ∷ 0xFF ∷ 0xFF ∷ 0xFF ∷ 0x80 ∷ [])
  pub completion_record :
      record_of (completion (0x0A ∷ 0x00 ∷ 0x00 ∷ 0x00 ∷ 0x00 ∷ 0x00 ∷ 0x20 ∷ 0x04 ∷ 0x00 ∷ 0x00 ∷ 0x00 ∷ 0x00 ∷ []))
      ≡ (0x40 ∷ 0x00 ∷ 0x0C ∷ 0x0A ∷ 0x00 ∷ 0x00 ∷ 0x00 ∷ 0x00 ∷ 0x00 ∷ 0x20 ∷ 0x04 ∷ 0x00 ∷ 0x00 ∷ 0x00 ∷ 0x00 ∷ [])
  pub link_record : record_of (link true) ≡ (0x50 ∷ 0x00 ∷ 0x01 ∷ 0x80 ∷ [])
  pub tick_record : record_of tick ≡ (0x60 ∷ 0x00 ∷ 0x00 ∷ [])
  pub take_record : record_of (events.take 15) ≡ (0x70 ∷ 0x00 ∷ 0x01 ∷ 0xF0 ∷ [])

-- whole files, and each fault when it is known
pub record Files : Type 0 where
  pub three_lines :
      file (0x50 ∷ 0x00 ∷ 0x01 ∷ 0x80 ∷ 0x00 ∷ 0x00 ∷ 0x04 ∷ 0x00 ∷ 0x00 ∷ 0x00 ∷ 0x01 ∷ []) ≡ file_of (link true ∷ []) (ended 1)
  pub no_end : file (0x50 ∷ 0x00 ∷ 0x01 ∷ 0x80 ∷ []) ≡ file_of (link true ∷ []) (cut 1)
  pub empty : file [] ≡ file_of [] (cut 0)
  pub bad_length : file (0x51 ∷ 0x00 ∷ 0x02 ∷ []) ≡ file_of [] (bad Length 0)
  pub not_yet : file (0x51 ∷ 0x00 ∷ 0x01 ∷ []) ≡ file_of [] (cut 0)
  pub bad_padding : file (0x51 ∷ 0x00 ∷ 0x01 ∷ 0x80 ∷ []) ≡ file_of [] (bad Padding 0)
  pub bad_kind : file (0x80 ∷ []) ≡ file_of [] (bad Kind 0)
  pub two_bytes : file (0x60 ∷ 0x01 ∷ []) ≡ file_of [] (cut 0)
  pub bad_count :
      file (0x60 ∷ 0x00 ∷ 0x00 ∷ 0x00 ∷ 0x00 ∷ 0x04 ∷ 0x00 ∷ 0x00 ∷ 0x00 ∷ 0x02 ∷ []) ≡ file_of (tick ∷ []) (bad Count 3)
  -- a configuration read's strobes and data are ignored
  pub ignored :
      file (0x30 ∷ 0x00 ∷ 0x09 ∷ 0x00 ∷ 0x00 ∷ 0x13 ∷ 0x87 ∷ 0xFF ∷ 0xFF ∷ 0xFF ∷ 0xFF ∷ 0x80 ∷ [])
      ≡ file_of (config_read 0x138 ∷ []) (cut 1)
  -- bytes after the end are not read
  pub behind_end :
      file (0x00 ∷ 0x00 ∷ 0x04 ∷ 0x00 ∷ 0x00 ∷ 0x00 ∷ 0x00 ∷ 0x80 ∷ []) ≡ file_of [] (ended 0)
