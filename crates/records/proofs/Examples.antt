-- The examples compute.
use mathlib.Core.Path.{refl}
use Rattle.records.specs.Layout.{record_bytes}
use Rattle.records.specs.Writing.{record_of, end_record}
use Rattle.records.specs.Reading.{whole, next}
use Rattle.records.specs.Examples.{Records, Files}

pub records : Records
unfolding record_bytes record_of end_record
records =
    record {
      end_record_lem = refl;
      read_record = refl;
      write_record = refl;
      config_read_record = refl;
      config_write_record = refl;
      completion_record = refl;
      link_record = refl;
      tick_record = refl;
      take_record = refl;
    }

pub files : Files
unfolding whole next
files =
    record {
      three_lines = refl;
      no_end = refl;
      empty = refl;
      bad_length = refl;
      not_yet = refl;
      bad_padding = refl;
      bad_kind = refl;
      two_bytes = refl;
      bad_count = refl;
      ignored = refl;
      behind_end = refl;
    }
