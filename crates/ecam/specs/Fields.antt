-- The registers as a value, and one setter for each. A new register is a line in each of these, in `fresh`, in the struct of
-- the code and in what the struct means (Code/Struct.antt).
use Rattle.std.specs.Prelude.{ℕ, List, Bool}

pub record Registers : Type 0 where
  -- 018
  pub primary : ℕ
  pub secondary : ℕ
  pub subordinate : ℕ
  -- 134 bit 8
  pub disable : Bool
  -- 138 and 13C
  pub decode : ℕ
  pub mask : ℕ
  -- 144 bit 11
  pub link : Bool
  -- the queued error messages, oldest first: 154 and 148 bit 16
  pub errors : List ℕ
  -- 148 bit 17
  pub overflow : Bool

abbrev pub with_primary : Registers → ℕ → Registers
with_primary r x =
    record {
      primary = x;
      secondary = r.secondary;
      subordinate = r.subordinate;
      disable = r.disable;
      decode = r.decode;
      mask = r.mask;
      link = r.link;
      errors = r.errors;
      overflow = r.overflow;
    }

abbrev pub with_secondary : Registers → ℕ → Registers
with_secondary r x =
    record {
      primary = r.primary;
      secondary = x;
      subordinate = r.subordinate;
      disable = r.disable;
      decode = r.decode;
      mask = r.mask;
      link = r.link;
      errors = r.errors;
      overflow = r.overflow;
    }

abbrev pub with_subordinate : Registers → ℕ → Registers
with_subordinate r x =
    record {
      primary = r.primary;
      secondary = r.secondary;
      subordinate = x;
      disable = r.disable;
      decode = r.decode;
      mask = r.mask;
      link = r.link;
      errors = r.errors;
      overflow = r.overflow;
    }

abbrev pub with_disable : Registers → Bool → Registers
with_disable r x =
    record {
      primary = r.primary;
      secondary = r.secondary;
      subordinate = r.subordinate;
      disable = x;
      decode = r.decode;
      mask = r.mask;
      link = r.link;
      errors = r.errors;
      overflow = r.overflow;
    }

abbrev pub with_decode : Registers → ℕ → Registers
with_decode r x =
    record {
      primary = r.primary;
      secondary = r.secondary;
      subordinate = r.subordinate;
      disable = r.disable;
      decode = x;
      mask = r.mask;
      link = r.link;
      errors = r.errors;
      overflow = r.overflow;
    }

abbrev pub with_mask : Registers → ℕ → Registers
with_mask r x =
    record {
      primary = r.primary;
      secondary = r.secondary;
      subordinate = r.subordinate;
      disable = r.disable;
      decode = r.decode;
      mask = x;
      link = r.link;
      errors = r.errors;
      overflow = r.overflow;
    }

abbrev pub with_link : Registers → Bool → Registers
with_link r x =
    record {
      primary = r.primary;
      secondary = r.secondary;
      subordinate = r.subordinate;
      disable = r.disable;
      decode = r.decode;
      mask = r.mask;
      link = x;
      errors = r.errors;
      overflow = r.overflow;
    }

abbrev pub with_errors : Registers → List ℕ → Registers
with_errors r x =
    record {
      primary = r.primary;
      secondary = r.secondary;
      subordinate = r.subordinate;
      disable = r.disable;
      decode = r.decode;
      mask = r.mask;
      link = r.link;
      errors = x;
      overflow = r.overflow;
    }

abbrev pub with_overflow : Registers → Bool → Registers
with_overflow r x =
    record {
      primary = r.primary;
      secondary = r.secondary;
      subordinate = r.subordinate;
      disable = r.disable;
      decode = r.decode;
      mask = r.mask;
      link = r.link;
      errors = r.errors;
      overflow = x;
    }
