-- The bridge as a value: its settings, its core, and a column for each number that is kept by tag or by slot; a getter and a
-- setter for each. A new number by tag or by slot is a field, a getter, a setter and a line in each other one here, a line of
-- `fresh_bridge`, and a column of the code's tables (contracts/).
use Rattle.std.specs.Prelude.{ℕ, min, List, get_or, set}
use Rattle.address.specs.declared.Settings.{Settings}
use Rattle.parts.specs.Cores.{Core}
use Rattle.parts.specs.Sizes.{slot_size}

pub record Bridge : Type 0 where
  pub settings : Settings
  pub core : Core
  -- by tag: the bytes still missing, 0 where the tag is not open; the tick of sending; the slot, 8 for configuration; the
  -- place in the slot of the next byte; the PCIe address of the next byte mod 128; the kind of the request
  pub missing : List ℕ
  pub sent : List ℕ
  pub owner : List ℕ
  pub place : List ℕ
  pub next : List ℕ
  pub kind : List ℕ
  -- by slot: free, open or finished; the burst's length; the open pieces; the place of the first failure, 4,096 for none; its
  -- response in AXI's coding, 0 for none; the session in which the read was accepted
  pub state : List ℕ
  pub size : List ℕ
  pub pieces : List ℕ
  pub fault : List ℕ
  pub cause : List ℕ
  pub session : List ℕ

-- ---- what a bridge has by tag

abbrev pub missing_of : Bridge → ℕ → ℕ
missing_of b t = get_or b.missing t 0

abbrev pub sent_of : Bridge → ℕ → ℕ
sent_of b t = get_or b.sent t 0

abbrev pub owner_of : Bridge → ℕ → ℕ
owner_of b t = get_or b.owner t 0

abbrev pub place_of : Bridge → ℕ → ℕ
place_of b t = get_or b.place t 0

-- 'the next address' mod 128, of the PCIe address; a completion's lower address has no more of it
abbrev pub next_address : Bridge → ℕ → ℕ
next_address b t = get_or b.next t 0

abbrev pub kind_of : Bridge → ℕ → ℕ
kind_of b t = get_or b.kind t 0

-- ---- and by slot

abbrev pub slot_state : Bridge → ℕ → ℕ
slot_state b k = get_or b.state k 0

-- how many bytes its burst has; a slot has 4,096
abbrev pub size_of : Bridge → ℕ → ℕ
size_of b k = min (get_or b.size k 0) slot_size

abbrev pub open_pieces : Bridge → ℕ → ℕ
open_pieces b k = get_or b.pieces k 0

abbrev pub fault_of : Bridge → ℕ → ℕ
fault_of b k = get_or b.fault k 0

abbrev pub failure_of : Bridge → ℕ → ℕ
failure_of b k = get_or b.cause k 0

abbrev pub session_of : Bridge → ℕ → ℕ
session_of b k = get_or b.session k 0

-- ---- rows: all that is kept by a tag, and by a slot

pub record Tag : Type 0 where
  pub missing : ℕ
  pub sent : ℕ
  pub owner : ℕ
  pub place : ℕ
  pub next : ℕ
  pub kind : ℕ

abbrev pub tag_at : Bridge → ℕ → Tag
tag_at b t =
    record {
      missing = get_or b.missing t 0;
      sent = get_or b.sent t 0;
      owner = get_or b.owner t 0;
      place = get_or b.place t 0;
      next = get_or b.next t 0;
      kind = get_or b.kind t 0;
    }

pub record Slot : Type 0 where
  pub state : ℕ
  pub size : ℕ
  pub pieces : ℕ
  pub fault : ℕ
  pub cause : ℕ
  pub session : ℕ

abbrev pub slot_at : Bridge → ℕ → Slot
slot_at b k =
    record {
      state = get_or b.state k 0;
      size = get_or b.size k 0;
      pieces = get_or b.pieces k 0;
      fault = get_or b.fault k 0;
      cause = get_or b.cause k 0;
      session = get_or b.session k 0;
    }

-- ---- one part put anew

abbrev pub core_in : Core → Bridge → Bridge
core_in x b =
    record {
      settings = b.settings;
      core = x;
      missing = b.missing;
      sent = b.sent;
      owner = b.owner;
      place = b.place;
      next = b.next;
      kind = b.kind;
      state = b.state;
      size = b.size;
      pieces = b.pieces;
      fault = b.fault;
      cause = b.cause;
      session = b.session;
    }

abbrev pub put_missing : List ℕ → Bridge → Bridge
put_missing x b =
    record {
      settings = b.settings;
      core = b.core;
      missing = x;
      sent = b.sent;
      owner = b.owner;
      place = b.place;
      next = b.next;
      kind = b.kind;
      state = b.state;
      size = b.size;
      pieces = b.pieces;
      fault = b.fault;
      cause = b.cause;
      session = b.session;
    }

abbrev pub put_sent : List ℕ → Bridge → Bridge
put_sent x b =
    record {
      settings = b.settings;
      core = b.core;
      missing = b.missing;
      sent = x;
      owner = b.owner;
      place = b.place;
      next = b.next;
      kind = b.kind;
      state = b.state;
      size = b.size;
      pieces = b.pieces;
      fault = b.fault;
      cause = b.cause;
      session = b.session;
    }

abbrev pub put_owner : List ℕ → Bridge → Bridge
put_owner x b =
    record {
      settings = b.settings;
      core = b.core;
      missing = b.missing;
      sent = b.sent;
      owner = x;
      place = b.place;
      next = b.next;
      kind = b.kind;
      state = b.state;
      size = b.size;
      pieces = b.pieces;
      fault = b.fault;
      cause = b.cause;
      session = b.session;
    }

abbrev pub put_place : List ℕ → Bridge → Bridge
put_place x b =
    record {
      settings = b.settings;
      core = b.core;
      missing = b.missing;
      sent = b.sent;
      owner = b.owner;
      place = x;
      next = b.next;
      kind = b.kind;
      state = b.state;
      size = b.size;
      pieces = b.pieces;
      fault = b.fault;
      cause = b.cause;
      session = b.session;
    }

abbrev pub put_next : List ℕ → Bridge → Bridge
put_next x b =
    record {
      settings = b.settings;
      core = b.core;
      missing = b.missing;
      sent = b.sent;
      owner = b.owner;
      place = b.place;
      next = x;
      kind = b.kind;
      state = b.state;
      size = b.size;
      pieces = b.pieces;
      fault = b.fault;
      cause = b.cause;
      session = b.session;
    }

abbrev pub put_kind : List ℕ → Bridge → Bridge
put_kind x b =
    record {
      settings = b.settings;
      core = b.core;
      missing = b.missing;
      sent = b.sent;
      owner = b.owner;
      place = b.place;
      next = b.next;
      kind = x;
      state = b.state;
      size = b.size;
      pieces = b.pieces;
      fault = b.fault;
      cause = b.cause;
      session = b.session;
    }

abbrev pub put_state : List ℕ → Bridge → Bridge
put_state x b =
    record {
      settings = b.settings;
      core = b.core;
      missing = b.missing;
      sent = b.sent;
      owner = b.owner;
      place = b.place;
      next = b.next;
      kind = b.kind;
      state = x;
      size = b.size;
      pieces = b.pieces;
      fault = b.fault;
      cause = b.cause;
      session = b.session;
    }

abbrev pub put_size : List ℕ → Bridge → Bridge
put_size x b =
    record {
      settings = b.settings;
      core = b.core;
      missing = b.missing;
      sent = b.sent;
      owner = b.owner;
      place = b.place;
      next = b.next;
      kind = b.kind;
      state = b.state;
      size = x;
      pieces = b.pieces;
      fault = b.fault;
      cause = b.cause;
      session = b.session;
    }

abbrev pub put_pieces : List ℕ → Bridge → Bridge
put_pieces x b =
    record {
      settings = b.settings;
      core = b.core;
      missing = b.missing;
      sent = b.sent;
      owner = b.owner;
      place = b.place;
      next = b.next;
      kind = b.kind;
      state = b.state;
      size = b.size;
      pieces = x;
      fault = b.fault;
      cause = b.cause;
      session = b.session;
    }

abbrev pub put_fault : List ℕ → Bridge → Bridge
put_fault x b =
    record {
      settings = b.settings;
      core = b.core;
      missing = b.missing;
      sent = b.sent;
      owner = b.owner;
      place = b.place;
      next = b.next;
      kind = b.kind;
      state = b.state;
      size = b.size;
      pieces = b.pieces;
      fault = x;
      cause = b.cause;
      session = b.session;
    }

abbrev pub put_cause : List ℕ → Bridge → Bridge
put_cause x b =
    record {
      settings = b.settings;
      core = b.core;
      missing = b.missing;
      sent = b.sent;
      owner = b.owner;
      place = b.place;
      next = b.next;
      kind = b.kind;
      state = b.state;
      size = b.size;
      pieces = b.pieces;
      fault = b.fault;
      cause = x;
      session = b.session;
    }

abbrev pub put_session : List ℕ → Bridge → Bridge
put_session x b =
    record {
      settings = b.settings;
      core = b.core;
      missing = b.missing;
      sent = b.sent;
      owner = b.owner;
      place = b.place;
      next = b.next;
      kind = b.kind;
      state = b.state;
      size = b.size;
      pieces = b.pieces;
      fault = b.fault;
      cause = b.cause;
      session = x;
    }

-- ---- and one number of a tag or a slot

abbrev pub set_missing : ℕ → ℕ → Bridge → Bridge
set_missing t x b = put_missing (set b.missing t x) b

abbrev pub set_sent : ℕ → ℕ → Bridge → Bridge
set_sent t x b = put_sent (set b.sent t x) b

abbrev pub set_owner : ℕ → ℕ → Bridge → Bridge
set_owner t x b = put_owner (set b.owner t x) b

abbrev pub set_place : ℕ → ℕ → Bridge → Bridge
set_place t x b = put_place (set b.place t x) b

abbrev pub set_next : ℕ → ℕ → Bridge → Bridge
set_next t x b = put_next (set b.next t x) b

abbrev pub set_kind : ℕ → ℕ → Bridge → Bridge
set_kind t x b = put_kind (set b.kind t x) b

abbrev pub set_state : ℕ → ℕ → Bridge → Bridge
set_state k x b = put_state (set b.state k x) b

abbrev pub set_size : ℕ → ℕ → Bridge → Bridge
set_size k x b = put_size (set b.size k x) b

abbrev pub set_pieces : ℕ → ℕ → Bridge → Bridge
set_pieces k x b = put_pieces (set b.pieces k x) b

abbrev pub set_fault : ℕ → ℕ → Bridge → Bridge
set_fault k x b = put_fault (set b.fault k x) b

abbrev pub set_cause : ℕ → ℕ → Bridge → Bridge
set_cause k x b = put_cause (set b.cause k x) b

abbrev pub set_session : ℕ → ℕ → Bridge → Bridge
set_session k x b = put_session (set b.session k x) b
