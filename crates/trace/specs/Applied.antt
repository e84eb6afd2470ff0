-- The claims of demand 3 at the example: what each asks holds there (the records `At..`), and what each then says.
use Rattle.std.specs.Prelude.{ℕ, ◌+◌, ◌≤◌, ◌<◌, ◌≡◌, List, [], ◌∷◌, ◌++◌, map, true, false, length, replicate}
use Rattle.machine.specs.State.{free_slot, registers_of}
use Rattle.machine.specs.Memory.{area_size, pieces_of, piece_of, read_refusal}
use Rattle.machine.specs.Config.{Access, access_of, route_of, goes_out, config_refusal}
use Rattle.machine.specs.Completions.{store_size, Held}
use Rattle.machine.specs.Take.{looked}
use Rattle.trace.specs.Events.{read, config, Event, call, completion, tick, link, look, release, step, run, start, seen}
use Rattle.trace.specs.FarSide.{requests, paired, FarSide}
use Rattle.trace.specs.Claims.{Answered, AnsweredOkay, Untaken, Until, sent_for, Bytes, ticks, ReadDeadline, ConfigDeadline, Steady, good_bytes, ReadOkay, any_good_word, ConfigOkay, LocalOkay, Left, seen_apart, Alike}
use Rattle.trace.specs.Example.{settings, store, begun, four, ten, set_buses, on_bus1, g1, sent, before, during, to_config, events, ten_bytes}

-- ---- the read of ten bytes: it is called here, takes slot 0 and is answered there

abbrev pub here : Held
here = run begun before

abbrev pub called : Held
called = (step here (call (read ten area_size))).after

abbrev pub there : Held
there = run called during

pub record AtTen : Type 0 where
  pub long : store_size ≤ length store
  pub far : FarSide sent begun (before ++ call (read ten area_size) ∷ during)
  pub taken : read_refusal here.bridge ten area_size ≡ 0
  pub slot : free_slot here.bridge ≡ 0
  pub untaken : Untaken 0 called during
  pub okay : AnsweredOkay 0 there
  pub young : ticks during < here.bridge.settings.limit
  pub steady : Steady during
  pub good :
      (j : ℕ) → j < pieces_of here.bridge.settings.reads ten
      → good_bytes here.bridge.settings.requester (paired (requests begun before + j) during)
      ≡ (piece_of here.bridge.settings.reads ten j).length
  -- what the lists of its two requests send
  pub bytes : sent_for sent (requests begun before) here.bridge ten ≡ ten_bytes

-- the look's bytes are those sent; and the read is answered OKAY in time
abbrev pub BytesThere : Type 0
BytesThere = Bytes → looked there.bridge there.store 0 ≡ ten_bytes

abbrev pub OkayThere : Type 0
OkayThere = ReadOkay → Until (AnsweredOkay 0) 0 called during

-- ---- the routed configuration read: it is answered OKAY, and by the second tick whatever comes

abbrev pub at_config : Held
at_config = run begun to_config

abbrev pub routed : Held
routed = (step at_config (call (config on_bus1 area_size))).after

pub record AtWord : Type 0 where
  pub far : FarSide sent begun (to_config ++ call (config on_bus1 area_size) ∷ completion 6 g1 ∷ [])
  pub taken : config_refusal at_config.bridge on_bus1 area_size ≡ 0
  pub out : goes_out (route_of at_config.bridge on_bus1) ≡ true
  pub young : ticks (completion 6 g1 ∷ []) < at_config.bridge.settings.limit
  pub steady : Steady (completion 6 g1 ∷ [])
  pub good :
      any_good_word at_config.bridge.settings.requester on_bus1.write
      (paired (requests begun to_config) (completion 6 g1 ∷ [])) ≡ true
  -- T ticks
  pub late : at_config.bridge.settings.limit ≤ ticks (tick ∷ tick ∷ [])

abbrev pub WordThere : Type 0
WordThere = ConfigOkay → Until (AnsweredOkay 8) 8 routed (completion 6 g1 ∷ [])

abbrev pub WordEnds : Type 0
WordEnds = ConfigDeadline → Until (Answered 8) 8 routed (tick ∷ tick ∷ [])

-- ---- the local configuration write: it is answered OKAY at once

abbrev pub to_buses : List Event
to_buses = before ++ call (read ten area_size) ∷ during ++ call (look 0) ∷ call (release 0) ∷ []

abbrev pub at_buses : Held
at_buses = run begun to_buses

pub record AtLocal : Type 0 where
  pub taken : config_refusal at_buses.bridge set_buses area_size ≡ 0
  pub stays : goes_out (route_of at_buses.bridge set_buses) ≡ false

abbrev pub LocalThere : Type 0
LocalThere = LocalOkay → AnsweredOkay 8 (step at_buses (call (config set_buses area_size))).after

-- ---- the first read, to which nothing comes in time

abbrev pub up : Held
up = run begun (link true ∷ [])

abbrev pub first : Held
first = (step up (call (read four area_size))).after

pub record AtFirst : Type 0 where
  pub taken : read_refusal up.bridge four area_size ≡ 0
  pub slot : free_slot up.bridge ≡ 0
  -- T ticks
  pub late : up.bridge.settings.limit ≤ ticks (tick ∷ call (look 0) ∷ tick ∷ [])

abbrev pub ReadEnds : Type 0
ReadEnds = ReadDeadline → Until (Answered 0) 0 first (tick ∷ call (look 0) ∷ tick ∷ [])

-- ---- the bridge after the list and a link drop, its causes cleared, after two lives of the link; and another that has only
-- been given its bus numbers, one tick after the start, with a longer store of other bytes, whose link has never gone up

abbrev pub clear_causes : Access
clear_causes = access_of 0x138 true 0xF 0xFFFFFFFF

abbrev pub old : Held
old = run begun (events ++ link false ∷ call (config clear_causes area_size) ∷ call (release 8) ∷ [])

abbrev pub new : Held
new = run (start settings (replicate 40000 9)) (tick ∷ call (config set_buses area_size) ∷ call (release 8) ∷ [])

pub record AtAlike : Type 0 where
  pub left_old : Left old
  pub left_new : Left new
  pub settings : old.bridge.settings ≡ new.bridge.settings
  pub registers : registers_of old.bridge ≡ registers_of new.bridge
  pub counter_old : old.bridge.core.session ≡ 2
  pub counter_new : new.bridge.core.session ≡ 0

abbrev pub AlikeThere : Type 0
AlikeThere = Alike → (later : List Event) → map seen_apart (seen old later) ≡ map seen_apart (seen new later)

-- ---- all

pub record Applied : Type 0 where
  pub at_ten : AtTen
  pub bytes : BytesThere
  pub okay : OkayThere
  pub at_word : AtWord
  pub word : WordThere
  pub word_ends : WordEnds
  pub at_local : AtLocal
  pub local : LocalThere
  pub at_first : AtFirst
  pub read_ends : ReadEnds
  pub at_alike : AtAlike
  pub alike : AlikeThere
