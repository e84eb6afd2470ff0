-- Without the queue in its premise the third claim is false: two bridges that every word shows alike, with another second entry,
-- differ after one write to 154.
use Prim.Native.Nat.{ℕ}
use native.Mathlib.Omega.{arith}
use mathlib.Core.Path.{◌≡◌, refl, sym, ap, ◌∙◌}
use mathlib.Core.List.{List, [], ◌∷◌}
use mathlib.Core.Bool.{true, false}
use lib.ListN.{replicate}
use borrow.Author.Tests.{leb-true}
use Rattle.bits.specs.Bits.{bit, is_set, from_bits, set_bit}
use Rattle.address.specs.Settings.{example_settings, power_among, each_from, window_right, apart, windows_right, settings_right, settings_number}
use Rattle.messages.specs.Queue.{oldest}
use Rattle.messages.specs.Layout.{is_error_message, entry_of}
use Rattle.ecam.specs.Registers.{Registers, some, decode_bits, is_decode_bit, byte, strobe, strobed, status, local_read, local_write, raised, messaged, fresh, with_decode, with_errors}
use Rattle.ecam.specs.Laws.{SameWords}
use Rattle.ecam.specs.Route.{route}
use Rattle.parts.specs.Cores.{raised_core, fresh_core}
use Rattle.parts.specs.Answers.{accepted}
use Rattle.machine.specs.State.{fresh_bridge, new_bridge, registers_of}
use Rattle.machine.specs.Memory.{area_size}
use Rattle.machine.specs.Config.{access_of, config_number, local_core, config_step}
use Rattle.machine.specs.Completions.{Held}
use Rattle.machine.specs.Ticks.{drop_slot, drop_slots, link_lost, linked}
use Rattle.machine.specs.Messages.{message_number, message_step}
use Rattle.machine.specs.Take.{state_in, state_of}
use Rattle.trace.specs.Events.{Event, call, link, message, config, run, start, Seen, seen}
use Rattle.trace.specs.Claims.{Left}
use Rattle.trace.specs.Registers.{QueueIsNeeded}
use Rattle.trace.proofs.Applied.{each_below}

-- a correctable error from a requester ID
abbrev error_from : ℕ → ℕ → List ℕ
error_from high low = 0x30 ∷ 0 ∷ 0 ∷ 0 ∷ high ∷ low ∷ 0 ∷ 0x30 ∷ 0 ∷ 0 ∷ 0 ∷ 0 ∷ 0 ∷ 0 ∷ 0 ∷ 0 ∷ []

-- two errors come, and the link goes down
abbrev events : ℕ → List Event
events high = link true ∷ call (message (error_from 1 0)) ∷ call (message (error_from high 0)) ∷ link false ∷ []

abbrev after : ℕ → Held
after high = run (start example_settings (replicate 32768 0)) (events high)

-- bits 0 and 9, and the two entries
abbrev queued : ℕ → Registers
queued second = with_errors (with_decode fresh 0x00000201) (0x00040100 ∷ second ∷ [])

left_two : Left (after 2)
unfolding bit is_set from_bits set_bit power_among each_from window_right apart windows_right settings_right settings_number some decode_bits is_decode_bit byte strobe strobed is_error_message entry_of local_write raised messaged fresh route raised_core accepted fresh_core fresh_bridge new_bridge config_number local_core config_step drop_slot drop_slots link_lost linked message_number message_step state_in
left_two =
    record {
      settings = example_settings;
      store = replicate 32768 0;
      long = leb-true 32768 32768 refl;
      events = events 2;
      came = refl;
      down = refl;
      taken = each_below (λ k. state_of (after 2).bridge k ≡ 0) 9 (refl, (refl, (refl, (refl, (refl, (refl, (refl, (refl, (refl, tt)))))))));
    }

left_three : Left (after 3)
unfolding bit is_set from_bits set_bit power_among each_from window_right apart windows_right settings_right settings_number some decode_bits is_decode_bit byte strobe strobed is_error_message entry_of local_write raised messaged fresh route raised_core accepted fresh_core fresh_bridge new_bridge config_number local_core config_step drop_slot drop_slots link_lost linked message_number message_step state_in
left_three =
    record {
      settings = example_settings;
      store = replicate 32768 0;
      long = leb-true 32768 32768 refl;
      events = events 3;
      came = refl;
      down = refl;
      taken = each_below (λ k. state_of (after 3).bridge k ≡ 0) 9 (refl, (refl, (refl, (refl, (refl, (refl, (refl, (refl, (refl, tt)))))))));
    }

registers_two : registers_of (after 2).bridge ≡ queued 0x00040200
unfolding bit is_set from_bits set_bit power_among each_from window_right apart windows_right settings_right settings_number some decode_bits is_decode_bit byte strobe strobed is_error_message entry_of local_write raised messaged fresh route raised_core accepted fresh_core fresh_bridge new_bridge config_number local_core config_step drop_slot drop_slots link_lost linked message_number message_step state_in
registers_two = refl

registers_three : registers_of (after 3).bridge ≡ queued 0x00040300
unfolding bit is_set from_bits set_bit power_among each_from window_right apart windows_right settings_right settings_number some decode_bits is_decode_bit byte strobe strobed is_error_message entry_of local_write raised messaged fresh route raised_core accepted fresh_core fresh_bridge new_bridge config_number local_core config_step drop_slot drop_slots link_lost linked message_number message_step state_in
registers_three = refl

settings_same : (after 2).bridge.settings ≡ (after 3).bridge.settings
unfolding bit is_set from_bits set_bit power_among each_from window_right apart windows_right settings_right settings_number some decode_bits is_decode_bit byte strobe strobed is_error_message entry_of local_write raised messaged fresh route raised_core accepted fresh_core fresh_bridge new_bridge config_number local_core config_step drop_slot drop_slots link_lost linked message_number message_step state_in
settings_same = refl

-- whatever the second entry is, the words are the same
words_same : SameWords (queued 0x00040200) (queued 0x00040300)
unfolding local_read status fresh
words_same = record { buses = refl; disable = refl; decode = refl; mask = refl; link = refl; status = refl; fifo = refl }

-- a write to 154, and what it shows then
abbrev later : List Event
later = call (config (access_of 0x154 true 0 0) area_size) ∷ []

abbrev shows : List Seen → ℕ
shows [] = 0
shows (s ∷ l) = oldest s.registers.errors

shows_two : shows (seen (after 2) later) ≡ 0x00040200
unfolding bit is_set from_bits set_bit power_among each_from window_right apart windows_right settings_right settings_number some decode_bits is_decode_bit byte strobe strobed is_error_message entry_of local_write raised messaged fresh route raised_core accepted fresh_core fresh_bridge new_bridge config_number local_core config_step drop_slot drop_slots link_lost linked message_number message_step state_in
shows_two = refl

shows_three : shows (seen (after 3) later) ≡ 0x00040300
unfolding bit is_set from_bits set_bit power_among each_from window_right apart windows_right settings_right settings_number some decode_bits is_decode_bit byte strobe strobed is_error_message entry_of local_write raised messaged fresh route raised_core accepted fresh_core fresh_bridge new_bridge config_number local_core config_step drop_slot drop_slots link_lost linked message_number message_step state_in
shows_three = refl

pub queue_is_needed : QueueIsNeeded
queue_is_needed claim =
    let w : SameWords (registers_of (after 2).bridge) (registers_of (after 3).bridge) =
    rw (registers_two, registers_three) words_same in
    let e = claim (after 2) (after 3) left_two left_three settings_same w later in
    let z : ◌≡◌ {A = ℕ} 0x00040200 0x00040300 = sym shows_two ∙ (ap shows e ∙ shows_three) in
    omega (arith, z)
