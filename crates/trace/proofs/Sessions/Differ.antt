-- Two bridges whose session counters differ, and nothing else that the last sentence of demand 3 asks for.
use Prim.Native.Nat.{ℕ}
use mathlib.Core.Path.{◌≡◌, sym, ap, ◌∙◌, refl}
use mathlib.Core.List.{List, [], ◌∷◌}
use native.Mathlib.Omega.{arith}
use Rattle.bits.specs.Bits.{bit, is_set, from_bits, set_bit, clear_bit}
use Rattle.tags.specs.Tags.{free_from}
use Rattle.tlp.specs.Completion.{valid_completion, completion_reserved, read_completion}
use Rattle.address.specs.Settings.{power_among, each_from, window_right, apart, windows_right, settings_right, settings_number}
use Rattle.address.specs.Windows.{holds, first_from, window_of, translated}
use Rattle.burst.specs.Bursts.{end_from, burst_right, burst_number, length_of}
use Rattle.burst.specs.Pieces.{piece_count, piece_first, piece_end, piece_at, addresses}
use Rattle.ecam.specs.Registers.{some, decode_bits, is_decode_bit, error_bits, is_error_bit, byte, strobe, strobed, reached, clears, cleared, numbered, write_buses, local_write, raised, fresh}
use Rattle.ecam.specs.Route.{route}
use Rattle.ecam.specs.Request.{data_word}
use Rattle.machine.specs.State.{raised_core, opened, counted, shut, freed, free_slot_from, response_of, refusal_response, refusal_change, refusal, accepted, taken, refused, fresh_core, fresh_bridge, new_bridge}
use Rattle.machine.specs.Memory.{pcie_of, read_refusal, claimed, read_to, read_step}
use Rattle.machine.specs.Config.{config_number, local_core, routed_bridge, config_step}
use Rattle.machine.specs.Verdict.{memory_verdict, config_verdict}
use Rattle.machine.specs.Completions.{faulted, failed, finished, piece_closed, advanced, memory_completed, config_answer, config_completed, verdict_of, completion_of, complete_refusal, expected, completed}
use Rattle.machine.specs.Ticks.{timed_out, expire, expire_to, ticked, drop_slot, drop_slots, link_lost, linked}
use Rattle.machine.specs.Take.{state_in, take_number, looked, slot_freed, release_step}
use Rattle.machine.specs.Memory.{area_size}
use Rattle.trace.specs.Events.{config, release, Event, call, Seen, seen}
use Rattle.trace.specs.Applied.{old, new}
use Rattle.trace.specs.SessionExamples.{local}
use Rattle.trace.specs.Sessions.{NumbersDiffer}
use Rattle.trace.proofs.Applied.{applied}

-- a local read, and its release
abbrev later : List Event
later = call (config local area_size) ∷ call (release 8) ∷ []

-- the session number of the second event
abbrev taken_number : List Seen → ℕ
taken_number [] = 0
taken_number (x ∷ []) = 0
taken_number (x ∷ y ∷ l) = y.out.answer.figures.session

shows_old : taken_number (seen old later) ≡ 2
unfolding bit is_set from_bits set_bit clear_bit free_from valid_completion completion_reserved read_completion power_among each_from window_right apart windows_right settings_right settings_number holds first_from window_of translated end_from burst_right burst_number length_of piece_count piece_first piece_end piece_at addresses some decode_bits is_decode_bit byte strobe strobed reached error_bits is_error_bit clears cleared numbered write_buses local_write raised fresh route data_word raised_core opened counted shut freed free_slot_from response_of refusal_response refusal_change refusal accepted taken refused fresh_core fresh_bridge new_bridge pcie_of read_refusal claimed read_to read_step config_number local_core routed_bridge config_step memory_verdict config_verdict faulted failed finished piece_closed advanced memory_completed config_answer config_completed verdict_of completion_of complete_refusal expected completed timed_out expire expire_to ticked drop_slot drop_slots link_lost linked state_in take_number looked slot_freed release_step
shows_old = refl

shows_new : taken_number (seen new later) ≡ 0
unfolding bit is_set from_bits set_bit clear_bit free_from valid_completion completion_reserved read_completion power_among each_from window_right apart windows_right settings_right settings_number holds first_from window_of translated end_from burst_right burst_number length_of piece_count piece_first piece_end piece_at addresses some decode_bits is_decode_bit byte strobe strobed reached error_bits is_error_bit clears cleared numbered write_buses local_write raised fresh route data_word raised_core opened counted shut freed free_slot_from response_of refusal_response refusal_change refusal accepted taken refused fresh_core fresh_bridge new_bridge pcie_of read_refusal claimed read_to read_step config_number local_core routed_bridge config_step memory_verdict config_verdict faulted failed finished piece_closed advanced memory_completed config_answer config_completed verdict_of completion_of complete_refusal expected completed timed_out expire expire_to ticked drop_slot drop_slots link_lost linked state_in take_number looked slot_freed release_step
shows_new = refl

pub numbers_differ : NumbersDiffer
numbers_differ claim =
    let p = applied.at_alike in
    let e = claim old new p.left_old p.left_new p.settings p.registers later in
    let z : ◌≡◌ {A = ℕ} 2 0 = sym shows_old ∙ (ap taken_number e ∙ shows_new) in
    omega (arith, z)
