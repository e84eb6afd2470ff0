-- The examples of A2, by computing, and the accesses that the claims speak of.
use mathlib.Core.Path.{◌≡◌, refl}
use mathlib.Core.List.{[], ◌∷◌, ◌++◌}
use mathlib.Core.Bool.{true, false}
use native.Mathlib.Omega.{arith}
use Rattle.bits.specs.Bits.{bit, is_set, set_bit, clear_bit}
use Rattle.tags.specs.Tags.{free_from}
use Rattle.tlp.specs.Completion.{valid_completion, completion_reserved, read_completion}
use Rattle.address.specs.Settings.{power_among, each_from, window_right, apart, windows_right, settings_right, settings_number}
use Rattle.address.specs.Windows.{holds, first_from, window_of, translated}
use Rattle.burst.specs.Bursts.{end_from, burst_right, burst_number, length_of, data_number}
use Rattle.burst.specs.Pieces.{piece_count, piece_first, piece_end, piece_at, addresses}
use Rattle.ecam.specs.Registers.{some, decode_bits, is_decode_bit, byte, strobe, numbered, write_buses, local_write, raised, fresh}
use Rattle.ecam.specs.Route.{route}
use Rattle.ecam.specs.Request.{data_word}
use Rattle.machine.specs.State.{raised_core, opened, counted, shut, freed, free_slot_from, response_of, refusal_response, refusal_change, refusal, accepted, taken, refused, fresh_core, fresh_bridge, new_bridge}
use Rattle.machine.specs.Memory.{pcie_of, read_refusal, claimed, read_to, read_step, write_refusal, write_step}
use Rattle.machine.specs.Config.{config_number, local_core, routed_bridge, config_step}
use Rattle.machine.specs.Verdict.{memory_verdict, config_verdict}
use Rattle.machine.specs.Completions.{faulted, failed, finished, piece_closed, advanced, memory_completed, config_answer, config_completed, verdict_of, completion_of, complete_refusal, expected, completed}
use Rattle.machine.specs.Ticks.{timed_out, expire, expire_to, ticked, drop_slot, drop_slots, link_lost, linked}
use Rattle.machine.specs.Take.{state_in, take_number, looked, slot_freed, release_step}
use Rattle.machine.specs.State.{registers_of}
use Rattle.machine.specs.Memory.{area_size}
use Rattle.trace.specs.Events as event
use Rattle.trace.specs.Events.{completion, link, run}
use Rattle.trace.specs.Example.{four, good}
use Rattle.trace.specs.Sessions.{reads, configs, Reports}
use Rattle.trace.specs.SessionExamples.{whiteboard, local, four_come, begun, ended, again, meanwhile, Examples, Reported}

pub examples : Examples
unfolding bit is_set set_bit clear_bit free_from valid_completion completion_reserved read_completion power_among each_from window_right apart windows_right settings_right settings_number holds first_from window_of translated end_from burst_right burst_number length_of data_number piece_count piece_first piece_end piece_at addresses some decode_bits is_decode_bit byte strobe numbered write_buses local_write raised fresh route data_word raised_core opened counted shut freed free_slot_from response_of refusal_response refusal_change refusal accepted taken refused fresh_core fresh_bridge new_bridge pcie_of read_refusal claimed read_to read_step write_refusal write_step config_number local_core routed_bridge config_step memory_verdict config_verdict faulted failed finished piece_closed advanced memory_completed config_answer config_completed verdict_of completion_of complete_refusal expected completed timed_out expire expire_to ticked drop_slot drop_slots link_lost linked state_in take_number looked slot_freed release_step
examples = record { lives = refl; wraps = refl; refused = refl; uncounted = refl }

-- ---- an answer that is there after some events, none of which takes it

before : Reports whiteboard [] 0
unfolding bit is_set set_bit clear_bit free_from valid_completion completion_reserved read_completion power_among each_from window_right apart windows_right settings_right settings_number holds first_from window_of translated end_from burst_right burst_number length_of data_number piece_count piece_first piece_end piece_at addresses some decode_bits is_decode_bit byte strobe numbered write_buses local_write raised fresh route data_word raised_core opened counted shut freed free_slot_from response_of refusal_response refusal_change refusal accepted taken refused fresh_core fresh_bridge new_bridge pcie_of read_refusal claimed read_to read_step write_refusal write_step config_number local_core routed_bridge config_step memory_verdict config_verdict faulted failed finished piece_closed advanced memory_completed config_answer config_completed verdict_of completion_of complete_refusal expected completed timed_out expire expire_to ticked drop_slot drop_slots link_lost linked state_in take_number looked slot_freed release_step
before =
    record {
      access = event.config local area_size;
      slot = 8;
      kept = configs local area_size refl;
      later = link true ∷ [];
      untaken = (refl, tt);
      answered = refl;
      number = refl;
    }

first : Reports whiteboard begun 1
unfolding bit is_set set_bit clear_bit free_from valid_completion completion_reserved read_completion power_among each_from window_right apart windows_right settings_right settings_number holds first_from window_of translated end_from burst_right burst_number length_of data_number piece_count piece_first piece_end piece_at addresses some decode_bits is_decode_bit byte strobe numbered write_buses local_write raised fresh route data_word raised_core opened counted shut freed free_slot_from response_of refusal_response refusal_change refusal accepted taken refused fresh_core fresh_bridge new_bridge pcie_of read_refusal claimed read_to read_step write_refusal write_step config_number local_core routed_bridge config_step memory_verdict config_verdict faulted failed finished piece_closed advanced memory_completed config_answer config_completed verdict_of completion_of complete_refusal expected completed timed_out expire expire_to ticked drop_slot drop_slots link_lost linked state_in take_number looked slot_freed release_step
first =
    record {
      access = event.read four area_size;
      slot = 0;
      kept = reads four area_size refl;
      later = completion 0 four_come ∷ link false ∷ link true ∷ [];
      untaken = (refl, (refl, (refl, tt)));
      answered = refl;
      number = refl;
    }

down : Reports whiteboard ended 1
unfolding bit is_set set_bit clear_bit free_from valid_completion completion_reserved read_completion power_among each_from window_right apart windows_right settings_right settings_number holds first_from window_of translated end_from burst_right burst_number length_of data_number piece_count piece_first piece_end piece_at addresses some decode_bits is_decode_bit byte strobe numbered write_buses local_write raised fresh route data_word raised_core opened counted shut freed free_slot_from response_of refusal_response refusal_change refusal accepted taken refused fresh_core fresh_bridge new_bridge pcie_of read_refusal claimed read_to read_step write_refusal write_step config_number local_core routed_bridge config_step memory_verdict config_verdict faulted failed finished piece_closed advanced memory_completed config_answer config_completed verdict_of completion_of complete_refusal expected completed timed_out expire expire_to ticked drop_slot drop_slots link_lost linked state_in take_number looked slot_freed release_step
down =
    record {
      access = event.config local area_size;
      slot = 8;
      kept = configs local area_size refl;
      later = link true ∷ [];
      untaken = (refl, tt);
      answered = refl;
      number = refl;
    }

second : Reports whiteboard again 2
unfolding bit is_set set_bit clear_bit free_from valid_completion completion_reserved read_completion power_among each_from window_right apart windows_right settings_right settings_number holds first_from window_of translated end_from burst_right burst_number length_of data_number piece_count piece_first piece_end piece_at addresses some decode_bits is_decode_bit byte strobe numbered write_buses local_write raised fresh route data_word raised_core opened counted shut freed free_slot_from response_of refusal_response refusal_change refusal accepted taken refused fresh_core fresh_bridge new_bridge pcie_of read_refusal claimed read_to read_step write_refusal write_step config_number local_core routed_bridge config_step memory_verdict config_verdict faulted failed finished piece_closed advanced memory_completed config_answer config_completed verdict_of completion_of complete_refusal expected completed timed_out expire expire_to ticked drop_slot drop_slots link_lost linked state_in take_number looked slot_freed release_step
second =
    record {
      access = event.read four area_size;
      slot = 0;
      kept = reads four area_size refl;
      later = completion 1 four_come ∷ [];
      untaken = (refl, tt);
      answered = refl;
      number = refl;
    }

-- it has tag 1
another : Reports whiteboard (again ++ meanwhile) 2
unfolding bit is_set set_bit clear_bit free_from valid_completion completion_reserved read_completion power_among each_from window_right apart windows_right settings_right settings_number holds first_from window_of translated end_from burst_right burst_number length_of data_number piece_count piece_first piece_end piece_at addresses some decode_bits is_decode_bit byte strobe numbered write_buses local_write raised fresh route data_word raised_core opened counted shut freed free_slot_from response_of refusal_response refusal_change refusal accepted taken refused fresh_core fresh_bridge new_bridge pcie_of read_refusal claimed read_to read_step write_refusal write_step config_number local_core routed_bridge config_step memory_verdict config_verdict faulted failed finished piece_closed advanced memory_completed config_answer config_completed verdict_of completion_of complete_refusal expected completed timed_out expire expire_to ticked drop_slot drop_slots link_lost linked state_in take_number looked slot_freed release_step
another =
    record {
      access = event.read four area_size;
      slot = 1;
      kept = reads four area_size refl;
      later = completion 2 (good 1 4 0x3C (1 ∷ 2 ∷ 3 ∷ 4 ∷ [])) ∷ [];
      untaken = (refl, tt);
      answered = refl;
      number = refl;
    }

up : (registers_of (run whiteboard again).bridge).link ≡ true
unfolding bit is_set set_bit clear_bit free_from valid_completion completion_reserved read_completion power_among each_from window_right apart windows_right settings_right settings_number holds first_from window_of translated end_from burst_right burst_number length_of data_number piece_count piece_first piece_end piece_at addresses some decode_bits is_decode_bit byte strobe numbered write_buses local_write raised fresh route data_word raised_core opened counted shut freed free_slot_from response_of refusal_response refusal_change refusal accepted taken refused fresh_core fresh_bridge new_bridge pcie_of read_refusal claimed read_to read_step write_refusal write_step config_number local_core routed_bridge config_step memory_verdict config_verdict faulted failed finished piece_closed advanced memory_completed config_answer config_completed verdict_of completion_of complete_refusal expected completed timed_out expire expire_to ticked drop_slot drop_slots link_lost linked state_in take_number looked slot_freed release_step
up = refl

still_up : (registers_of (run whiteboard (again ++ meanwhile)).bridge).link ≡ true
unfolding bit is_set set_bit clear_bit free_from valid_completion completion_reserved read_completion power_among each_from window_right apart windows_right settings_right settings_number holds first_from window_of translated end_from burst_right burst_number length_of data_number piece_count piece_first piece_end piece_at addresses some decode_bits is_decode_bit byte strobe numbered write_buses local_write raised fresh route data_word raised_core opened counted shut freed free_slot_from response_of refusal_response refusal_change refusal accepted taken refused fresh_core fresh_bridge new_bridge pcie_of read_refusal claimed read_to read_step write_refusal write_step config_number local_core routed_bridge config_step memory_verdict config_verdict faulted failed finished piece_closed advanced memory_completed config_answer config_completed verdict_of completion_of complete_refusal expected completed timed_out expire expire_to ticked drop_slot drop_slots link_lost linked state_in take_number looked slot_freed release_step
still_up = refl

pub reported : Reported
reported =
    record {
      before = before;
      first = first;
      down = down;
      second = second;
      another = another;
      few = omega arith;
      none = refl;
      up = up;
      still_up = still_up;
    }
