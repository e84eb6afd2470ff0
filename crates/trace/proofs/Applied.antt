-- The claims at the example: what each asks is computed.
use Prim.Native.Nat.{ℕ, zero, suc, ◌+◌, ◌<◌}
use mathlib.Core.Path.{◌≡◌, refl, sym, ◌∙◌, subst}
use mathlib.Core.List.{[], ◌∷◌, ◌++◌, flat_map}
use mathlib.Core.Bool.{true, false}
use native.Mathlib.Nat.{le_of_suc-le-suc}
use native.Mathlib.Omega.{arith}
use lib.ListN.{replicate}
use borrow.Author.Tests.{leb-true, ltb-true}
use Rattle.bits.specs.Bits.{bit, is_set, from_bits, set_bit, clear_bit}
use Rattle.tags.specs.Tags.{free_from}
use Rattle.tlp.specs.Completion.{valid_completion, completion_reserved, read_completion}
use Rattle.address.specs.Settings.{power_among, each_from, window_right, apart, windows_right, settings_right, settings_number}
use Rattle.address.specs.Windows.{holds, first_from, window_of, translated}
use Rattle.burst.specs.Bursts.{end_from, burst_right, burst_number, length_of}
use Rattle.burst.specs.Pieces.{piece_count, piece_first, piece_end, piece_at, addresses}
use Rattle.ecam.specs.Registers.{Registers}
use Rattle.ecam.specs.Registers.{some, decode_bits, is_decode_bit, error_bits, is_error_bit, byte, strobe, strobed, reached, clears, cleared, numbered, write_buses, local_write, raised, fresh, with_secondary, with_subordinate}
use Rattle.ecam.specs.Route.{route}
use Rattle.ecam.specs.Request.{data_word}
use Rattle.machine.specs.State.{registers_of, raised_core, opened, counted, shut, freed, free_slot_from, response_of, refusal_response, refusal_change, refusal, accepted, taken, refused, fresh_core, fresh_bridge, new_bridge}
use Rattle.machine.specs.Memory.{area_size, piece_of, pcie_of, read_refusal, claimed, read_to, read_step}
use Rattle.machine.specs.Config.{config_number, local_core, routed_bridge, config_step}
use Rattle.machine.specs.Verdict.{memory_verdict, config_verdict}
use Rattle.machine.specs.Completions.{faulted, failed, finished, piece_closed, advanced, memory_completed, config_answer, config_completed, verdict_of, completion_of, complete_refusal, expected, completed}
use Rattle.machine.specs.Ticks.{timed_out, expire, expire_to, ticked, drop_slot, drop_slots, link_lost, linked}
use Rattle.machine.specs.Take.{state_in, state_of, take_number, looked, slot_freed, release_step}
use Rattle.trace.specs.Events.{read, config, look, release, call, completion, tick, link}
use Rattle.trace.specs.FarSide.{paired}
use Rattle.trace.specs.Claims.{Answered, Until, good_bytes, Left}
use Rattle.trace.specs.Example.{settings, store, begun, four, ten, set_buses, on_bus1, g1, sent, before, during, between, after, to_config, events}
use Rattle.trace.specs.Applied.{AtTen, BytesThere, OkayThere, AtWord, WordThere, WordEnds, to_buses, AtLocal, LocalThere, first, AtFirst, ReadEnds, clear_causes, old, new, AtAlike, AlikeThere, Applied}
use Rattle.trace.proofs.Prefix.{far_first}
use Rattle.trace.proofs.Example.{met}

-- ---- the read of ten bytes

good_ten : (j : ℕ) → j < 2 → good_bytes 0 (paired (4 + j) during) ≡ (piece_of 128 ten j).length
unfolding valid_completion completion_reserved read_completion completion_of end_from burst_right length_of piece_first piece_end piece_at
good_ten zero lt = refl
good_ten (suc zero) lt = refl
good_ten (suc (suc j)) lt = absurd (omega arith)

at_ten : AtTen
unfolding bit is_set set_bit clear_bit free_from valid_completion completion_reserved read_completion power_among each_from window_right apart windows_right settings_right settings_number holds first_from window_of translated end_from burst_right burst_number length_of piece_count piece_first piece_end piece_at addresses some decode_bits is_decode_bit byte strobe numbered write_buses local_write raised fresh route data_word raised_core opened counted shut freed free_slot_from response_of refusal_response refusal_change refusal accepted taken refused fresh_core fresh_bridge new_bridge pcie_of read_refusal claimed read_to read_step config_number local_core routed_bridge config_step memory_verdict config_verdict faulted failed finished piece_closed advanced memory_completed config_answer config_completed verdict_of completion_of complete_refusal expected completed timed_out expire expire_to ticked drop_slot drop_slots link_lost linked state_in take_number looked slot_freed release_step flat_map
at_ten =
    record {
      long = leb-true 32768 32768 refl;
      far = far_first sent begun (before ++ call (read ten area_size) ∷ during) (between ++ call (config on_bus1 area_size) ∷ after) met.far;
      taken = refl;
      slot = refl;
      untaken = (refl, (refl, (refl, (refl, tt))));
      okay = record { answered = refl; okay = refl };
      young = ltb-true 0 2 refl;
      steady = (refl, (refl, (refl, (refl, tt))));
      good = good_ten;
      bytes = refl;
    }

bytes_there : BytesThere
unfolding bit is_set set_bit clear_bit free_from valid_completion completion_reserved read_completion power_among each_from window_right apart windows_right settings_right settings_number holds first_from window_of translated end_from burst_right burst_number length_of piece_count piece_first piece_end piece_at addresses some decode_bits is_decode_bit byte strobe numbered write_buses local_write raised fresh route data_word raised_core opened counted shut freed free_slot_from response_of refusal_response refusal_change refusal accepted taken refused fresh_core fresh_bridge new_bridge pcie_of read_refusal claimed read_to read_step config_number local_core routed_bridge config_step memory_verdict config_verdict faulted failed finished piece_closed advanced memory_completed config_answer config_completed verdict_of completion_of complete_refusal expected completed timed_out expire expire_to ticked drop_slot drop_slots link_lost linked state_in take_number looked slot_freed release_step
bytes_there bytes =
    (bytes settings store at_ten.long sent before ten area_size during at_ten.far at_ten.taken at_ten.untaken at_ten.okay).0
    ∙ at_ten.bytes

okay_there : OkayThere
unfolding bit is_set set_bit clear_bit free_from valid_completion completion_reserved read_completion power_among each_from window_right apart windows_right settings_right settings_number holds first_from window_of translated end_from burst_right burst_number length_of piece_count piece_first piece_end piece_at addresses some decode_bits is_decode_bit byte strobe numbered write_buses local_write raised fresh route data_word raised_core opened counted shut freed free_slot_from response_of refusal_response refusal_change refusal accepted taken refused fresh_core fresh_bridge new_bridge pcie_of read_refusal claimed read_to read_step config_number local_core routed_bridge config_step memory_verdict config_verdict faulted failed finished piece_closed advanced memory_completed config_answer config_completed verdict_of completion_of complete_refusal expected completed timed_out expire expire_to ticked drop_slot drop_slots link_lost linked state_in take_number looked slot_freed release_step
okay_there okay =
    okay settings store at_ten.long sent before ten area_size during at_ten.far at_ten.taken at_ten.young at_ten.steady
    at_ten.good

-- ---- the routed configuration read

at_word : AtWord
unfolding bit is_set set_bit clear_bit free_from valid_completion completion_reserved read_completion power_among each_from window_right apart windows_right settings_right settings_number holds first_from window_of translated end_from burst_right burst_number length_of piece_count piece_first piece_end piece_at addresses some decode_bits is_decode_bit byte strobe numbered write_buses local_write raised fresh route data_word raised_core opened counted shut freed free_slot_from response_of refusal_response refusal_change refusal accepted taken refused fresh_core fresh_bridge new_bridge pcie_of read_refusal claimed read_to read_step config_number local_core routed_bridge config_step memory_verdict config_verdict faulted failed finished piece_closed advanced memory_completed config_answer config_completed verdict_of completion_of complete_refusal expected completed timed_out expire expire_to ticked drop_slot drop_slots link_lost linked state_in take_number looked slot_freed release_step
at_word =
    record {
      far = far_first sent begun (to_config ++ call (config on_bus1 area_size) ∷ completion 6 g1 ∷ []) _ met.far;
      taken = refl;
      out = refl;
      young = ltb-true 0 2 refl;
      steady = (refl, tt);
      good = refl;
      late = leb-true 2 2 refl;
    }

word_there : WordThere
word_there word =
    word settings store at_ten.long sent to_config on_bus1 area_size (completion 6 g1 ∷ []) at_word.far at_word.taken at_word.out
    at_word.young at_word.steady at_word.good

word_ends : WordEnds
word_ends ends = ends settings store at_ten.long to_config on_bus1 area_size (tick ∷ tick ∷ []) at_word.taken at_word.late

-- ---- the local configuration write

at_local : AtLocal
unfolding bit is_set set_bit clear_bit free_from valid_completion completion_reserved read_completion power_among each_from window_right apart windows_right settings_right settings_number holds first_from window_of translated end_from burst_right burst_number length_of piece_count piece_first piece_end piece_at addresses some decode_bits is_decode_bit byte strobe numbered write_buses local_write raised fresh route data_word raised_core opened counted shut freed free_slot_from response_of refusal_response refusal_change refusal accepted taken refused fresh_core fresh_bridge new_bridge pcie_of read_refusal claimed read_to read_step config_number local_core routed_bridge config_step memory_verdict config_verdict faulted failed finished piece_closed advanced memory_completed config_answer config_completed verdict_of completion_of complete_refusal expected completed timed_out expire expire_to ticked drop_slot drop_slots link_lost linked state_in take_number looked slot_freed release_step
at_local = record { taken = refl; stays = refl }

local_there : LocalThere
local_there okay = okay settings store at_ten.long to_buses set_buses area_size at_local.taken at_local.stays

-- ---- the first read

at_first : AtFirst
unfolding bit is_set set_bit clear_bit free_from valid_completion completion_reserved read_completion power_among each_from window_right apart windows_right settings_right settings_number holds first_from window_of translated end_from burst_right burst_number length_of piece_count piece_first piece_end piece_at addresses some decode_bits is_decode_bit byte strobe numbered write_buses local_write raised fresh route data_word raised_core opened counted shut freed free_slot_from response_of refusal_response refusal_change refusal accepted taken refused fresh_core fresh_bridge new_bridge pcie_of read_refusal claimed read_to read_step config_number local_core routed_bridge config_step memory_verdict config_verdict faulted failed finished piece_closed advanced memory_completed config_answer config_completed verdict_of completion_of complete_refusal expected completed timed_out expire expire_to ticked drop_slot drop_slots link_lost linked state_in take_number looked slot_freed release_step
at_first = record { taken = refl; slot = refl; late = leb-true 2 2 refl }

read_ends : ReadEnds
read_ends ends =
    subst (λ (k : ℕ). Until (Answered k) k first (tick ∷ call (look 0) ∷ tick ∷ [])) at_first.slot
    (ends settings store at_ten.long (link true ∷ []) four area_size (tick ∷ call (look 0) ∷ tick ∷ []) at_first.taken at_first.late)

-- ---- two bridges left alike

-- a fact of each number below n
abbrev pub Each : (ℕ → Type 0) → ℕ → Type 0
Each P zero = Unit
Each P (suc n) = P 0 × Each (λ k. P (suc k)) n

pub each_below : (P : ℕ → Type 0) (n : ℕ) → Each P n → (k : ℕ) → k < n → P k
each_below P zero all k lt = absurd (omega arith)
each_below P (suc n) (p, all) zero lt = p
each_below P (suc n) (p, all) (suc k) lt = each_below (λ i. P (suc i)) n all k (le_of_suc-le-suc lt)

left_old : Left old
unfolding bit is_set from_bits set_bit clear_bit free_from valid_completion completion_reserved read_completion power_among each_from window_right apart windows_right settings_right settings_number holds first_from window_of translated end_from burst_right burst_number length_of piece_count piece_first piece_end piece_at addresses some decode_bits is_decode_bit byte strobe strobed reached error_bits is_error_bit clears cleared numbered write_buses local_write raised fresh route data_word raised_core opened counted shut freed free_slot_from response_of refusal_response refusal_change refusal accepted taken refused fresh_core fresh_bridge new_bridge pcie_of read_refusal claimed read_to read_step config_number local_core routed_bridge config_step memory_verdict config_verdict faulted failed finished piece_closed advanced memory_completed config_answer config_completed verdict_of completion_of complete_refusal expected completed timed_out expire expire_to ticked drop_slot drop_slots link_lost linked state_in take_number looked slot_freed release_step
left_old =
    record {
      settings = settings;
      store = store;
      long = leb-true 32768 32768 refl;
      events = events ++ link false ∷ call (config clear_causes area_size) ∷ call (release 8) ∷ [];
      came = refl;
      down = refl;
      taken = each_below (λ k. state_of old.bridge k ≡ 0) 9 (refl, (refl, (refl, (refl, (refl, (refl, (refl, (refl, (refl, tt)))))))));
    }

left_new : Left new
unfolding bit is_set from_bits set_bit clear_bit free_from valid_completion completion_reserved read_completion power_among each_from window_right apart windows_right settings_right settings_number holds first_from window_of translated end_from burst_right burst_number length_of piece_count piece_first piece_end piece_at addresses some decode_bits is_decode_bit byte strobe strobed reached error_bits is_error_bit clears cleared numbered write_buses local_write raised fresh route data_word raised_core opened counted shut freed free_slot_from response_of refusal_response refusal_change refusal accepted taken refused fresh_core fresh_bridge new_bridge pcie_of read_refusal claimed read_to read_step config_number local_core routed_bridge config_step memory_verdict config_verdict faulted failed finished piece_closed advanced memory_completed config_answer config_completed verdict_of completion_of complete_refusal expected completed timed_out expire expire_to ticked drop_slot drop_slots link_lost linked state_in take_number looked slot_freed release_step
left_new =
    record {
      settings = settings;
      store = replicate 40000 9;
      long = leb-true 32768 40000 refl;
      events = tick ∷ call (config set_buses area_size) ∷ call (release 8) ∷ [];
      came = refl;
      down = refl;
      taken = each_below (λ k. state_of new.bridge k ≡ 0) 9 (refl, (refl, (refl, (refl, (refl, (refl, (refl, (refl, (refl, tt)))))))));
    }

-- each against what it is: two long runs are not compared with each other
abbrev cleared_registers : Registers
cleared_registers = with_subordinate (with_secondary fresh 1) 1

settings_old : old.bridge.settings ≡ settings
unfolding bit is_set from_bits set_bit clear_bit free_from valid_completion completion_reserved read_completion power_among each_from window_right apart windows_right settings_right settings_number holds first_from window_of translated end_from burst_right burst_number length_of piece_count piece_first piece_end piece_at addresses some decode_bits is_decode_bit byte strobe strobed reached error_bits is_error_bit clears cleared numbered write_buses local_write raised fresh route data_word raised_core opened counted shut freed free_slot_from response_of refusal_response refusal_change refusal accepted taken refused fresh_core fresh_bridge new_bridge pcie_of read_refusal claimed read_to read_step config_number local_core routed_bridge config_step memory_verdict config_verdict faulted failed finished piece_closed advanced memory_completed config_answer config_completed verdict_of completion_of complete_refusal expected completed timed_out expire expire_to ticked drop_slot drop_slots link_lost linked state_in take_number looked slot_freed release_step
settings_old = refl

settings_new : new.bridge.settings ≡ settings
unfolding bit is_set from_bits set_bit clear_bit free_from valid_completion completion_reserved read_completion power_among each_from window_right apart windows_right settings_right settings_number holds first_from window_of translated end_from burst_right burst_number length_of piece_count piece_first piece_end piece_at addresses some decode_bits is_decode_bit byte strobe strobed reached error_bits is_error_bit clears cleared numbered write_buses local_write raised fresh route data_word raised_core opened counted shut freed free_slot_from response_of refusal_response refusal_change refusal accepted taken refused fresh_core fresh_bridge new_bridge pcie_of read_refusal claimed read_to read_step config_number local_core routed_bridge config_step memory_verdict config_verdict faulted failed finished piece_closed advanced memory_completed config_answer config_completed verdict_of completion_of complete_refusal expected completed timed_out expire expire_to ticked drop_slot drop_slots link_lost linked state_in take_number looked slot_freed release_step
settings_new = refl

registers_old : registers_of old.bridge ≡ cleared_registers
unfolding bit is_set from_bits set_bit clear_bit free_from valid_completion completion_reserved read_completion power_among each_from window_right apart windows_right settings_right settings_number holds first_from window_of translated end_from burst_right burst_number length_of piece_count piece_first piece_end piece_at addresses some decode_bits is_decode_bit byte strobe strobed reached error_bits is_error_bit clears cleared numbered write_buses local_write raised fresh route data_word raised_core opened counted shut freed free_slot_from response_of refusal_response refusal_change refusal accepted taken refused fresh_core fresh_bridge new_bridge pcie_of read_refusal claimed read_to read_step config_number local_core routed_bridge config_step memory_verdict config_verdict faulted failed finished piece_closed advanced memory_completed config_answer config_completed verdict_of completion_of complete_refusal expected completed timed_out expire expire_to ticked drop_slot drop_slots link_lost linked state_in take_number looked slot_freed release_step
registers_old = refl

registers_new : registers_of new.bridge ≡ cleared_registers
unfolding bit is_set from_bits set_bit clear_bit free_from valid_completion completion_reserved read_completion power_among each_from window_right apart windows_right settings_right settings_number holds first_from window_of translated end_from burst_right burst_number length_of piece_count piece_first piece_end piece_at addresses some decode_bits is_decode_bit byte strobe strobed reached error_bits is_error_bit clears cleared numbered write_buses local_write raised fresh route data_word raised_core opened counted shut freed free_slot_from response_of refusal_response refusal_change refusal accepted taken refused fresh_core fresh_bridge new_bridge pcie_of read_refusal claimed read_to read_step config_number local_core routed_bridge config_step memory_verdict config_verdict faulted failed finished piece_closed advanced memory_completed config_answer config_completed verdict_of completion_of complete_refusal expected completed timed_out expire expire_to ticked drop_slot drop_slots link_lost linked state_in take_number looked slot_freed release_step
registers_new = refl

counter_old : old.bridge.core.session ≡ 2
unfolding bit is_set from_bits set_bit clear_bit free_from valid_completion completion_reserved read_completion power_among each_from window_right apart windows_right settings_right settings_number holds first_from window_of translated end_from burst_right burst_number length_of piece_count piece_first piece_end piece_at addresses some decode_bits is_decode_bit byte strobe strobed reached error_bits is_error_bit clears cleared numbered write_buses local_write raised fresh route data_word raised_core opened counted shut freed free_slot_from response_of refusal_response refusal_change refusal accepted taken refused fresh_core fresh_bridge new_bridge pcie_of read_refusal claimed read_to read_step config_number local_core routed_bridge config_step memory_verdict config_verdict faulted failed finished piece_closed advanced memory_completed config_answer config_completed verdict_of completion_of complete_refusal expected completed timed_out expire expire_to ticked drop_slot drop_slots link_lost linked state_in take_number looked slot_freed release_step
counter_old = refl

counter_new : new.bridge.core.session ≡ 0
unfolding bit is_set from_bits set_bit clear_bit free_from valid_completion completion_reserved read_completion power_among each_from window_right apart windows_right settings_right settings_number holds first_from window_of translated end_from burst_right burst_number length_of piece_count piece_first piece_end piece_at addresses some decode_bits is_decode_bit byte strobe strobed reached error_bits is_error_bit clears cleared numbered write_buses local_write raised fresh route data_word raised_core opened counted shut freed free_slot_from response_of refusal_response refusal_change refusal accepted taken refused fresh_core fresh_bridge new_bridge pcie_of read_refusal claimed read_to read_step config_number local_core routed_bridge config_step memory_verdict config_verdict faulted failed finished piece_closed advanced memory_completed config_answer config_completed verdict_of completion_of complete_refusal expected completed timed_out expire expire_to ticked drop_slot drop_slots link_lost linked state_in take_number looked slot_freed release_step
counter_new = refl

at_alike : AtAlike
at_alike =
    record {
      left_old = left_old;
      left_new = left_new;
      settings = settings_old ∙ sym settings_new;
      registers = registers_old ∙ sym registers_new;
      counter_old = counter_old;
      counter_new = counter_new;
    }

alike_there : AlikeThere
alike_there alike later = alike old new at_alike.left_old at_alike.left_new at_alike.settings at_alike.registers later

pub applied : Applied
applied =
    record {
      at_ten = at_ten;
      bytes = bytes_there;
      okay = okay_there;
      at_word = at_word;
      word = word_there;
      word_ends = word_ends;
      at_local = at_local;
      local = local_there;
      at_first = at_first;
      read_ends = read_ends;
      at_alike = at_alike;
      alike = alike_there;
    }
