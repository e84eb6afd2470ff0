-- The example list meets the premise and shows its answers, by computing.
use Prim.Native.Nat.{ℕ, zero, suc, ◌≤◌, ◌<◌}
use mathlib.Core.Path.{◌≡◌, refl}
use mathlib.Core.List.Memᴰ
use mathlib.Core.List.{[], ◌∷◌, map}
use mathlib.Core.Bool.{false}
use native.Mathlib.Omega.{arith}
use lib.Dec.{eqb}
use borrow.Author.Tests.{leb-true, ltb-true, ne_eqb}
use Rattle.bits.specs.Bits.{bit, is_set, set_bit, clear_bit}
use Rattle.tags.specs.Tags.{free_from}
use Rattle.tlp.specs.Completion.{valid_completion, completion_reserved, read_completion}
use Rattle.address.specs.Settings.{power_among, each_from, window_right, apart, windows_right, settings_right, settings_number}
use Rattle.address.specs.Windows.{holds, first_from, window_of, translated}
use Rattle.burst.specs.Bursts.{end_from, burst_right, burst_number, length_of}
use Rattle.burst.specs.Pieces.{piece_count, piece_first, piece_end, piece_at, addresses}
use Rattle.ecam.specs.Registers.{some, decode_bits, is_decode_bit, byte, strobe, numbered, write_buses, local_write, raised, fresh}
use Rattle.ecam.specs.Route.{route}
use Rattle.ecam.specs.Request.{data_word}
use Rattle.machine.specs.State.{registers_of, raised_core, opened, counted, shut, freed, free_slot_from, response_of, refusal_response, refusal_change, refusal, accepted, taken, refused, fresh_core, fresh_bridge, new_bridge}
use Rattle.machine.specs.Memory.{pcie_of, read_refusal, claimed, read_to, read_step}
use Rattle.machine.specs.Config.{config_number, local_core, routed_bridge, config_step}
use Rattle.machine.specs.Verdict.{memory_verdict, config_verdict}
use Rattle.machine.specs.Completions.{faulted, failed, finished, piece_closed, advanced, memory_completed, config_answer, config_completed, verdict_of, completion_of, complete_refusal, expected, completed}
use Rattle.machine.specs.Ticks.{timed_out, expire, expire_to, ticked, drop_slot, drop_slots, link_lost, linked}
use Rattle.machine.specs.Take.{state_in, take_number, looked, slot_freed, release_step}
use Rattle.trace.specs.Events.{run, seen}
use Rattle.trace.specs.FarSide.{Ask, Sends, wire0, Along, Some, none, came, lost, paired}
use Rattle.trace.specs.Example.{begun, sent, events, told_of, answers, asks, Met}

tags : map (λ (a : Ask). a.tag) (asks begun events) ≡ 0 ∷ 1 ∷ 2 ∷ 2 ∷ 2 ∷ 3 ∷ 2 ∷ 2 ∷ 0 ∷ []
unfolding bit is_set set_bit clear_bit free_from valid_completion completion_reserved read_completion power_among each_from window_right apart windows_right settings_right settings_number holds first_from window_of translated end_from burst_right burst_number length_of piece_count piece_first piece_end piece_at addresses some decode_bits is_decode_bit byte strobe numbered write_buses local_write raised fresh route data_word raised_core opened counted shut freed free_slot_from response_of refusal_response refusal_change refusal accepted taken refused fresh_core fresh_bridge new_bridge pcie_of read_refusal claimed read_to read_step config_number local_core routed_bridge config_step memory_verdict config_verdict faulted failed finished piece_closed advanced memory_completed config_answer config_completed verdict_of completion_of complete_refusal expected completed timed_out expire expire_to ticked drop_slot drop_slots link_lost linked state_in take_number looked slot_freed release_step
tags = refl

shown : map told_of (seen begun events) ≡ answers
unfolding bit is_set set_bit clear_bit free_from valid_completion completion_reserved read_completion power_among each_from window_right apart windows_right settings_right settings_number holds first_from window_of translated end_from burst_right burst_number length_of piece_count piece_first piece_end piece_at addresses some decode_bits is_decode_bit byte strobe numbered write_buses local_write raised fresh route data_word raised_core opened counted shut freed free_slot_from response_of refusal_response refusal_change refusal accepted taken refused fresh_core fresh_bridge new_bridge pcie_of read_refusal claimed read_to read_step config_number local_core routed_bridge config_step memory_verdict config_verdict faulted failed finished piece_closed advanced memory_completed config_answer config_completed verdict_of completion_of complete_refusal expected completed timed_out expire expire_to ticked drop_slot drop_slots link_lost linked state_in take_number looked slot_freed release_step
shown = refl

-- ---- each list sent answers its request

first : Sends 0x56710ABC 4 (sent 0)
unfolding valid_completion completion_reserved read_completion completion_of
first = (ltb-true 0 4 refl, (record { count = refl; lower = refl }, tt), tt)

second : Sends 0x56710ABC 8 (sent 1)
unfolding valid_completion completion_reserved read_completion completion_of
second = (ltb-true 0 8 refl, (record { count = refl; lower = refl }, tt), (ltb-true 0 4 refl, (record { count = refl; lower = refl }, tt), tt))

poisoned : Sends 0x56710ABC 4 (sent 2)
unfolding valid_completion completion_reserved read_completion completion_of
poisoned = (ltb-true 0 4 refl, (record { count = refl; lower = refl }, tt), tt)

unsupported : Sends 0x56710ABC 4 (sent 3)
unfolding valid_completion completion_reserved read_completion completion_of
unsupported = (ltb-true 0 4 refl, (tt, refl), tt)

six : Sends 0x56710AFA 6 (sent 4)
unfolding valid_completion completion_reserved read_completion completion_of
six = (ltb-true 0 6 refl, (record { count = refl; lower = refl }, tt), (ltb-true 0 4 refl, (record { count = refl; lower = refl }, tt), tt))

last : Sends 0x56710B00 4 (sent 5)
unfolding valid_completion completion_reserved read_completion completion_of
last = (ltb-true 0 4 refl, (record { count = refl; lower = refl }, tt), tt)

dropped : Sends 0x56710ABC 4 (sent 7)
unfolding valid_completion completion_reserved read_completion completion_of
dropped = (ltb-true 0 4 refl, (record { count = refl; lower = refl }, tt), tt)

anew : Sends 0x56710ABC 4 (sent 8)
unfolding valid_completion completion_reserved read_completion completion_of
anew = (ltb-true 0 4 refl, (record { count = refl; lower = refl }, tt), tt)

-- ---- event by event: the request that a completion is paired with, and the lists of the requests sent

infixr 4 ◌then◌
◌then◌ : {A B C : Type 0} → A × B → C → A × B × C
(p, a) then rest = (p, a, rest)

quiet : Unit {0} × Unit {0}
quiet = (tt, tt)

along : Along sent begun wire0 events
unfolding bit is_set set_bit clear_bit free_from valid_completion completion_reserved read_completion power_among each_from window_right apart windows_right settings_right settings_number holds first_from window_of translated end_from burst_right burst_number length_of piece_count piece_first piece_end piece_at addresses some decode_bits is_decode_bit byte strobe numbered write_buses local_write raised fresh route data_word raised_core opened counted shut freed free_slot_from response_of refusal_response refusal_change refusal accepted taken refused fresh_core fresh_bridge new_bridge pcie_of read_refusal claimed read_to read_step config_number local_core routed_bridge config_step memory_verdict config_verdict faulted failed finished piece_closed advanced memory_completed config_answer config_completed verdict_of completion_of complete_refusal expected completed timed_out expire expire_to ticked drop_slot drop_slots link_lost linked state_in take_number looked slot_freed release_step
along =
    quiet
    then (tt, (first, tt))
    then quiet
    then quiet
    then quiet
    then (tt, (second, tt))
    then (Memᴰ.head refl, tt)
    then (Memᴰ.tail (Memᴰ.head refl), tt)
    then quiet
    then quiet
    then quiet
    then quiet
    then quiet
    then (tt, (poisoned, tt))
    then (Memᴰ.head refl, tt)
    then quiet
    then (tt, (unsupported, tt))
    then (Memᴰ.head refl, tt)
    then quiet
    then (tt, (six, (last, tt)))
    then (Memᴰ.head refl, tt)
    then (Memᴰ.tail (Memᴰ.head refl), tt)
    then quiet
    then (Memᴰ.tail (Memᴰ.head refl), tt)
    then quiet
    then quiet
    then quiet
    then quiet
    then (tt, (leb-true 1 1 refl, tt))
    then (Memᴰ.head refl, tt)
    then quiet
    then quiet
    then (tt, (dropped, tt))
    then quiet
    then quiet
    then quiet
    then quiet
    then (tt, (anew, tt))
    then (Memᴰ.head refl, tt)
    then quiet
    then quiet
    then tt

-- ---- what comes for each request is some of its list, and nothing comes for one that was not sent

past : (i : ℕ) → 8 < i → Some (paired i events) []
unfolding valid_completion completion_reserved read_completion completion_of
past i far =
    let other : (j : ℕ) → j ≤ 8 → eqb i j ≡ false = λ j near. ne_eqb i j (λ e. omega arith) in
    simp (other 0 (leb-true 0 8 refl), other 1 (leb-true 1 8 refl), other 2 (leb-true 2 8 refl), other 3 (leb-true 3 8 refl), other 4 (leb-true 4 8 refl), other 5 (leb-true 5 8 refl), other 6 (leb-true 6 8 refl), other 8 (leb-true 8 8 refl)) none

order : (i : ℕ) → Some (paired i events) (sent i)
unfolding valid_completion completion_reserved read_completion completion_of
order zero = came refl none
order (suc zero) = lost (came refl none)
order (suc (suc zero)) = came refl none
order (suc (suc (suc zero))) = came refl none
order (suc (suc (suc (suc zero)))) = came refl (came refl none)
order (suc (suc (suc (suc (suc zero))))) = came refl none
order (suc (suc (suc (suc (suc (suc zero)))))) = came refl none
order (suc (suc (suc (suc (suc (suc (suc zero))))))) = lost none
order (suc (suc (suc (suc (suc (suc (suc (suc zero)))))))) = came refl none
order (suc (suc (suc (suc (suc (suc (suc (suc (suc i))))))))) = past (suc (suc (suc (suc (suc (suc (suc (suc (suc i))))))))) (omega arith)

decode : (registers_of (run begun events).bridge).decode ≡ 0x00F00001
unfolding bit is_set set_bit clear_bit free_from valid_completion completion_reserved read_completion power_among each_from window_right apart windows_right settings_right settings_number holds first_from window_of translated end_from burst_right burst_number length_of piece_count piece_first piece_end piece_at addresses some decode_bits is_decode_bit byte strobe numbered write_buses local_write raised fresh route data_word raised_core opened counted shut freed free_slot_from response_of refusal_response refusal_change refusal accepted taken refused fresh_core fresh_bridge new_bridge pcie_of read_refusal claimed read_to read_step config_number local_core routed_bridge config_step memory_verdict config_verdict faulted failed finished piece_closed advanced memory_completed config_answer config_completed verdict_of completion_of complete_refusal expected completed timed_out expire expire_to ticked drop_slot drop_slots link_lost linked state_in take_number looked slot_freed release_step
decode = refl

pub met : Met
met = record { far = record { along = along; order = order }; tags = tags; shown = shown; decode = decode }
