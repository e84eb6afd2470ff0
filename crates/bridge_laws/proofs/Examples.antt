-- The ten starred examples and W12 hold, by computing.
use Prim.Native.Nat.{◌^◌, ◌≤◌, ◌<◌}
use mathlib.Core.Path.{◌≡◌, refl}
use mathlib.Core.Bool.{true}
use native.Mathlib.Omega.{arith}
use lib.Dec.{lit<}
use Rattle.bits.specs.Bits.{bit, is_set, set_bit, clear_bit}
use Rattle.tags.specs.Tags.{free_from}
use Rattle.tlp.specs.Request.{valid_target, valid_request, format_type, target_bytes, request_bytes}
use Rattle.address.specs.Settings.{example_settings}
use Rattle.address.specs.Windows.{holds, first_from, window_of, translated}
use Rattle.burst.specs.Bursts.{end_from, burst_right, burst_number, length_of}
use Rattle.burst.specs.Pieces.{piece_count, piece_first, piece_end, piece_at}
use Rattle.burst.specs.Words.{word_address, word_count, first_enables, last_enables}
use Rattle.burst.proofs.Examples as burst
use Rattle.ecam.specs.Registers.{fresh, raised}
use Rattle.ecam.specs.Route.{route}
use Rattle.ecam.specs.Request.{config_request, config_target, config_address}
use Rattle.ecam.proofs.Examples as ecam
use Rattle.machine.specs.State.{raised_core, opened, shut, free_slot_from, accepted, refused, refusal, fresh_core, fresh_bridge}
use Rattle.machine.specs.Memory.{area_size, pcie_of, memory_request, packet, read_refusal, claimed, read_to, read_sent, read_step}
use Rattle.machine.specs.Completions.{faulted, failed, finished, piece_closed}
use Rattle.machine.specs.Ticks.{timed_out, expire, expire_to, ticked, linked}
use Rattle.machine.specs.Config.{Access, route_of, goes_out, config_refusal, config_number, payload_of}
use Rattle.machine.proofs.Configs.{passed}
use Rattle.machine.specs.Bridge.{Bridge}
use Rattle.bridge_laws.specs.RouteLaws.{Ready}
use Rattle.bridge_laws.specs.Examples.{W1, W10, bus_bridge, read_at, Played, Starred, Reached}
use Rattle.bridge_laws.proofs.RouteLaws.{secondary_reached, behind_reached}
use Rattle.bridge_laws.proofs.CompletionExamples.{w3_completed, w3_refused}

w1 : W1
unfolding bit is_set set_bit clear_bit free_from valid_target valid_request format_type target_bytes request_bytes holds first_from window_of translated end_from burst_right burst_number length_of piece_count piece_first piece_end piece_at word_address word_count first_enables last_enables fresh raised raised_core opened free_slot_from accepted refused refusal fresh_core fresh_bridge pcie_of memory_request packet read_refusal claimed read_to read_sent read_step linked
w1 = record { number = refl; bytes = refl }

w10 : W10
unfolding bit is_set set_bit clear_bit free_from valid_target valid_request format_type target_bytes request_bytes holds first_from window_of translated end_from burst_right burst_number length_of piece_count piece_first piece_end piece_at word_address word_count first_enables last_enables fresh raised raised_core opened shut free_slot_from accepted refused refusal fresh_core fresh_bridge pcie_of memory_request packet read_refusal claimed read_to read_sent read_step linked faulted failed finished piece_closed timed_out expire expire_to ticked
w10 = record { zero = refl; stays = refl; one = refl; closed = refl; finished = refl }

played : Played
unfolding bit is_set set_bit clear_bit free_from valid_target valid_request format_type target_bytes request_bytes holds first_from window_of translated end_from burst_right burst_number length_of piece_count piece_first piece_end piece_at word_address word_count first_enables last_enables fresh raised raised_core opened free_slot_from accepted refused refusal fresh_core fresh_bridge pcie_of memory_request packet read_refusal claimed read_to read_sent read_step linked route config_request config_target config_address config_number payload_of
played =
    record {
      w2 = refl;
      w3 = refl;
      w4 = refl;
      w5 = refl;
      w6 = refl;
      w7 = refl;
      w8 = refl;
      w9 = refl;
      crossed = refl;
      w12 = refl;
      w12_accepted = refl;
    }

pub starred : Starred
starred =
    record {
      w1 = w1;
      w2 = burst.w2;
      w3 = burst.w3;
      w4 = burst.w4;
      w5 = burst.w5;
      w6 = burst.w6;
      w7 = ecam.w7;
      w8 = ecam.w8;
      w9 = ecam.w9;
      w10 = w10;
      w12 = ecam.w12;
      played = played;
      answered = w3_completed;
      refused = w3_refused;
    }

-- ---- the function that W7 and W12 name

-- a bridge that accepts an access which goes out can send
ready : (b : Bridge) (a : Access) → b.settings.bits ≤ 8 → b.settings.requester < 2 ^ 16 → config_refusal b a area_size ≡ 0
    → goes_out (route_of b a) ≡ true → Ready b area_size
ready b a n q e g =
    let p = passed b.core (route_of b a) area_size e in
    record { bits = n; requester = q; long = p.long; free = p.free; up = p.up g; tag = p.tag g }

pub reached : Reached
unfolding bit is_set set_bit clear_bit free_from valid_target valid_request format_type target_bytes request_bytes holds first_from window_of translated end_from burst_right burst_number length_of piece_count piece_first piece_end piece_at word_address word_count first_enables last_enables fresh raised raised_core opened free_slot_from accepted refused refusal fresh_core fresh_bridge pcie_of memory_request packet read_refusal claimed read_to read_sent read_step linked route config_request config_target config_address config_number payload_of
reached =
    record {
      w7 =
          secondary_reached (bus_bridge example_settings 0 1 1) (read_at 0x00100000) area_size _
          (ready (bus_bridge example_settings 0 1 1) (read_at 0x00100000) (omega arith) (lit< tt) refl refl) refl
          (record { valid = refl; fits = lit< tt; not_primary = λ e. omega (arith, e) }) refl (omega arith) refl;
      w12 =
          behind_reached (bus_bridge example_settings 0 1 2) (read_at 0x00228000) area_size _
          (ready (bus_bridge example_settings 0 1 2) (read_at 0x00228000) (omega arith) (lit< tt) refl refl) refl
          (record { valid = refl; fits = lit< tt; not_primary = λ e. omega (arith, e) }) (lit< tt) (omega arith);
    }
