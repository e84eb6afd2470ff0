-- The examples, by computing.
use mathlib.Core.Path.{refl}
use Rattle.bits.specs.Bits.{bit, is_set}
use Rattle.tags.specs.Tags.{free_from}
use Rattle.tlp.specs.Request.{valid_target, valid_request, format_type, target_bytes, request_bytes}
use Rattle.address.specs.Windows.{holds, first_from, window_of, translated}
use Rattle.burst.specs.Bursts.{end_from, burst_right, burst_number, length_of, data_number}
use Rattle.burst.specs.Pieces.{piece_count, piece_first, piece_end, piece_at}
use Rattle.burst.specs.Words.{word_address, word_count, first_enables, last_enables, words_of}
use Rattle.ecam.specs.Registers.{fresh}
use Rattle.machine.specs.State.{free_slot_from, fresh_core, fresh_bridge}
use Rattle.machine.specs.Memory.{pcie_of, memory_request, packet, read_refusal, write_refusal, write_packet, write_sent}
use Rattle.machine.specs.Ticks.{linked}
use Rattle.bridge_laws.specs.MemoryExamples.{WriteTwo, InOrder, W11}

pub write_two : WriteTwo
unfolding valid_target valid_request format_type target_bytes request_bytes holds first_from window_of translated end_from burst_right burst_number length_of data_number piece_count piece_first piece_end piece_at word_address word_count first_enables last_enables words_of fresh fresh_core fresh_bridge linked pcie_of memory_request packet write_refusal write_packet write_sent
write_two = (refl, refl)

pub in_order_lem : InOrder
unfolding holds first_from window_of end_from burst_right burst_number length_of data_number fresh fresh_core fresh_bridge linked write_refusal
in_order_lem = (refl, refl, refl, refl, refl, refl)

pub w11 : W11
unfolding bit is_set free_from holds first_from window_of end_from burst_right burst_number length_of piece_count fresh free_slot_from fresh_core fresh_bridge linked read_refusal
w11 = (refl, refl)
