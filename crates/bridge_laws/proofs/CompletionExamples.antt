-- W3's completion, by computation.
use mathlib.Core.Path.{refl}
use Rattle.tlp.specs.Completion.{valid_completion, completion_reserved, read_completion}
use Rattle.bits.specs.Bits.{bit, is_set, set_bit, clear_bit}
use Rattle.tags.specs.Tags.{free_from}
use Rattle.ecam.specs.Registers.{some, decode_bits, is_decode_bit, raised, fresh}
use Rattle.tlp.specs.Request.{valid_target, valid_request, format_type, target_bytes, request_bytes}
use Rattle.address.specs.Windows.{holds, first_from, window_of, translated}
use Rattle.burst.specs.Bursts.{end_from, burst_right, burst_number, length_of}
use Rattle.burst.specs.Pieces.{piece_count, piece_first, piece_end, piece_at}
use Rattle.burst.specs.Words.{word_address, word_count, first_enables, last_enables}
use Rattle.machine.specs.State.{raised_core, opened, counted, shut, freed, free_slot_from, accepted, refused, refusal, fresh_core, fresh_bridge, refusal_change}
use Rattle.machine.specs.Memory.{pcie_of, memory_request, packet, read_refusal, claimed, read_to, read_sent, read_step}
use Rattle.machine.specs.Ticks.{linked}
use Rattle.machine.specs.Verdict.{memory_verdict, config_verdict}
use Rattle.machine.specs.Completions.{faulted, failed, finished, piece_closed, advanced, memory_completed, config_answer, config_completed, verdict_of, completion_of, complete_refusal, expected, completed}
use Rattle.bridge_laws.specs.CompletionExamples.{W3Completed, W3Refused, W3Poisoned}

pub w3_completed : W3Completed
unfolding valid_completion completion_reserved read_completion is_set bit set_bit clear_bit free_from some decode_bits is_decode_bit raised fresh raised_core opened counted shut freed fresh_core fresh_bridge refusal_change memory_verdict config_verdict faulted failed finished piece_closed advanced memory_completed config_answer config_completed verdict_of completion_of complete_refusal expected completed holds first_from window_of translated end_from burst_right burst_number length_of piece_count piece_first piece_end piece_at word_address word_count first_enables last_enables valid_target valid_request format_type target_bytes request_bytes free_slot_from accepted refused refusal pcie_of memory_request packet read_refusal claimed read_to read_sent read_step linked
w3_completed = record { accepted = refl; bytes = refl; finished = refl; okay = refl; closed = refl; free = refl; again = refl }

pub w3_refused : W3Refused
unfolding valid_completion completion_reserved read_completion is_set bit set_bit clear_bit free_from some decode_bits is_decode_bit raised fresh raised_core opened counted shut freed fresh_core fresh_bridge refusal_change memory_verdict config_verdict faulted failed finished piece_closed advanced memory_completed config_answer config_completed verdict_of completion_of complete_refusal expected completed holds first_from window_of translated end_from burst_right burst_number length_of piece_count piece_first piece_end piece_at word_address word_count first_enables last_enables valid_target valid_request format_type target_bytes request_bytes free_slot_from accepted refused refusal pcie_of memory_request packet read_refusal claimed read_to read_sent read_step linked
w3_refused = record { count = refl; lower = refl; short = refl; reserved = refl; room = refl; bit = refl }

pub w3_poisoned : W3Poisoned
unfolding valid_completion completion_reserved read_completion is_set bit set_bit clear_bit free_from some decode_bits is_decode_bit raised fresh raised_core opened counted shut freed fresh_core fresh_bridge refusal_change memory_verdict config_verdict faulted failed finished piece_closed advanced memory_completed config_answer config_completed verdict_of completion_of complete_refusal expected completed holds first_from window_of translated end_from burst_right burst_number length_of piece_count piece_first piece_end piece_at word_address word_count first_enables last_enables valid_target valid_request format_type target_bytes request_bytes free_slot_from accepted refused refusal pcie_of memory_request packet read_refusal claimed read_to read_sent read_step linked
w3_poisoned = record { accepted = refl; bytes = refl; slverr = refl; bit = refl }
