-- A completion's header and payload in its bytes, and the test of the verdict.
use Rattle.std.proofs.Common.{◌≡◌, ℕ, ◌+◌, ◌-◌, ◌*◌, Bool, true, false, cond, eqb, List, length, take, drop, refl, arith}
use lib.ListN.{length-drop}
use lib.Seq.{take_all}
use Rattle.refusals.specs.Table.{not_expected}
use Rattle.tlp.specs.declared.completion.Completion.{Completion}
use Rattle.std.specs.Prelude.{Ok}
use Rattle.tlp.specs.Completion.{valid_completion}
use Rattle.machine.specs.State.{core_in, refusal_change}
use Rattle.machine.specs.Completions.{Held, held, completion_of}
use Rattle.machine.specs.Code.Expected.{Whole}
use Rattle.machine.proofs.Judging.{read_whole}

-- a header that was read is valid, and its payload stands behind it
pub header_valid : (s : List ℕ) (c : Completion) → completion_of s ≡ Ok c → valid_completion c ≡ true
header_valid s c e = let w : Whole s (Ok c) = rw e at (read_whole s) in w.0

pub header_length : (s : List ℕ) (c : Completion) → completion_of s ≡ Ok c → length s ≡ 12 + 4 * c.length
header_length s c e = let w : Whole s (Ok c) = rw e at (read_whole s) in w.1

pub behind_header : (s : List ℕ) → take (length s - 12) (drop 12 s) ≡ drop 12 s
behind_header s = take_all (length s - 12) (drop 12 s) (simp length-drop (omega arith))

-- what a header's completion comes to, in the order of the code and as one test
pub one_test : (t : Bool) (h x : Held) → cond t (held (core_in (refusal_change not_expected h.bridge.core) h.bridge) h.store) x ≡ cond (eqb (cond t not_expected 0) 0) x (held (core_in (refusal_change (cond t not_expected 0) h.bridge.core) h.bridge) h.store)
one_test true h x = refl
one_test false h x = refl
