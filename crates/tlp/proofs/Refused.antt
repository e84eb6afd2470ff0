-- A completion that is not read is malformed: callers may pass the reader's refusal on.
use mathlib.Core.Path.{◌≡◌, refl, sym, ◌∙◌}
use mathlib.Core.Bool.{Bool, true, false, cond}
use mathlib.Core.List.{List}
use Prim.Native.Nat.{ℕ, ◌+◌, ◌*◌}
use lib.Dec.{eqb}
use lib.ListN.{length, take}
use Rattle.std.specs.Prelude.{Result, Ok, Err}
use Rattle.refusals.specs.declared.Refusal.{Refusal}
use Rattle.refusals.specs.declared.Refusal.TheVariants.{Malformed}
use Rattle.tlp.specs.declared.completion.Completion.{Completion}
use Rattle.tlp.specs.Completion.{valid_completion, completion_in, completion_reserved, read_completion}
use Rattle.tlp.specs.Packet.{with_payload, completion_of}

read_refused : (a b : Bool) (c : Completion) (r : Refusal) → cond a (cond b (Ok c) (Err Malformed)) (Err Malformed) ≡ Err r → r ≡ Malformed
read_refused true true c r e = cc
read_refused true false c r e = cc
read_refused false b c r e = cc

pub read_malformed : (s : List ℕ) (r : Refusal) → read_completion s ≡ Err r → r ≡ Malformed
unfolding read_completion
read_malformed s r e = read_refused (completion_reserved s) (valid_completion (completion_in s)) (completion_in s) r e

payload_refused : (a : Bool) (c : Completion) (r : Refusal) → cond a (Ok c) (Err Malformed) ≡ Err r → r ≡ Malformed
payload_refused true c r e = cc
payload_refused false c r e = cc

pub of_malformed : (s : List ℕ) (r : Refusal) → completion_of s ≡ Err r → r ≡ Malformed
unfolding completion_of
of_malformed s r e = by (read_completion (take 12 s)) refl e
  where
    by : (x : Result Completion Refusal) → read_completion (take 12 s) ≡ x → with_payload s x ≡ Err r → r ≡ Malformed
    by (Ok c) f g = payload_refused (eqb (length s) (12 + 4 * c.length)) c r g
    by (Err q) f g = let z : q ≡ r = cc in sym z ∙ read_malformed (take 12 s) q f

pub refused_malformed : (s : List ℕ) (r : Refusal) → completion_of s ≡ Err r → completion_of s ≡ Err Malformed
refused_malformed s r e = rw (← of_malformed s r e) e
