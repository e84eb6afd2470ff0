-- What `next` finds once the kind is known.
use mathlib.Core.Path.{◌≡◌, sym, ◌∙◌}
use mathlib.Core.List.{List}
use mathlib.Core.Bool.{Bool, true, false}
use Prim.Native.Nat.{ℕ, ◌+◌, ◌<◌, ◌≤◌}
use native.Mathlib.Omega.{arith}
use lib.Dec.{lit<}
use lib.ListN.{length}
use Rattle.records.specs.declared.Fault.TheVariants.{Length}
use Rattle.records.specs.declared.kind.Kind.{Kind}
use Rattle.records.specs.declared.kind.Kind.TheVariants.{End, Read, Write, Config, Completion, Link, Tick, Take}
use Rattle.records.specs.Layout.{layout_of, length_fits}
use Rattle.records.specs.Reading.{Next, bad, kind_in, body_in, whole, next}
use Rattle.records.specs.Code.Kinds.{kind_number}
use Rattle.records.proofs.Ways.{next_length, next_whole}

pub kind_small : (k : Kind) → kind_number k < 8
kind_small End = lit< tt
kind_small Read = lit< tt
kind_small Write = lit< tt
kind_small Config = lit< tt
kind_small Completion = lit< tt
kind_small Link = lit< tt
kind_small Tick = lit< tt
kind_small Take = lit< tt

module _ (n : ℕ) (s : List ℕ) (k : Kind) (body : ℕ) (fits : Bool) (h : 3 ≤ length s) (e : kind_number k ≡ kind_in s) (b : body ≡ body_in s) (f : fits ≡ length_fits (layout_of (kind_number k)) body) where
  here : kind_in s < 8
  here = omega (arith, kind_small k, e)

  tested : length_fits (layout_of (kind_in s)) (body_in s) ≡ fits
  tested = rw (← e, ← b) (sym f)

  pub length_unfit : fits ≡ false → bad Length ≡ next n s
  length_unfit x = sym (next_length n s h here (tested ∙ x))

  pub whole_found : fits ≡ true → 3 + body ≤ length s → (x : Next) → x ≡ whole n s → x ≡ next n s
  whole_found t l x w = w ∙ sym (next_whole n s h here (tested ∙ t) (omega (arith, b, l)))
