use native.Mathlib.Omega.{arith}
use Rattle.records.proofs.Judging.{kind_small}
use Rattle.records.proofs.Laying.{front_laid}
use Rattle.records.proofs.writing.front.Goals as goal

pub returns : goal.returns
returns c = rw (c.copy_from_slice.ensures.after, c.copy_from_slice-2.ensures.after, c.copy_from_slice-3.ensures.after, c.to_be_bytes.ensures, c.to_be_bytes-2.ensures, c.to_be_bytes-3.ensures) (front_laid c.args.p _ (omega (arith, c.number.ensures, kind_small c.args.p.kind)))
