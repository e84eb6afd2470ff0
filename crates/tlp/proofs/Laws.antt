-- The laws of specs/Laws.antt, for both kinds of header.
use mathlib.Core.Path.{◌≡◌, refl}
use native.Mathlib.Omega.{arith}
use Rattle.std.specs.Prelude.{Result, Ok, Err}
use Rattle.refusals.specs.declared.Refusal.{Refusal}
use Rattle.refusals.specs.declared.Refusal.TheVariants.{Setting, NoWindow, WrongBurst, LinkDown, ConfigBusy, SlotsUsed, FewTags, TooShort, OffsetOver, NotRouted, WrongDevice, Malformed, NotExpected, NotFinished, WrongData}
use Rattle.refusals.specs.Refusals.{number_of, number_in}
use Rattle.tlp.specs.Request.{valid_request, request_bytes, read_request}
use Rattle.tlp.specs.Completion.{valid_completion, completion_bytes, read_completion}
use Rattle.tlp.specs.Laws.{ValidRequest, ValidCompletion, RequestLaws, CompletionLaws}
use Rattle.tlp.proofs.Codec.{in_order, writes, reads_exactly}
use Rattle.tlp.proofs.RequestTrip.{request_reads_back, request_writes_back}
use Rattle.tlp.proofs.CompletionTrip.{completion_reads_back, completion_writes_back}

-- no refusal has the number 0
number_some : (r : Refusal) → number_of r ≡ 0 → ⊥
number_some Setting e = absurd (omega arith)
number_some NoWindow e = absurd (omega arith)
number_some WrongBurst e = absurd (omega arith)
number_some LinkDown e = absurd (omega arith)
number_some ConfigBusy e = absurd (omega arith)
number_some SlotsUsed e = absurd (omega arith)
number_some FewTags e = absurd (omega arith)
number_some TooShort e = absurd (omega arith)
number_some OffsetOver e = absurd (omega arith)
number_some NotRouted e = absurd (omega arith)
number_some WrongDevice e = absurd (omega arith)
number_some Malformed e = absurd (omega arith)
number_some NotExpected e = absurd (omega arith)
number_some NotFinished e = absurd (omega arith)
number_some WrongData e = absurd (omega arith)

found : {A : Type 0} (a : Result A Refusal) → number_in a ≡ 0 → (v : A) × (a ≡ Ok v)
found (Ok v) e = (v, refl)
found (Err r) e = absurd (number_some r e)

pub request_laws : RequestLaws
request_laws =
    record {
      reads_back = request_reads_back;
      writes_back = request_writes_back;
      reads_exactly =
          reads_exactly ValidRequest request_bytes read_request Ok number_in (λ r. refl) found
          request_reads_back request_writes_back;
      writes_exactly = λ r room h. writes room (valid_request r) (request_bytes r) h;
      refuses_in_order = λ r room. in_order room (valid_request r) (request_bytes r);
    }

pub completion_laws : CompletionLaws
completion_laws =
    record {
      reads_back = completion_reads_back;
      writes_back = completion_writes_back;
      reads_exactly =
          reads_exactly ValidCompletion completion_bytes read_completion Ok number_in (λ c. refl)
          found completion_reads_back completion_writes_back;
      writes_exactly = λ c room h. writes room (valid_completion c) (completion_bytes c) h;
      refuses_in_order = λ c room. in_order room (valid_completion c) (completion_bytes c);
    }
