-- What an answer holds, and what a refusal changes.
use Rattle.std.specs.Prelude.{ℕ, cond, ◌==◌}
use Rattle.parts.specs.Cores.{Core, raised_core}
pub use Rattle.parts.specs.Cores.{no_figures}
use Rattle.parts.specs.declared.Figures.{Figures}
use Rattle.verdict.specs.Verdict.{okay, decerr}
use Rattle.refusals.specs.declared.Response.TheVariants.{Nothing, Okay, Slverr, Decerr}
use Rattle.refusals.specs.declared.Response.{Response}
use Rattle.refusals.specs.Table.{Change, keeps, sets, change_of}
unfoldable pub use Rattle.refusals.specs.Table.{refusal_response}

-- what an event answers: the refusal number, 0 for accepted; the response; the slot; how many bytes were sent; the data word;
-- and the figures of a kept answer
pub record Answer : Type 0 where
  pub number : ℕ
  pub response : Response
  pub slot : ℕ
  pub length : ℕ
  pub word : ℕ
  pub figures : Figures

-- the response of AXI's coding
unfoldable pub response_of : ℕ → Response
response_of code = cond (code == okay) Okay (cond (code == decerr) Decerr Slverr)

-- what a row of the refusal table changes in the core
abbrev pub changed : Change → Core → Core
changed keeps c = c
changed (sets i) c = raised_core i c

unfoldable pub refusal_change : ℕ → Core → Core
refusal_change n c = changed (change_of n) c

-- 'A refused call reports sent length, slot and data word 0'
unfoldable pub refusal : ℕ → Answer
refusal n = record { number = n; response = refusal_response n; slot = 0; length = 0; word = 0; figures = no_figures }

unfoldable pub accepted : Response → ℕ → ℕ → ℕ → Answer
accepted response slot sent word =
    record { number = 0; response = response; slot = slot; length = sent; word = word; figures = no_figures }

-- an accepted release, which alone reports the figures that were kept with the answer
unfoldable pub taken : Response → ℕ → Figures → Answer
taken response word figures =
    record { number = 0; response = response; slot = 0; length = 0; word = word; figures = figures }

-- what an event that sends nothing answers
abbrev pub plain : ℕ → Answer
plain number = cond (number == 0) (accepted Nothing 0 0 0) (refusal number)
