-- What the code's summary means.
use Rattle.std.specs.Prelude.{ℕ}
use Rattle.records.specs.declared.file.Summary.{Summary}
use Rattle.records.specs.declared.file.Verdict.{Verdict}
use Rattle.records.specs.declared.file.Verdict.TheVariants.{Ended, Cut, Bad}
use Rattle.records.specs.File as file
use Rattle.records.specs.File.{ended, cut, bad}

abbrev pub verdict_after : ℕ → Verdict → file.Verdict
verdict_after n Ended = ended n
verdict_after n Cut = cut n
verdict_after n (Bad f at) = bad f at

abbrev pub verdict_of : Summary → file.Verdict
verdict_of x = verdict_after x.events x.verdict
