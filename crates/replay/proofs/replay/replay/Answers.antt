use mathlib.Core.Path.{◌≡◌, refl}
use native.Mathlib.Omega.{arith}
use lib.ListN.{length}
use Rattle.replay.specs.Play.{replay_number}
use Rattle.replay.proofs.Going.{refused_held, refused_rows, plays_none}
use Rattle.replay.proofs.replay.replay.Goals as goal
use Rattle.replay.proofs.replay.replay.Goals.{then-held-lt-LONGEST-via-then-held-lt-LONGEST, then-held-lt-LONGEST-via-else-held-lt-LONGEST+then-rows-allowed}

pub returns-then-held-lt-LONGEST-clause-plays : goal.returns-then-held-lt-LONGEST-clause-plays
returns-then-held-lt-LONGEST-clause-plays c =
    let held = length c.args.held.now in
    let rows = length c.args.rows.now in
    let n : replay_number held rows c.args.allowed ≡ 8 = elim c.then-held-lt-LONGEST.branch [ then-held-lt-LONGEST-via-then-held-lt-LONGEST w ↦ refused_held held rows c.args.allowed w.if-held-lt-LONGEST.true | then-held-lt-LONGEST-via-else-held-lt-LONGEST+then-rows-allowed w ↦ refused_rows held rows c.args.allowed w.if-held-lt-LONGEST.false w.if-rows-allowed.true ] in
    plays_none _ c.args.input.now (replay_number held rows c.args.allowed) c.args.allowed c.args.rows.now (λ told. refl) (λ e. omega (arith, n, e))
