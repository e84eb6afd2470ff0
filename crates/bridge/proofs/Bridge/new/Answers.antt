use Rattle.std.proofs.Common.{◌≡◌, ap, ◌∙◌}
use Rattle.refusals.specs.Refusals.{number_of}
use Rattle.machine.specs.State.{Bridge, answered, refusal, refused, refusal_change, new_bridge}
use Rattle.machine.proofs.Refusals.{wrong_setting_is}
use Rattle.bridge.proofs.Bridge.new.Goals as goal

pub returns-in-Err : goal.returns-in-Err
unfolding new_bridge refused refusal_change
returns-in-Err c =
    let w = wrong_setting_is c.args.s c.in-Err.why c.in-Err.ensures in
    let e : number_of c.in-Err.why ≡ 1 = c.in-Err.ensures ∙ w in
    rw (w, e, ← c.example_settings.ensures) (ap (λ (b : Bridge). answered b (refusal 1)) c.fresh_bridge-in-Err.ensures)
