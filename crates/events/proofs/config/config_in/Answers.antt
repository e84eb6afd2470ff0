use Rattle.std.proofs.Common.{[], refl, sym, ap, ◌∙◌}
use Rattle.parts.specs.Access.{goes_out}
use Rattle.machine.proofs.Configs.{ready}
use Rattle.events.proofs.config.config_in.Goals as goal

pub routed-sent-requires : goal.routed-sent-requires
routed-sent-requires c =
    ready _ _ _ (sym (c.in-Ok.ensures.number [])) (ap goes_out (sym (c.in-Ok.ensures.route [] c.in-Ok.x refl)) ∙ sym c.goes_out.ensures ∙ c.if-goes_out.true)
