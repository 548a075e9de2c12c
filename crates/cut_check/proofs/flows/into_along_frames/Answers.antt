use Rattle.std.proofs.Common.{arith}
use Rattle.std.proofs.lemmas.Grind.{common_steps}
use Rattle.std.proofs.Common.{ap, rules, w16, ◌∙◌}
use Rattle.std.proofs.lemmas.Int.{to_z-of_z}
use mir.Val.{SFits}
use Rattle.cut_check.specs.declared.record.Flow.{Flow}
use Rattle.cut_check.proofs.Above.{flow_before}
use Rattle.cut_check.proofs.flows.into_along_frames.Goals as goal

pub returns-then-at-gt0 : goal.returns-then-at-gt0
returns-then-at-gt0 c =
    let at = c.args.walk.at in
    let fits : SFits w16 c.flow_at.result.y = search rules in
    to_z-of_z w16 c.flow_at.result.y fits
    ∙ ap (λ (flow : Flow). flow.y) (c.flow_at.ensures ∙ flow_before c.args.size c.args.flows.now at.x at.y at.f c.if-at-gt0.true)

pub returns-else-at-gt0 : goal.returns-else-at-gt0
returns-else-at-gt0 c = grind (arith, common_steps)
