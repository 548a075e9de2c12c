use Rattle.std.proofs.lemmas.Grind.{common_steps}
use Rattle.std.proofs.Common.{ap, arith, rules, w16, ◌∙◌}
use Rattle.std.proofs.lemmas.Int.{to_z-of_z}
use mir.Val.{SFits}
use Rattle.cut_check.specs.declared.record.Flow.{Flow}
use Rattle.cut_check.proofs.Above.{flow_of_above, number_above, pairs_above}
use Rattle.cut_check.proofs.flows.into_along_y.Goals as goal

pub overflow_sub-above : goal.overflow_sub-above
overflow_sub-above c =
    let at = c.args.walk.at in
    omega (arith, pairs_above c.args.size at.x at.y at.f c.if-walk-gt0.true c.requires.inside.counts, c.requires.inside.before, c.pairs_since_above.ensures)

pub returns-then-walk-gt0 : goal.returns-then-walk-gt0
returns-then-walk-gt0 c =
    let at = c.args.walk.at in
    let some = c.if-walk-gt0.true in
    let fits : SFits w16 c.flow_of.result.y = search rules in
    to_z-of_z w16 c.flow_of.result.y fits
    ∙ ap (λ (flow : Flow). flow.y) (c.flow_of.ensures ∙ flow_of_above c.args.size c.args.flows.now at.x at.y at.f _ some c.requires.inside.counts
    (omega (arith, pairs_above c.args.size at.x at.y at.f some c.requires.inside.counts, number_above c.args.size at.x at.y at.f, c.requires.inside.before, c.pairs_since_above.ensures, c.one_along_x.ensures)))

pub overflow_add-above : goal.overflow_add-above
overflow_add-above c = grind (arith, common_steps)

pub returns-else-walk-gt0 : goal.returns-else-walk-gt0
returns-else-walk-gt0 c = grind (arith, common_steps)
