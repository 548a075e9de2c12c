use Rattle.std.proofs.Common.{arith}
use Rattle.std.proofs.lemmas.Grind.{common_steps}
use Rattle.std.proofs.Common.{ap, rules, sym, subst, w16, ◌∙◌}
use Rattle.std.specs.Prelude.{◌-ℤ◌, pos}
use mir.Val.{SFits}
use Rattle.cut_check.specs.Flows.{IsBetween, minus_of}
use Rattle.cut_check.specs.Steps.{most_along}
use Rattle.cut_check.proofs.Held.{held_difference, near_difference}
use Rattle.cut_check.specs.declared.record.Flow.{Flow}
use Rattle.cut_check.proofs.flows.leaving_along_y.Goals as goal

pub returns-clause-near : goal.returns-clause-near
returns-clause-near c =
    let out = c.flow_at-out.result.x in
    let into = c.into_along_y.result in
    let out_fits : SFits w16 out = search rules in
    let into_fits : SFits w16 into = search rules in
    subst (IsBetween (minus_of most_along) (pos most_along)) (sym (held_difference out into c.from.result c.from-2.result out_fits into_fits c.from.ensures c.from-2.ensures)) (near_difference out into out_fits into_fits)

pub returns-clause-is : goal.returns-clause-is
returns-clause-is c =
    let out = c.flow_at-out.result.x in
    let into = c.into_along_y.result in
    let out_fits : SFits w16 out = search rules in
    let into_fits : SFits w16 into = search rules in
    held_difference out into c.from.result c.from-2.result out_fits into_fits c.from.ensures c.from-2.ensures ∙ (λ k. ap (λ (flow : Flow). flow.x) c.flow_at-out.ensures k -ℤ c.into_along_y.ensures k)

pub overflow_sub-result : goal.overflow_sub-result
overflow_sub-result c = grind (arith, common_steps)
