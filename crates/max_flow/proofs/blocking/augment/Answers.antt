use Rattle.std.proofs.Common.{◌≡◌, length, subst, sym, arith}
use Rattle.std.proofs.lemmas.Grind.{common_steps}
use Rattle.max_flow.specs.Paths.{LeadsFrom}
use Rattle.max_flow.proofs.Moving.{IsPushing_more}
use Rattle.max_flow.proofs.blocking.augment.Goals as goal

pub loop-arc-preserved : goal.loop-arc-preserved
loop-arc-preserved c = IsPushing_more _ _ _ _ _ _ _ _ _ c.requires.path c.loop-arc.invariant (omega arith) c.push.ensures.residuals c.push.ensures.others c.push.ensures.moved

pub returns-clause-moved : goal.returns-clause-moved
returns-clause-moved c =
    let whole : c.loop-arc.arc-index ≡ length c.args.path.now = omega (arith, c.loop-arc-test.false, c.loop-arc.auto.arc-index-end) in
    c.loop-arc.invariant.moved c.args.graph.now.sink (subst (λ k. LeadsFrom c.args.graph.now.pipes.now c.args.graph.now.source c.args.path.now k c.args.graph.now.sink) (sym whole) c.requires.sink)

pub push-requires-clause-residuals : goal.push-requires-clause-residuals
push-requires-clause-residuals c = grind (arith, common_steps)

pub push-requires-clause-arc : goal.push-requires-clause-arc
push-requires-clause-arc c = grind (arith, common_steps)

pub bottleneck-amount-requires-clause-arcs : goal.bottleneck-amount-requires-clause-arcs
bottleneck-amount-requires-clause-arcs c = grind (arith, common_steps)

pub push-requires-clause-amount : goal.push-requires-clause-amount
push-requires-clause-amount c = omega arith

pub returns-clause-residuals : goal.returns-clause-residuals
returns-clause-residuals c = c.loop-arc.invariant.residuals

pub bottleneck-amount-requires-clause-residuals : goal.bottleneck-amount-requires-clause-residuals
bottleneck-amount-requires-clause-residuals c = c.requires.residuals

pub bottleneck-amount-requires-clause-open_arcs : goal.bottleneck-amount-requires-clause-open_arcs
bottleneck-amount-requires-clause-open_arcs c = grind (arith, common_steps)
