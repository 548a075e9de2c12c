use Rattle.std.proofs.Common.{◌+◌, ◌-◌, ap, sym, ◌∙◌, arith}
use Rattle.std.proofs.lemmas.Grind.{common_steps}
use Rattle.max_flow.specs.Levels.{IsAdmissible, level_of}
use Rattle.max_flow.proofs.Walking.{IsPassing_more}
use Rattle.max_flow.proofs.paths.next_admissible.Goals as goal
use Rattle.max_flow.proofs.paths.next_admissible.Goals.{else-from-level-via-then-from-level+else-residual-gt0, else-from-level-via-else-from-level}

pub arcs-preserved : goal.arcs-preserved
arcs-preserved c =
    let pipes = c.args.graph.now.pipes.now in
    let levels = c.args.levels.now in
    let fails : IsAdmissible pipes c.args.backward.now levels (c.arcs.cursor - 1) → ⊥ =
    elim c.else-from-level.branch [
      | else-from-level-via-then-from-level+else-residual-gt0 w ↦ λ is. absurd (omega (arith, is.open_arc, w.residual.ensures, w.if-residual-gt0.false))
      | else-from-level-via-else-from-level w ↦ λ is. absurd (w.if-from-level.false (c.from.ensures ∙ ap (level_of levels) c.beyond.ensures.value ∙ is.rises
          ∙ ap (λ n. level_of levels n + 1) (c.arcs.invariant.here c.arcs-test.true) ∙ sym (ap (λ level. level + 1) c.from-level.ensures)))
    ] in
    IsPassing_more _ _ _ _ _ _ _ c.arcs.invariant c.arcs-test.true (c.args.graph.now.chained.goes_on _ (omega (arith, c.arcs.invariant.low, c.requires.low))) fails

pub arcs-smaller : goal.arcs-smaller
arcs-smaller c = grind (arith, common_steps)

pub residual-requires-clause-residuals : goal.residual-requires-clause-residuals
residual-requires-clause-residuals c = grind (arith, common_steps)

pub returns-then-residual-gt0-clause-admissible : goal.returns-then-residual-gt0-clause-admissible
returns-then-residual-gt0-clause-admissible c = grind (arith, common_steps)

pub returns-then-residual-gt0-clause-here : goal.returns-then-residual-gt0-clause-here
returns-then-residual-gt0-clause-here c = c.arcs.invariant.here

pub returns-then-residual-gt0-clause-passed : goal.returns-then-residual-gt0-clause-passed
returns-then-residual-gt0-clause-passed c = c.arcs.invariant.passed

pub beyond-requires-clause-leaves : goal.beyond-requires-clause-leaves
beyond-requires-clause-leaves c = omega arith

pub returns-then-residual-gt0-clause-low : goal.returns-then-residual-gt0-clause-low
returns-then-residual-gt0-clause-low c = c.arcs.invariant.low

pub arcs-init : goal.arcs-init
arcs-init c = omega arith

pub bounds-graph-arc : goal.bounds-graph-arc
bounds-graph-arc c = omega arith

pub residual-requires-clause-arc : goal.residual-requires-clause-arc
residual-requires-clause-arc c = omega arith

pub offset_bounds-graph-arc : goal.offset_bounds-graph-arc
offset_bounds-graph-arc c = omega arith

pub returns-clause-passed : goal.returns-clause-passed
returns-clause-passed c = grind (arith, common_steps)
