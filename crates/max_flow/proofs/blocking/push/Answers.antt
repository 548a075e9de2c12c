use Rattle.std.proofs.Common.{arith}
use Rattle.max_flow.proofs.Arcs.{residual-set_other, pipe_of}
use Rattle.max_flow.proofs.Moving.{fits_even, fits_odd, push_even, moves_even, moves_odd}
use Rattle.max_flow.proofs.blocking.push.Goals as goal

pub overflow_add-backward : goal.overflow_add-backward
overflow_add-backward c =
    let p = pipe_of _ _ c.args.arc c.args.graph.now.pipes_sound c.requires.arc in
    omega (arith, fits_even _ _ _ _ c.requires.residuals c.requires.arc c.requires.amount c.if-arc-eq0.true, p.ahead_limit, p.back_limit)

pub overflow_sub-backward : goal.overflow_sub-backward
overflow_sub-backward c = fits_odd _ _ _ _ c.requires.residuals c.requires.arc c.requires.amount c.if-arc-eq0.false

pub returns-then-arc-eq0-clause-residuals : goal.returns-then-arc-eq0-clause-residuals
returns-then-arc-eq0-clause-residuals c = push_even _ _ _ _ c.requires.residuals c.requires.arc c.requires.amount c.if-arc-eq0.true

pub returns-then-arc-eq0-clause-others : goal.returns-then-arc-eq0-clause-others
returns-then-arc-eq0-clause-others c = λ other apart. residual-set_other _ _ _ _ other apart

pub returns-then-arc-eq0-clause-moved : goal.returns-then-arc-eq0-clause-moved
returns-then-arc-eq0-clause-moved c = moves_even _ _ _ _ c.requires.residuals c.requires.arc c.requires.amount c.if-arc-eq0.true

pub returns-else-arc-eq0-clause-others : goal.returns-else-arc-eq0-clause-others
returns-else-arc-eq0-clause-others c = λ other apart. residual-set_other _ _ _ _ other apart

pub returns-else-arc-eq0-clause-moved : goal.returns-else-arc-eq0-clause-moved
returns-else-arc-eq0-clause-moved c = moves_odd _ _ _ _ c.requires.residuals c.requires.arc c.requires.amount c.if-arc-eq0.false
