use Rattle.std.proofs.lemmas.Grind.{common_steps}
use Rattle.std.proofs.Common.{◌≡◌, ◌<◌, arith, length, sym, ◌∙◌, pos, below_more}
use Rattle.std.proofs.lemmas.Int.{ints}
use Rattle.std.proofs.lemmas.List.{same_lists, get_or-set_same, get_or-set_other, get_or_default}
use Rattle.max_flow.specs.Networks.{no_pipe}
use Rattle.max_flow.specs.Residual.{flows_of}
use Rattle.max_flow.proofs.FlowLists.{length-flows_of, flow_at-flows_of}
use Rattle.max_flow.proofs.solver.write_flows.Goals as goal

pub loop-j-preserved : goal.loop-j-preserved
loop-j-preserved c =
    let in_pipes : c.loop-j.j < length c.args.pipes.now = omega (arith, c.requires.sized) in
    let limits = c.requires.pipes c.loop-j.j no_pipe in_pipes in
    below_more _ _
    (λ k lt. get_or-set_other c.loop-j.flow c.loop-j.j k _ (pos 0) (λ e. absurd (omega arith)) ∙ c.loop-j.invariant k lt)
    (get_or-set_same c.loop-j.flow c.loop-j.j _ (pos 0) (omega (arith, c.requires.sized))
    ∙ (omega (arith, ints, c.requires.residuals.within c.loop-j.j in_pipes, limits.ahead_limit, limits.back_limit)) ∙ sym (flow_at-flows_of c.args.pipes.now c.args.backward.now c.loop-j.j c.requires.residuals.sized in_pipes))

pub returns : goal.returns
returns c =
    let flows = flows_of c.args.pipes.now c.args.backward.now in
    let sized : length flows ≡ length c.args.pipes.now = length-flows_of c.args.pipes.now c.args.backward.now c.requires.residuals.sized in
    same_lists c.loop-j.flow flows (omega (arith, sized, c.requires.sized))
    (λ k d lt. get_or_default c.loop-j.flow k d (pos 0) lt ∙ c.loop-j.invariant k (omega arith) ∙ get_or_default flows k (pos 0) d (omega (arith, sized, c.requires.sized)))

pub overflow_sub-flow : goal.overflow_sub-flow
overflow_sub-flow c = grind (arith, common_steps)

pub overflow_cast-flow-in-loop-j : goal.overflow_cast-flow-in-loop-j
overflow_cast-flow-in-loop-j c = grind (arith, common_steps)

pub overflow_cast-flow : goal.overflow_cast-flow
overflow_cast-flow c = grind (arith, common_steps)
