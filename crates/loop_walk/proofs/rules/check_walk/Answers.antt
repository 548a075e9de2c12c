use Rattle.std.proofs.Common.{◌<◌, length, sym, ◌∙◌, ap, arith, below_more, get_or}
use Rattle.std.proofs.lemmas.List.{take_all}
use Rattle.frame_distance.specs.Steps.{step_at}
use Rattle.loop_walk.specs.Walks.{steps_cost, steps_round}
use Rattle.loop_walk.proofs.CheckLaws.{cost_more, length-steps_round}
use Rattle.loop_walk.proofs.WayLaws.{some_is}
use Rattle.loop_walk.specs.Records.{StepHolds}
use Rattle.loop_walk.proofs.rules.check_walk.Goals as goal

pub loop-position-preserved : goal.loop-position-preserved
loop-position-preserved c =
    let costs = c.args.costs.now in
    let steps = steps_round c.args.walk.now in
    let p = c.loop-position.position in
    let below : p < length steps = omega (arith, length-steps_round c.args.walk.now) in
    record {
      so_far = cost_more costs steps p c.loop-position.cost c.in-Some.step below c.loop-position.invariant.so_far c.in-Some.ensures.cost;
      small = omega (arith, c.loop-position.invariant.small, c.in-Some.ensures.below);
      before = below_more (StepHolds costs c.args.walk.now) p c.loop-position.invariant.before
          (some_is (step_at costs (get_or steps p (0, 0)).0 (get_or steps p (0, 0)).1) c.in-Some.step (sym c.in-Some.ensures.cost));
    }

pub returns-clause-cost : goal.returns-clause-cost
returns-clause-cost c =
    let steps = steps_round c.args.walk.now in
    ap (steps_cost c.args.costs.now) (sym (take_all c.loop-position.position steps (omega (arith, length-steps_round c.args.walk.now)))) ∙ c.loop-position.invariant.so_far
