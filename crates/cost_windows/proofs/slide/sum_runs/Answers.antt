use Rattle.std.proofs.lemmas.Grind.{common_steps}
use Rattle.std.proofs.Common.{arith}
use Rattle.cost_windows.proofs.Runs.{run_of_one, sum_after}
use Rattle.cost_windows.proofs.slide.sum_runs.Goals as goal

pub take_after-requires : goal.take_after-requires
take_after-requires c = record {
  falling = λ j. omega (arith, sum_after c.args.buffer.now c.add_after.new.buffer c.args.step c.add_after.ensures.sums c.args.len j);
}

pub returns-then-len-ne1 : goal.returns-then-len-ne1
returns-then-len-ne1 c = λ j. omega (arith, c.take_after.ensures j, sum_after c.args.buffer.now c.add_after.new.buffer c.args.step c.add_after.ensures.sums c.args.len j)

pub returns-else-len-ne1 : goal.returns-else-len-ne1
returns-else-len-ne1 c = λ j. run_of_one c.args.buffer.now c.args.step c.args.len j (omega arith)

pub overflow_mul-step : goal.overflow_mul-step
overflow_mul-step c = grind (arith, common_steps)

pub add_after-requires-clause-small : goal.add_after-requires-clause-small
add_after-requires-clause-small c = grind (arith, common_steps)
