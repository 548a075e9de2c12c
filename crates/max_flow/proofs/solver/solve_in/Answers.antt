use Rattle.std.proofs.Common.{arith}
use Rattle.std.proofs.lemmas.Grind.{common_steps}
use Rattle.std.proofs.Common.{refl, ap, ◌∙◌}
use Rattle.max_flow.proofs.FlowLists.{Carries-at_rest, at_rest}
use Rattle.max_flow.proofs.Limits.{Carries_same}
use Rattle.max_flow.proofs.solver.solve_in.Goals as goal

pub level_graphs-requires-clause-carries : goal.level_graphs-requires-clause-carries
level_graphs-requires-clause-carries c = Carries_same _ _ _ _ _ _ _ _ _ refl refl refl (c.empty.ensures ∙ ap at_rest c.pipes.ensures.value) (Carries-at_rest c.args.network.now.pipes c.args.network.now.source c.args.network.now.sink)

pub returns-in-Some : goal.returns-in-Some
returns-in-Some c = rw c.in-Some.is at c.in_ok-solved.ensures.solved

pub finish-requires-clause-sized : goal.finish-requires-clause-sized
finish-requires-clause-sized c = grind (arith, common_steps)

pub returns : goal.returns
returns c = grind (arith, common_steps)

pub finish-requires-clause-limit : goal.finish-requires-clause-limit
finish-requires-clause-limit c = grind (arith, common_steps)

pub empty-requires : goal.empty-requires
empty-requires c = grind (arith, common_steps)
