use Rattle.std.proofs.Common.{ap, ◌∙◌, arith, refl}
use Rattle.std.proofs.lemmas.Grind.{common_steps}
use Rattle.max_flow.specs.Checking.{excess_at}
use Rattle.max_flow.proofs.Counting.{zero_at}
use Rattle.max_flow.proofs.FlowLists.{Carries-at_rest, at_rest}
use Rattle.max_flow.proofs.Limits.{Carries_same}
use Rattle.max_flow.proofs.beginning.checked_flow.Goals as goal

pub returns : goal.returns
returns c = Carries_same _ _ _ _ _ _ _ _ _ refl refl refl (c.empty.ensures ∙ ap at_rest c.pipes-pipes.ensures.value) (Carries-at_rest c.args.network.now.pipes c.args.network.now.source c.args.network.now.sink)

pub empty-requires : goal.empty-requires
empty-requires c = grind (arith, common_steps)

pub flow_left-requires-clause-sized : goal.flow_left-requires-clause-sized
flow_left-requires-clause-sized c = grind (arith, common_steps)

pub returns-in-Some : goal.returns-in-Some
returns-in-Some c = grind (arith, common_steps)

pub flow_left-requires-clause-pipes : goal.flow_left-requires-clause-pipes
flow_left-requires-clause-pipes c = grind (arith, common_steps)

pub flow_left-requires-clause-source : goal.flow_left-requires-clause-source
flow_left-requires-clause-source c = omega arith

pub flow_left-requires-clause-limit : goal.flow_left-requires-clause-limit
flow_left-requires-clause-limit c = c.pipes-pipes.ensures.limit

pub flow_left-requires-clause-clear : goal.flow_left-requires-clause-clear
flow_left-requires-clause-clear c = λ n. ap (λ table. excess_at table n) (c.deref_mut.ensures.value ∙ c.in_ok-excess.ensures.items_if_clones_equal (λ y e. e)) ∙ zero_at _ n
