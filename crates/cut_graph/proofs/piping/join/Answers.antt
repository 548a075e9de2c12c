use Rattle.std.proofs.lemmas.Grind.{common_steps}
use Rattle.std.proofs.Common.{ap, ◌∙◌, arith}
use Rattle.cells.specs.Distances.{distance}
use Rattle.costs.specs.Costs.{seam}
use Rattle.max_flow.specs.Networks.{FlowNetwork}
use Rattle.cut_graph.proofs.piping.join.Goals as goal

pub join_sink-requires-clause-small : goal.join_sink-requires-clause-small
join_sink-requires-clause-small c = omega arith

pub add_pipe-requires-clause-room : goal.add_pipe-requires-clause-room
add_pipe-requires-clause-room c = omega arith

pub add_pipe-requires-in-Some-Some-clause-room : goal.add_pipe-requires-in-Some-Some-clause-room
add_pipe-requires-in-Some-Some-clause-room c = omega (arith, c.requires.room, ap (λ (n : FlowNetwork). n.spare) c.add_pipe.ensures)

pub join_sink-requires-clause-room : goal.join_sink-requires-clause-room
join_sink-requires-clause-room c = omega (arith, c.requires.room, ap (λ (n : FlowNetwork). n.spare) c.add_pipe.ensures, ap (λ (n : FlowNetwork). n.spare) c.add_pipe-in-Some-Some.ensures)

pub join_sink-requires-clause-node_in : goal.join_sink-requires-clause-node_in
join_sink-requires-clause-node_in c = omega (arith, c.requires.seam_in, ap (λ (n : FlowNetwork). n.nodes) c.add_pipe.ensures, ap (λ (n : FlowNetwork). n.nodes) c.add_pipe-in-Some-Some.ensures)

pub join_sink-requires-clause-ends : goal.join_sink-requires-clause-ends
join_sink-requires-clause-ends c = omega (arith, c.requires.ends, ap (λ (n : FlowNetwork). n.nodes) c.add_pipe.ensures, ap (λ (n : FlowNetwork). n.nodes) c.add_pipe-in-Some-Some.ensures)

pub costs_of_old-back-requires-clause-cost : goal.costs_of_old-back-requires-clause-cost
costs_of_old-back-requires-clause-cost c = c.seam_of-ahead.ensures.cost ∙ ap (λ p. seam (distance c.args.sample.now) c.args.axis c.in-Some-Some.a p) c.requires.next

pub costs_of_old-back-requires-clause-a : goal.costs_of_old-back-requires-clause-a
costs_of_old-back-requires-clause-a c = rw c.in-Some-Some.is-0 at c.requires.first_sources.source

pub costs_of_old-back-requires-clause-b : goal.costs_of_old-back-requires-clause-b
costs_of_old-back-requires-clause-b c = rw c.in-Some-Some.is-1 at c.requires.second_sources.source

pub seam_of-ahead-requires-clause-a : goal.seam_of-ahead-requires-clause-a
seam_of-ahead-requires-clause-a c = rw c.in-Some-Some.is-0 at c.requires.first_sources.source

pub join_sink-requires-in-Some-None-clause-room : goal.join_sink-requires-in-Some-None-clause-room
join_sink-requires-in-Some-None-clause-room c = omega arith

pub join_sink-requires-in-Some-None-clause-node_in : goal.join_sink-requires-in-Some-None-clause-node_in
join_sink-requires-in-Some-None-clause-node_in c = c.requires.first_in

pub join_sink-requires-in-Some-None-clause-ends : goal.join_sink-requires-in-Some-None-clause-ends
join_sink-requires-in-Some-None-clause-ends c = c.requires.ends

pub join_sink-requires-in-None-Some-clause-room : goal.join_sink-requires-in-None-Some-clause-room
join_sink-requires-in-None-Some-clause-room c = omega arith

pub join_sink-requires-in-None-Some-clause-node_in : goal.join_sink-requires-in-None-Some-clause-node_in
join_sink-requires-in-None-Some-clause-node_in c = c.requires.second_in

pub join_sink-requires-in-None-Some-clause-ends : goal.join_sink-requires-in-None-Some-clause-ends
join_sink-requires-in-None-Some-clause-ends c = c.requires.ends

pub seam_of-cost-requires-clause-a : goal.seam_of-cost-requires-clause-a
seam_of-cost-requires-clause-a c = rw c.in-Some-None.is-0 at c.requires.first_sources.source

pub seam_of-cost-requires-in-None-Some-clause-b : goal.seam_of-cost-requires-in-None-Some-clause-b
seam_of-cost-requires-in-None-Some-clause-b c = rw c.in-None-Some.is-1 at c.requires.second_sources.source

pub returns-in-Some-Some-clause-network : goal.returns-in-Some-Some-clause-network
returns-in-Some-Some-clause-network c = grind (arith, common_steps)

pub add_pipe-requires-in-Some-Some-clause-pipe : goal.add_pipe-requires-in-Some-Some-clause-pipe
add_pipe-requires-in-Some-Some-clause-pipe c = grind (arith, common_steps)

pub returns-in-Some-Some-clause-count : goal.returns-in-Some-Some-clause-count
returns-in-Some-Some-clause-count c = grind (arith, common_steps)
