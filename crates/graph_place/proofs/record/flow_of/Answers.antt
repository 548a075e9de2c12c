use Rattle.std.proofs.Common.{arith}
use Rattle.graph_place.specs.Records.{HasFlows}
use Rattle.graph_place.proofs.record.flow_of.Goals as goal
use Rattle.graph_place.proofs.record.flow_of.Goals.{In-Some-Some, In-Some-None, In-None-Some}

both : (c : In-Some-Some) → HasFlows c.args.flows.now c.args.first 3
both c = rw c.in-Some-Some.is-0 at (rw c.in-Some-Some.is-1 at c.requires)

one : (c : In-Some-None) → HasFlows c.args.flows.now c.args.first 1
one c = rw c.in-Some-None.is-0 at (rw c.in-Some-None.is-1 at c.requires)

other : (c : In-None-Some) → HasFlows c.args.flows.now c.args.first 1
other c = rw c.in-None-Some.is-0 at (rw c.in-None-Some.is-1 at c.requires)

pub pipe_flow-requires-clause-small : goal.pipe_flow-requires-clause-small
pipe_flow-requires-clause-small c = (both c).small c.args.first (omega arith) (omega arith)

pub pipe_flow-requires-in-Some-Some-clause-small : goal.pipe_flow-requires-in-Some-Some-clause-small
pipe_flow-requires-in-Some-Some-clause-small c = (both (goal.at.pipe_flow-requires-in-Some-Some-clause-small c).In-Some-Some).small _ (omega arith) (omega arith)

pub pipe_flow-requires-in-Some-None-clause-small : goal.pipe_flow-requires-in-Some-None-clause-small
pipe_flow-requires-in-Some-None-clause-small c = (one c).small c.args.first (omega arith) (omega arith)

pub pipe_flow-requires-in-None-Some-clause-small : goal.pipe_flow-requires-in-None-Some-clause-small
pipe_flow-requires-in-None-Some-clause-small c = (other c).small c.args.first (omega arith) (omega arith)
