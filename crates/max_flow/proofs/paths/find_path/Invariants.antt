use Rattle.std.proofs.Common.{◌-◌, ◌+◌, ◌*◌, sum}
use Rattle.max_flow.proofs.Walking.{IsWalking}
use Rattle.max_flow.proofs.paths.find_path.Given as goal

abbrev pub invariant-steps : goal.invariant-steps
invariant-steps l = IsWalking l.graph.pipes.now l.graph.nodes l.graph.source l.graph.sink l.backward l.levels l.initial.current l.current l.path l.depth l.node

abbrev pub decreases-steps : goal.decreases-steps
decreases-steps l = 2 * sum l.current + (l.graph.nodes - l.depth)
