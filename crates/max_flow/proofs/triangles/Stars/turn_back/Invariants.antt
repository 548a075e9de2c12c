use Rattle.std.proofs.Common.{◌≤◌, length}
use Rattle.max_flow.proofs.triangles.Stars.turn_back.Given as goal

abbrev pub invariant-pipes : goal.invariant-pipes
invariant-pipes l = l.index ≤ length l.pipes

abbrev pub decreases-pipes : goal.decreases-pipes
decreases-pipes l = l.index
