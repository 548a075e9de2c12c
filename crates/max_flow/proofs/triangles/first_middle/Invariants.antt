use Rattle.std.proofs.Common.{length}
use Rattle.max_flow.proofs.triangles.first_middle.Given as goal

abbrev pub decreases-pipes : goal.decreases-pipes
decreases-pipes l = length l.rest
