use Rattle.std.proofs.Common.{length}
use Rattle.max_flow.specs.Rooms.{HasRoomForPipes}
use Rattle.max_flow.proofs.triangles.Shorter.read.Given as goal

abbrev pub invariant-pipes : goal.invariant-pipes
invariant-pipes l = HasRoomForPipes (length l.rest) l.self.pipes

abbrev pub decreases-pipes : goal.decreases-pipes
decreases-pipes l = length l.rest
