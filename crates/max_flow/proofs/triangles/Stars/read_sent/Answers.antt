use Rattle.std.proofs.Common.{arith}
use Rattle.max_flow.proofs.triangles.Stars.read_sent.Goals as goal

pub bounds-sent-node-then-sent-node-gt0 : goal.bounds-sent-node-then-sent-node-gt0
bounds-sent-node-then-sent-node-gt0 c = omega arith
