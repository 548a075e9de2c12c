use Rattle.std.proofs.Common.{length}
use Rattle.max_flow.proofs.Chains.{ChainedBelow}
use Rattle.max_flow.proofs.graph.link.Given as goal

abbrev pub invariant-loop-arc : goal.invariant-loop-arc
invariant-loop-arc l = ChainedBelow l.pipes (length l.initial.last) l.last l.previous l.arc
