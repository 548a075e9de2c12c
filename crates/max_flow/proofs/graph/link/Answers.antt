use Rattle.std.proofs.Common.{arith, refl}
use Rattle.max_flow.proofs.Arcs.{tail_below}
use Rattle.max_flow.proofs.Chains.{ChainedBelow_none, ChainedBelow_more}
use Rattle.max_flow.proofs.graph.link.Goals as goal

pub bounds-last-node : goal.bounds-last-node
bounds-last-node c = omega (arith, c.tail-node.ensures.value, c.loop-arc.invariant.nodes_sized, tail_below _ _ c.loop-arc.arc c.requires.pipes (omega arith))

pub bounds-last-node-in-loop-arc : goal.bounds-last-node-in-loop-arc
bounds-last-node-in-loop-arc c = omega (arith, c.tail-node.ensures.value, c.loop-arc.invariant.nodes_sized, tail_below _ _ c.loop-arc.arc c.requires.pipes (omega arith))

pub loop-arc-init : goal.loop-arc-init
loop-arc-init c = ChainedBelow_none _ _ _ _ refl c.requires.sized c.requires.empty

pub loop-arc-preserved : goal.loop-arc-preserved
loop-arc-preserved c = ChainedBelow_more _ _ _ _ _ _ c.loop-arc.invariant (omega (arith, c.loop-arc.invariant.arcs_sized)) c.tail-node.ensures.value (omega (arith, c.tail-node.ensures.value, tail_below _ _ c.loop-arc.arc c.requires.pipes (omega (arith, c.loop-arc.invariant.arcs_sized))))
