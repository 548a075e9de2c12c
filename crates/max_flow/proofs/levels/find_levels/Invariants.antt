use Rattle.std.proofs.Common.{◌+◌, ◌-◌, length}
use Rattle.max_flow.specs.Levels.{IsSearch, levelled}
use Rattle.max_flow.proofs.levels.find_levels.Given as goal

abbrev pub invariant-nodes : goal.invariant-nodes
invariant-nodes l = IsSearch l.graph.pipes.now l.graph.nodes l.graph.source l.backward l.levels l.waiting

abbrev pub decreases-nodes : goal.decreases-nodes
decreases-nodes l = (l.graph.nodes - levelled l.levels) + length l.waiting
