use Rattle.std.proofs.Common.{length}
use Rattle.cells.proofs.parts.+index_along.Given as goal

abbrev pub decreases-index_along : goal.decreases-index_along
decreases-index_along l = length l.more.now
