use Rattle.std.proofs.Common.{length}
use Rattle.cells.proofs.parts.+lies_along.Given as goal

abbrev pub decreases-lies_along : goal.decreases-lies_along
decreases-lies_along l = length l.more.now
