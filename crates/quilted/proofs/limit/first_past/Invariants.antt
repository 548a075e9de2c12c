use Rattle.std.specs.Prelude.{◌-◌}
use Rattle.limits.specs.declared.bounds.TheConstants.{MOST_BOX_CELLS}
use Rattle.quilted.proofs.Counting.{AreCounted}
use Rattle.quilted.proofs.limit.first_past.Given as goal

abbrev pub invariant-counting : goal.invariant-counting
invariant-counting l = AreCounted l.plan l.output l.sample l.at.x l.at.y l.cells

abbrev pub decreases-counting : goal.decreases-counting
decreases-counting l = MOST_BOX_CELLS - l.cells
