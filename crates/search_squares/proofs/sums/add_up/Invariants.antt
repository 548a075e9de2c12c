use Rattle.std.proofs.Common.{◌*◌}
use Rattle.search_squares.specs.declared.sums.TheConstants.{LANES}
use Rattle.search_squares.specs.Sums.{AreAddedTo}
use Rattle.search_squares.proofs.sums.add_up.Given as goal

abbrev pub invariant-loop-run : goal.invariant-loop-run
invariant-loop-run l = AreAddedTo l.step l.n (LANES * l.run) l.fn.entries l.entries
