use Rattle.std.proofs.Common.{◌+◌}
use Rattle.search_squares.specs.Gathered.{IsTaken, sum_along}
use Rattle.search_squares.proofs.blocks.take_row.Given as goal

abbrev pub invariant-loop-i : goal.invariant-loop-i
invariant-loop-i l = IsTaken (l.start + l.i) (sum_along l.start l.i) l.fn.free l.free
