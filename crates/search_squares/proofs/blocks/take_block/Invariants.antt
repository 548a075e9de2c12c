use Rattle.std.proofs.Common.{◌+◌, ◌*◌}
use Rattle.search_squares.specs.Gathered.{IsTaken, rows_sum}
use Rattle.search_squares.proofs.blocks.take_block.Given as goal

abbrev pub invariant-loop-j : goal.invariant-loop-j
invariant-loop-j l = IsTaken (l.start + l.w * l.j) (rows_sum l.start l.w l.side l.j) l.fn.free l.free
