use Rattle.search_squares.specs.Gathered.{AreFree}
use Rattle.search_squares.proofs.blocks.is_row_free.Given as goal

abbrev pub invariant-loop-i : goal.invariant-loop-i
invariant-loop-i l = AreFree l.free l.start l.i
