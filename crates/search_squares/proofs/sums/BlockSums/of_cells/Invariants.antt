use Rattle.search_squares.specs.Sums.{AreRows, IsCellSum}
use Rattle.search_squares.proofs.sums.BlockSums.of_cells.Given as goal

abbrev pub invariant-loop-row : goal.invariant-loop-row
invariant-loop-row l = AreRows (IsCellSum l.sample l.rect) l.rect.size l.row l.sums.items
