use Rattle.search_squares.specs.Sums.{ArePut, IsCellSum}
use Rattle.search_squares.proofs.sums.add_cell_sums.Given as goal

abbrev pub invariant-loop-x : goal.invariant-loop-x
invariant-loop-x l = ArePut (IsCellSum l.sample l.rect l.y l.f) l.x l.fn.sums.items l.sums.items
