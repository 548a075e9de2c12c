use Rattle.std.proofs.Common.{◌≡◌, ◌*◌, length}
use Rattle.search_squares.specs.Gathered.{MarkFilled}
use Rattle.search_squares.proofs.blocks.filled_cells.Given as goal

abbrev pub invariant-loop-row : goal.invariant-loop-row
invariant-loop-row l = record {
  long : length l.cells.items ≡ l.rect.size.w * l.row;
  filled : MarkFilled l.canvas.map l.rect l.cells.items;
}
