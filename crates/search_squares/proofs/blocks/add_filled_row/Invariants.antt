use Rattle.std.proofs.Common.{◌≡◌, ◌+◌, ◌*◌, length}
use Rattle.search_squares.specs.Gathered.{MarkFilled}
use Rattle.search_squares.proofs.blocks.add_filled_row.Given as goal

abbrev pub invariant-loop-x : goal.invariant-loop-x
invariant-loop-x l = record {
  long : length l.cells.items ≡ l.rect.size.w * l.row + l.x;
  filled : MarkFilled l.canvas.map l.rect l.cells.items;
}
