use Rattle.std.proofs.Common.{◌≡◌, ◌≤◌, ◌*◌}
use Rattle.std.specs.Prelude.{sum}
use Rattle.cells.specs.Cells.{row_at}
use Rattle.cells.specs.Places.{plus, spot}
use Rattle.boxes.specs.Sums.{sum_to}
use Rattle.search_squares.proofs.blocks.block_sum.Given as goal

abbrev pub invariant-loop-y : goal.invariant-loop-y
invariant-loop-y l = record {
  so_far : l.sum ≡ sum_to l.y (λ y. sum (row_at l.picture (plus l.at (spot 0 y 0)) l.side));
  small : l.sum ≤ 255 * (l.picture.k * l.side) * l.y;
}
