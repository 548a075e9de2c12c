use Rattle.std.proofs.Common.{◌≡◌, ◌≤◌, ◌+◌}
use Rattle.cells.specs.Boxes.{cell_in}
use Rattle.boxes.specs.Sums.{sum_to}
use Rattle.map_canvas.specs.Maps.{map_at}
use Rattle.match_error.specs.Errors.{one_filled}
use Rattle.match_error.proofs.Entries.{ArePut}
use Rattle.match_error.proofs.table.add_row.Given as goal

abbrev pub invariant-loop-x : goal.invariant-loop-x
invariant-loop-x l = record {
  put : ArePut l.fn.entries.items l.entries.items l.above (l.x + 1) (λ x. sum_to x (λ i. one_filled (map_at l.canvas.map (cell_in l.rect i l.y l.f))));
  filled : l.filled ≡ sum_to l.x (λ i. one_filled (map_at l.canvas.map (cell_in l.rect i l.y l.f)));
  few : l.filled ≤ l.x;
}
