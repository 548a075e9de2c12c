use Rattle.std.proofs.Common.{◌≡◌, ◌≤◌, ◌*◌}
use Rattle.std.specs.Prelude.{IfSome}
use Rattle.cells.specs.Distances.{distance}
use Rattle.cells.specs.Boxes.{cell_in}
use Rattle.boxes.specs.Sums.{sum_to}
use Rattle.map_canvas.specs.Maps.{IsSource}
use Rattle.costs.specs.Costs.{most_of_cell, pairs_at}
use Rattle.costs.proofs.sums.row.Given as goal

abbrev pub invariant-loop-x : goal.invariant-loop-x
invariant-loop-x g l = record {
  sum : l.sum ≡ sum_to l.x (λ x. pairs_at (distance l.sample) (g.S.Sources.source_at l.sources) (cell_in l.rect x l.y l.f));
  fits : l.sum ≤ most_of_cell * l.x;
  source : l.a ≡ g.S.Sources.source_at l.sources (cell_in l.rect l.x l.y l.f);
  near : IfSome l.a IsSource;
}
