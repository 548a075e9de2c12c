use Rattle.std.proofs.Common.{◌≤◌, ◌-◌}
use Rattle.boxes.specs.Sums.{sum_to}
use Rattle.map_canvas.specs.CellErrors.{spot_error}
use Rattle.map_canvas.specs.Choices.{laid_from}
use Rattle.match_error.specs.Runs.{AddsError, AreRunsIn}
use Rattle.match_error.proofs.gathered.FilledRuns.add_row.Given as goal

abbrev pub invariant-cells : goal.invariant-cells
invariant-cells l = record {
  most : l.x ≤ l.rect.size.w;
  runs : AreRunsIn l.canvas.picture.k l.rect l.self;
  adds : AddsError l.canvas l.rect l.fn.self l.self (λ sample from. sum_to l.x (λ x. spot_error l.canvas.map sample (laid_from l.rect from) x l.y l.f));
}

abbrev pub decreases-cells : goal.decreases-cells
decreases-cells l = l.w - l.x
