use Rattle.std.proofs.Common.{◌≡◌}
use Rattle.map_canvas.specs.Choices.{laid_from}
use Rattle.cells.specs.declared.place.At.{At}
use Rattle.cells.specs.Cells.{Cells}
use Rattle.boxes.specs.Sums.{sum_to}
use Rattle.match_error.specs.Errors.{frame_error}
use Rattle.match_error.specs.Runs.{AreRunsIn, IsLaidOver, runs_error}
use Rattle.match_error.proofs.gathered.FilledRuns.gather.Given as goal

abbrev pub invariant-loop-f : goal.invariant-loop-f
invariant-loop-f l = record {
  runs : AreRunsIn l.canvas.picture.k l.rect l.cells;
  error : (sample : Cells) (from : At) → IsLaidOver l.canvas l.rect sample from → runs_error l.cells sample from ≡ sum_to l.f (λ f. frame_error l.canvas.map sample (laid_from l.rect from) f);
}
