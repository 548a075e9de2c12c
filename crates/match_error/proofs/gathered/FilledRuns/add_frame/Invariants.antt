use Rattle.boxes.specs.Sums.{sum_to}
use Rattle.match_error.specs.Errors.{row_error}
use Rattle.map_canvas.specs.Choices.{laid_from}
use Rattle.match_error.specs.Runs.{AddsError, AreRunsIn}
use Rattle.match_error.proofs.gathered.FilledRuns.add_frame.Given as goal

abbrev pub invariant-loop-y : goal.invariant-loop-y
invariant-loop-y l = record {
  runs : AreRunsIn l.canvas.picture.k l.rect l.self;
  adds : AddsError l.canvas l.rect l.fn.self l.self (λ sample from. sum_to l.y (λ y. row_error l.canvas.map sample (laid_from l.rect from) y l.f));
}
