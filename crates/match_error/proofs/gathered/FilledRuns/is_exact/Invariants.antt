use Rattle.std.proofs.Common.{◌≡◌, take}
use Rattle.std.specs.List.{sum_by}
use Rattle.match_error.specs.Runs.{run_error}
use Rattle.match_error.proofs.gathered.FilledRuns.is_exact.Given as goal

abbrev pub invariant-runs : goal.invariant-runs
invariant-runs l = record {
  none : 0 ≡ sum_by (run_error l.self.bytes.items l.sample l.placement.from) (take l.run-index l.self.runs.items);
}
