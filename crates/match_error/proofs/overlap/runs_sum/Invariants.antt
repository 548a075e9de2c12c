use Rattle.std.proofs.Common.{◌≡◌, take}
use Rattle.std.specs.List.{sum_by}
use Rattle.map_canvas.specs.CellErrors.{spot_error}
use Rattle.match_error.specs.Rows.{run_part}
use Rattle.match_error.proofs.overlap.runs_sum.Given as goal

abbrev pub invariant-runs : goal.invariant-runs
invariant-runs l = l.sum ≡ sum_by (run_part (λ i. spot_error l.canvas.map l.sample l.placement i l.y l.f) l.x l.placement.rect.size.w) (take l.run-index l.runs)
