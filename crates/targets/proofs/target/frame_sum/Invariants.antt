use Rattle.std.proofs.Common.{◌≡◌, ◌≤◌, ◌*◌}
use Rattle.boxes.specs.Sums.{sum_to}
use Rattle.match_error.specs.Errors.{most_row_error}
use Rattle.targets.specs.Targets.{target_row}
use Rattle.targets.proofs.target.frame_sum.Given as goal

abbrev pub invariant-loop-y : goal.invariant-loop-y
invariant-loop-y l = record {
  sum : l.sum ≡ sum_to l.y (λ y. target_row l.target l.sample l.placement y l.f);
  small : l.sum ≤ most_row_error * l.y;
}
