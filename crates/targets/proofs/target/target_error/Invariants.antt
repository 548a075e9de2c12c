use Rattle.std.proofs.Common.{◌≡◌, ◌≤◌, ◌*◌}
use Rattle.boxes.specs.Sums.{sum_to}
use Rattle.match_error.specs.Errors.{most_frame_error}
use Rattle.targets.specs.Targets.{target_frame}
use Rattle.targets.proofs.target.target_error.Given as goal

abbrev pub invariant-loop-f : goal.invariant-loop-f
invariant-loop-f l = record {
  sum : l.sum ≡ sum_to l.f (λ f. target_frame l.target l.sample l.placement f);
  small : l.sum ≤ most_frame_error * l.f;
}
