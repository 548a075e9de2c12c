use Rattle.std.proofs.Common.{◌≤◌, ◌-◌}
use Rattle.map_canvas.specs.Maps.{map_at}
use Rattle.standing_files.specs.Steps.{IsRunCopied}
use Rattle.standing_files.proofs.picture.is_in_runs.Given as goal

abbrev pub invariant-runs : goal.invariant-runs
invariant-runs l = record { within : l.done ≤ l.w; copied : IsRunCopied l.samples l.picture (map_at l.map) l.p l.done }

abbrev pub decreases-runs : goal.decreases-runs
decreases-runs l = l.w - l.done
