use Rattle.std.proofs.Common.{◌≤◌, ◌-◌}
use Rattle.map_canvas.specs.Maps.{map_at}
use Rattle.standing_files.specs.Steps.{IsRunFrom}
use Rattle.standing_files.proofs.picture.copied_run.Given as goal

abbrev pub invariant-run : goal.invariant-run
invariant-run l = record { most : l.n ≤ l.most; run : IsRunFrom (map_at l.map) l.p l.from l.n }

abbrev pub decreases-run : goal.decreases-run
decreases-run l = l.most - l.n
