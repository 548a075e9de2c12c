use Rattle.std.proofs.Common.{◌≤◌, ◌-◌}
use Rattle.map_canvas.specs.Runs.{AreNew}
use Rattle.map_canvas.proofs.canvas.new_cells.Given as goal

abbrev pub invariant-new : goal.invariant-new
invariant-new l = record { some : 1 ≤ l.n; most : l.n ≤ l.most; new : AreNew l.choice l.start l.n }

abbrev pub decreases-new : goal.decreases-new
decreases-new l = l.most - l.n
