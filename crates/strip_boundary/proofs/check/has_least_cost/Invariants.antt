use Rattle.std.proofs.Common.{◌≡◌, ◌≤◌, ◌*◌}
use Rattle.strip_boundary.specs.Boundaries.{cost_of_rows}
use Rattle.strip_boundary.proofs.check.has_least_cost.Given as goal

abbrev pub invariant-loop-row : goal.invariant-loop-row
invariant-loop-row l = (l.cost ≡ cost_of_rows l.strip l.path l.row) × (l.cost ≤ l.row * 195075)
