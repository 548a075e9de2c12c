use Rattle.std.proofs.Common.{◌≡◌, ◌<◌, ℕ, nat_lt}
use Rattle.max_flow.specs.Flows.{is_in}
use Rattle.max_flow.specs.Levels.{level_of}
use Rattle.max_flow.proofs.solver.write_sides.Given as goal

abbrev pub invariant-loop-n : goal.invariant-loop-n
invariant-loop-n l = (k : ℕ) → k < l.n → is_in l.sides k ≡ nat_lt 0 (level_of l.levels k)
