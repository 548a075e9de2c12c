use Rattle.std.proofs.Common.{ℕ, ◌<◌}
use Rattle.loop_walk.specs.Products.{AllowsCost}
use Rattle.loop_walk.proofs.rules.check_diagonal.Given as goal

abbrev pub invariant-loop-i : goal.invariant-loop-i
invariant-loop-i l = (k : ℕ) → k < l.i → AllowsCost l.costs l.length l.tables l.cost k
