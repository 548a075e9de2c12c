use Rattle.std.proofs.Common.{ℕ, ◌<◌}
use Rattle.loop_walk.specs.Products.{IsBelowProducts}
use Rattle.loop_walk.proofs.sums.broken_in_row.Given as goal

abbrev pub invariant-loop-j : goal.invariant-loop-j
invariant-loop-j l = (k : ℕ) → k < l.j → IsBelowProducts l.costs l.tables l.t l.second l.i k
