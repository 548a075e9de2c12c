use Rattle.std.proofs.Common.{ℕ, ◌<◌}
use Rattle.strip_boundary.specs.Records.{SumHolds}
use Rattle.strip_boundary.proofs.check.first_bad_sum_of.Given as goal

abbrev pub invariant-loop-col : goal.invariant-loop-col
invariant-loop-col l = (col : ℕ) → col < l.col → SumHolds l.strip l.sums l.row col
