use Rattle.std.proofs.Common.{ℕ, ◌<◌}
use Rattle.strip_boundary.specs.Records.{SumHolds}
use Rattle.strip_boundary.proofs.check.first_bad_sum.Given as goal

abbrev pub invariant-loop-row : goal.invariant-loop-row
invariant-loop-row l = (row : ℕ) → row < l.row → (col : ℕ) → col < l.strip.cols → SumHolds l.strip l.sums row col
