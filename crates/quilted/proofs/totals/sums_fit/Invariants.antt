use Rattle.std.proofs.Common.{◌<◌, ◌^◌, take}
use Rattle.std.specs.Prelude.{All}
use Rattle.quilted.proofs.totals.sums_fit.Given as goal

abbrev pub invariant-loop-sum : goal.invariant-loop-sum
invariant-loop-sum l = All (λ sum. sum < 2 ^ 32) (take l.sum-index l.sums)
