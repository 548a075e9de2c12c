use Rattle.std.proofs.Common.{◌≡◌, ◌≤◌, ◌-◌, length, take}
use Rattle.lane_kernels.specs.Sums.{masked_sum_of_squared_differences}
use Rattle.lane_kernels.proofs.tail.ssd_masked_tail.Given as goal

-- the total so far is the plain sum over the first `at` bytes
abbrev pub invariant-by_block : goal.invariant-by_block
invariant-by_block l = record {
  within : l.at ≤ length l.a;
  so_far : l.total ≡ masked_sum_of_squared_differences (take l.at l.a) (take l.at l.b) (take l.at l.mask);
}

abbrev pub decreases-by_block : goal.decreases-by_block
decreases-by_block l = length l.a - l.at
