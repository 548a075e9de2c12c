use Rattle.std.proofs.lemmas.Grind.{common_steps}
use Rattle.std.proofs.Common.{◌<◌, ◌+◌, ◌^◌, w16, arith}
use Rattle.std.specs.Simd.Lanes.{sum_l}
use Rattle.std.proofs.lemmas.List.{map-id}
use Rattle.std.proofs.lemmas.Simd.{sum_fits, sum_bound, bytes_below}
use Rattle.lane_kernels.proofs.block.lane_sum.Goals as goal

pub overflow_add-lanes : goal.overflow_add-lanes
overflow_add-lanes g c =
    let small : 0 + sum_l c.args.lanes < 2 ^ 16 = omega (arith, sum_bound 255 c.args.lanes (bytes_below c.args.lanes c.fits-lanes.1), c.fits-lanes.0, c.requires) in
    rw (map-id c.args.lanes) (sum_fits w16 0 c.args.lanes small)

pub returns : goal.returns
returns g c = grind (arith, common_steps)
