use Rattle.std.proofs.Common.{w8, take}
use Rattle.std.specs.Prelude.{nat_lt}
use Rattle.std.proofs.lemmas.Simd.{tops_compared, chunk-fits, below_from_Fits}
use Rattle.lane_kernels.proofs.Lanes.{differences_of_lanes}
use Rattle.lane_kernels.proofs.block.differences.Goals as goal

pub returns : goal.returns
returns g c =
    let a = take g.row.N c.args.a.now in
    let b = take g.row.N c.args.b.now in
    rw (tops_compared w8 nat_lt a b)
    (differences_of_lanes a b (below_from_Fits w8 a (chunk-fits w8 0 g.row.N c.args.a.now c.type_inv.a)) (below_from_Fits w8 b (chunk-fits w8 0 g.row.N c.args.b.now c.type_inv.b)))
