use Rattle.std.proofs.Common.{◌∙◌, ap, sum, take}
use Rattle.std.specs.Int.{abs_diff}
use Rattle.lane_kernels.proofs.Lanes.{sum_by-zip2}
use Rattle.lane_kernels.proofs.block.sad_block.Goals as goal

pub returns : goal.returns
returns g c = c.lane_sum.ensures ∙ ap sum c.differences.ensures ∙ sum_by-zip2 (λ x. x) abs_diff (take g.row.N c.args.a.now) (take g.row.N c.args.b.now)
