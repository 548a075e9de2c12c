use Rattle.std.proofs.Common.{◌∙◌, ◌*◌, ap, sum_by, take}
use Rattle.std.specs.Int.{abs_diff}
use Rattle.lane_kernels.proofs.Lanes.{sum_by-zip2}
use Rattle.lane_kernels.proofs.block.ssd_block.Goals as goal

pub returns : goal.returns
returns g c = c.lane_square_sum.ensures ∙ ap (sum_by (λ x. x * x)) c.differences.ensures ∙ sum_by-zip2 (λ x. x * x) abs_diff (take g.row.N c.args.a.now) (take g.row.N c.args.b.now)
