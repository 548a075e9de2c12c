use Rattle.std.proofs.Common.{◌+◌, arith}
use Rattle.lane_kernels.specs.declared.block.TheConstants.{SHORT}
use Rattle.lane_kernels.specs.Sums.{squared_difference}
use Rattle.lane_kernels.proofs.Bounds.{ssd_bound}
use Rattle.lane_kernels.proofs.Rows.{bytes_of_row, total_more, total_whole, total_within}
use Rattle.lane_kernels.proofs.tail.ssd_tail.Goals as goal

-- a total is at most the whole sum, and the whole sum fits
pub overflow_add-total : goal.overflow_add-total
overflow_add-total c =
    let a = c.args.a.now in
    let b = c.args.b.now in
    let at = c.by_block.at in
    let more = total_more squared_difference a b at SHORT c.by_block.total c.ssd_block-total.result c.by_block.invariant.so_far c.ssd_block-total.ensures in
    omega (
      arith,
      total_within squared_difference a b (at + SHORT) (c.by_block.total + c.ssd_block-total.result) more,
      ssd_bound a b (bytes_of_row a c.type_inv.a) (bytes_of_row b c.type_inv.b),
      c.requires.few,
    )

pub by_block-preserved : goal.by_block-preserved
by_block-preserved c =
    record {
      within = omega arith;
      so_far =
          total_more squared_difference c.args.a.now c.args.b.now c.by_block.at SHORT c.by_block.total c.ssd_block-total.result
          c.by_block.invariant.so_far c.ssd_block-total.ensures;
    }

pub overflow_add-result : goal.overflow_add-result
overflow_add-result c =
    let a = c.args.a.now in
    let b = c.args.b.now in
    let whole = total_whole squared_difference a b c.by_block.at c.by_block.total c.ssd_rest.result c.by_block.invariant.so_far c.ssd_rest.ensures in
    omega (arith, whole, ssd_bound a b (bytes_of_row a c.type_inv.a) (bytes_of_row b c.type_inv.b), c.requires.few)

pub returns : goal.returns
returns c = total_whole squared_difference c.args.a.now c.args.b.now c.by_block.at c.by_block.total c.ssd_rest.result c.by_block.invariant.so_far c.ssd_rest.ensures
