use Rattle.std.proofs.lemmas.Grind.{common_steps}
use Rattle.std.proofs.Common.{◌∙◌, arith}
use Rattle.lane_kernels.specs.declared.block.TheConstants.{LANES}
use Rattle.lane_kernels.specs.Sums.{absolute_difference}
use Rattle.lane_kernels.proofs.Bounds.{sad_bound}
use Rattle.lane_kernels.proofs.Rows.{bytes_of_row, total_more, total_whole}
use Rattle.lane_kernels.proofs.sad.Goals as goal

pub by_block-preserved : goal.by_block-preserved
by_block-preserved c =
    record {
      within = omega arith;
      so_far =
          total_more absolute_difference c.args.a.now c.args.b.now c.by_block.at LANES c.by_block.total c.from-total.result
          c.by_block.invariant.so_far (c.from-total.ensures ∙ c.sad_block.ensures);
      small = omega arith;
    }

pub returns : goal.returns
returns c =
    let a = c.args.a.now in
    let b = c.args.b.now in
    let whole = total_whole absolute_difference a b c.by_block.at c.by_block.total c.from.result c.by_block.invariant.so_far (c.from.ensures ∙ c.sad_tail.ensures) in
    record { sum = whole; bound = omega (arith, whole, sad_bound a b (bytes_of_row a c.type_inv.a) (bytes_of_row b c.type_inv.b)) }

pub sad_tail-requires-clause-same_length : goal.sad_tail-requires-clause-same_length
sad_tail-requires-clause-same_length c = grind (arith, common_steps)
