use Rattle.std.proofs.lemmas.Grind.{common_steps}
use Rattle.std.proofs.Common.{◌∙◌, arith}
use Rattle.lane_kernels.specs.declared.block.TheConstants.{LANES}
use Rattle.lane_kernels.proofs.Bounds.{ssd_masked_bound}
use Rattle.lane_kernels.proofs.MaskedRows.{masked_total_more, masked_total_whole}
use Rattle.lane_kernels.proofs.Rows.{bytes_of_row}
use Rattle.lane_kernels.proofs.ssd_masked.Goals as goal

pub by_block-preserved : goal.by_block-preserved
by_block-preserved c =
    record {
      within = omega arith;
      so_far =
          masked_total_more c.args.a.now c.args.b.now c.args.mask.now c.by_block.at LANES c.by_block.total c.from-total.result
          c.by_block.invariant.so_far (c.from-total.ensures ∙ c.ssd_masked_block.ensures);
      small = omega arith;
    }

pub returns : goal.returns
returns c =
    let a = c.args.a.now in
    let b = c.args.b.now in
    let mask = c.args.mask.now in
    let whole = masked_total_whole a b mask c.by_block.at c.by_block.total c.from.result c.by_block.invariant.so_far (c.from.ensures ∙ c.ssd_masked_tail.ensures) in
    record { sum = whole; bound = omega (arith, whole, ssd_masked_bound a b (bytes_of_row a c.type_inv.a) (bytes_of_row b c.type_inv.b) mask) }

pub ssd_masked_tail-requires-clause-same_length : goal.ssd_masked_tail-requires-clause-same_length
ssd_masked_tail-requires-clause-same_length c = grind (arith, common_steps)

pub ssd_masked_tail-requires-clause-mask_length : goal.ssd_masked_tail-requires-clause-mask_length
ssd_masked_tail-requires-clause-mask_length c = grind (arith, common_steps)

pub ssd_masked_tail-requires-clause-few : goal.ssd_masked_tail-requires-clause-few
ssd_masked_tail-requires-clause-few c = grind (arith, common_steps)

pub overflow_add-result : goal.overflow_add-result
overflow_add-result c = grind (arith, common_steps)

pub ssd_masked_block-requires-clause-b_block : goal.ssd_masked_block-requires-clause-b_block
ssd_masked_block-requires-clause-b_block c = grind (arith, common_steps)

pub ssd_masked_block-requires-clause-a_block : goal.ssd_masked_block-requires-clause-a_block
ssd_masked_block-requires-clause-a_block c = grind (arith, common_steps)

pub ssd_masked_block-requires-clause-mask_block : goal.ssd_masked_block-requires-clause-mask_block
ssd_masked_block-requires-clause-mask_block c = grind (arith, common_steps)

pub overflow_add-at : goal.overflow_add-at
overflow_add-at c = grind (arith, common_steps)

pub overflow_add-total : goal.overflow_add-total
overflow_add-total c = grind (arith, common_steps)
