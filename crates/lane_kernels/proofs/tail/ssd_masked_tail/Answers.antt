use Rattle.std.proofs.lemmas.Grind.{common_steps}
use Rattle.std.proofs.Common.{◌+◌, arith}
use Rattle.lane_kernels.specs.declared.block.TheConstants.{SHORT}
use Rattle.lane_kernels.proofs.Bounds.{ssd_masked_bound}
use Rattle.lane_kernels.proofs.MaskedRows.{masked_total_more, masked_total_whole, masked_total_within}
use Rattle.lane_kernels.proofs.Rows.{bytes_of_row}
use Rattle.lane_kernels.proofs.tail.ssd_masked_tail.Goals as goal

-- a total is at most the whole sum, and the whole sum fits
pub overflow_add-total : goal.overflow_add-total
overflow_add-total c =
    let a = c.args.a.now in
    let b = c.args.b.now in
    let mask = c.args.mask.now in
    let at = c.by_block.at in
    let more = masked_total_more a b mask at SHORT c.by_block.total c.ssd_masked_block-total.result c.by_block.invariant.so_far c.ssd_masked_block-total.ensures in
    omega (
      arith,
      masked_total_within a b mask (at + SHORT) (c.by_block.total + c.ssd_masked_block-total.result) more,
      ssd_masked_bound a b (bytes_of_row a c.type_inv.a) (bytes_of_row b c.type_inv.b) mask,
      c.requires.few,
    )

pub by_block-preserved : goal.by_block-preserved
by_block-preserved c =
    record {
      within = omega arith;
      so_far =
          masked_total_more c.args.a.now c.args.b.now c.args.mask.now c.by_block.at SHORT c.by_block.total c.ssd_masked_block-total.result
          c.by_block.invariant.so_far c.ssd_masked_block-total.ensures;
    }

pub overflow_add-result : goal.overflow_add-result
overflow_add-result c =
    let a = c.args.a.now in
    let b = c.args.b.now in
    let mask = c.args.mask.now in
    let whole = masked_total_whole a b mask c.by_block.at c.by_block.total c.ssd_masked_rest.result c.by_block.invariant.so_far c.ssd_masked_rest.ensures in
    omega (arith, whole, ssd_masked_bound a b (bytes_of_row a c.type_inv.a) (bytes_of_row b c.type_inv.b) mask, c.requires.few)

pub returns : goal.returns
returns c =
    masked_total_whole c.args.a.now c.args.b.now c.args.mask.now c.by_block.at c.by_block.total c.ssd_masked_rest.result
    c.by_block.invariant.so_far c.ssd_masked_rest.ensures

pub ssd_masked_block-total-requires-clause-b_block : goal.ssd_masked_block-total-requires-clause-b_block
ssd_masked_block-total-requires-clause-b_block c = grind (arith, common_steps)

pub ssd_masked_block-total-requires-clause-a_block : goal.ssd_masked_block-total-requires-clause-a_block
ssd_masked_block-total-requires-clause-a_block c = grind (arith, common_steps)

pub ssd_masked_block-total-requires-clause-mask_block : goal.ssd_masked_block-total-requires-clause-mask_block
ssd_masked_block-total-requires-clause-mask_block c = grind (arith, common_steps)

pub overflow_add-at : goal.overflow_add-at
overflow_add-at c = grind (arith, common_steps)
