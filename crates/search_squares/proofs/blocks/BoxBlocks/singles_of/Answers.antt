use Rattle.std.proofs.Common.{◌∙◌, ◌≡◌, ◌≤◌, ◌*◌, [], arith, refl, subst, sym}
use Rattle.std.specs.Prelude.{All}
use Rattle.std.specs.List.{sum_by}
use Rattle.match_error.proofs.Tables.{few_rows}
use Rattle.search_squares.specs.Gathered.{HasShortRows, AreSingles}
use Rattle.cells.specs.Places.{plus}
use Rattle.map_canvas.specs.Choices.{laid_from}
use Rattle.match_error.specs.Errors.{error_sum}
use Rattle.search_squares.specs.Blocks.{HasSumOf, IsBlockIn, block_bytes, block_sum, square_of_difference}
use Rattle.search_squares.proofs.BlockErrors.{gathered_bound}
use Rattle.search_squares.proofs.OneCells.{none_single, recounted}
use Rattle.search_squares.proofs.blocks.BoxBlocks.singles_of.Goals as goal

pub loop-row-init : goal.loop-row-init
loop-row-init c =
    let canvas = c.args.canvas.now in
    let rect = c.args.rect.now in
    record {
      singles =
          subst (λ blocks. AreSingles canvas rect c.args.size c.args.filled.now (rect.size.w * 0) blocks) (sym c.new.ensures.items)
          (recounted canvas rect c.args.size c.args.filled.now 0 (rect.size.w * 0) [] (omega arith)
          (none_single canvas rect c.args.size c.args.filled.now c.requires.long c.requires.filled));
      side = refl;
      size = refl;
    }

pub returns-clause-blocks : goal.returns-clause-blocks
returns-clause-blocks c =
    let blocks = c.loop-row.blocks in
    let gathered = c.loop-row.invariant.singles.gathered in
    let one : 1 ≡ blocks.side = sym c.loop-row.invariant.side in
    record {
      some = omega (arith, one);
      inside = subst (λ side. All (IsBlockIn c.args.rect.now side) blocks.blocks.items) one gathered.inside;
      entries = gathered.entries;
      sums = subst (λ side. All (HasSumOf c.args.canvas.now c.args.rect.now side) blocks.blocks.items) one gathered.sums;
      bound = λ sample from laid.
          subst (λ side. sum_by (λ block. square_of_difference block.sum (block_sum sample side (plus from block.step))) blocks.blocks.items ≤ block_bytes side sample.k * error_sum c.args.canvas.now.map sample (laid_from c.args.rect.now from)) one
          (gathered_bound c.args.canvas.now c.picture-picture.ensures.canvas c.args.rect.now sample from laid 1 (omega arith) blocks.size blocks.blocks.items c.loop-row.invariant.singles.free gathered);
    }

pub add_row-requires-clause-long : goal.add_row-requires-clause-long
add_row-requires-clause-long c = c.requires.long

pub loop-row-preserved : goal.loop-row-preserved
loop-row-preserved c =
    record {
      singles = c.in_ok-add_row.ensures.singles;
      side = c.add_row.ensures.side ∙ c.loop-row.invariant.side;
      size = c.add_row.ensures.size ∙ c.loop-row.invariant.size;
    }

pub overflow_mul-row-end : goal.overflow_mul-row-end
overflow_mul-row-end c = omega (arith, few_rows c.args.canvas.now.map c.args.rect.now c.picture-picture.ensures.canvas.map.small c.requires.inside)

pub add_row-requires-clause-rows : goal.add_row-requires-clause-rows
add_row-requires-clause-rows c = subst HasShortRows (sym c.loop-row.invariant.size) c.requires.rows
