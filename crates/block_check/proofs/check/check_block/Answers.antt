use Rattle.std.proofs.Common.{arith}
use Rattle.std.proofs.lemmas.Grind.{common_steps}
use Rattle.std.proofs.Common.{refl, subst, inl, inr}
use Rattle.cells.specs.Places.{cell_count}
use Rattle.cells.specs.Firsts.{IsFirstWithout}
use Rattle.map_canvas.proofs.Filling.{fits_small}
use Rattle.block_strips.specs.declared.side.Side.TheVariants.{Top}
use Rattle.block_check.specs.Blocks.{cols_on}
use Rattle.block_check.specs.Steps.{IsSharedAt}
use Rattle.block_check.proofs.Standing.{checked_is_least}
use Rattle.block_check.proofs.check.check_block.Goals as goal

pub cols_on-left-requires-clause-small : goal.cols_on-left-requires-clause-small
cols_on-left-requires-clause-small c = fits_small c.args.canvas.now.map.size c.args.sample.now c.args.block.now.placement (c.fits.ensures.0 c.if-not-fits.false) c.map-map.ensures.canvas.map.small

pub cols_on-top-requires-clause-small : goal.cols_on-top-requires-clause-small
cols_on-top-requires-clause-small c = fits_small c.args.canvas.now.map.size c.args.sample.now c.args.block.now.placement (c.fits.ensures.0 c.if-not-fits.false) c.map-map.ensures.canvas.map.small

pub returns-in-Some-clause-checks : goal.returns-in-Some-clause-checks
returns-in-Some-clause-checks c =
    let m = c.args.canvas.now.map in
    let placement = c.args.block.now.placement in
    let n = cell_count placement.rect.size in
    inr (inl (record {
      kind = refl;
      fits = c.fits.ensures.0 c.if-not-fits.false;
      place = subst (λ left. IsFirstWithout n (IsSharedAt m placement left (cols_on Top placement c.args.block.now.top)) c.in-Some.i) c.cols_on-left.ensures.cols
          (subst (λ top. IsFirstWithout n (IsSharedAt m placement c.cols_on-left.result top) c.in-Some.i) c.cols_on-top.ensures.cols c.in-Some.ensures);
    }))

pub returns-clause-least : goal.returns-clause-least
returns-clause-least c = checked_is_least c.args.canvas.now.map c.args.sample.now c.args.block.now c.check_joins.result c.check_joins.ensures

pub check_joins-requires-clause-right : goal.check_joins-requires-clause-right
check_joins-requires-clause-right c = grind (arith, common_steps)

pub first_unlike-requires-clause-fits : goal.first_unlike-requires-clause-fits
first_unlike-requires-clause-fits c = c.fits.ensures.0 c.if-not-fits.false

pub returns-then-not-fits-clause-checks : goal.returns-then-not-fits-clause-checks
returns-then-not-fits-clause-checks c = grind (arith, common_steps)
