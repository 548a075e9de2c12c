use Rattle.std.proofs.Common.{arith}
use Rattle.std.proofs.lemmas.Grind.{common_steps}
use Rattle.patch_place.proofs.Limits.{box_has_cells, box_inside, overlaps_asked}
use Rattle.patch_place.proofs.errors.shortlist_of.Goals as goal

pub gather-requires-clause-cells : goal.gather-requires-clause-cells
gather-requires-clause-cells c = box_has_cells c.args.canvas.now.map.size c.args.sample.now c.in-Fits.rect (rw c.in-Fits.is at c.requires.some) (rw c.in-Fits.is at c.requires.fit)

pub gather-requires-clause-inside : goal.gather-requires-clause-inside
gather-requires-clause-inside c = box_inside c.args.canvas.now.map.size c.args.sample.now c.in-Fits.rect (rw c.in-Fits.is at c.requires.some) (rw c.in-Fits.is at c.requires.fit)

pub box_shortlist-requires-clause-cells : goal.box_shortlist-requires-clause-cells
box_shortlist-requires-clause-cells c = box_has_cells c.args.canvas.now.map.size c.args.sample.now c.in-Fits.rect (rw c.in-Fits.is at c.requires.some) (rw c.in-Fits.is at c.requires.fit)

pub box_shortlist-requires-clause-asked : goal.box_shortlist-requires-clause-asked
box_shortlist-requires-clause-asked c =
    let is = c.in_ok-overlaps-in-Fits.ensures in
    overlaps_asked _ c.args.canvas.now c.args.sample.now c.in-Fits.rect is.canvas is.sample is.rect (rw c.in-Fits.is at c.requires.fit)

pub box_shortlist-requires-clause-ready : goal.box_shortlist-requires-clause-ready
box_shortlist-requires-clause-ready c = grind (arith, common_steps)

pub returns-in_ok-overlaps-in-Fits : goal.returns-in_ok-overlaps-in-Fits
returns-in_ok-overlaps-in-Fits c = grind (arith, common_steps)
