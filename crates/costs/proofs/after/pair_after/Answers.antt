use Rattle.std.proofs.lemmas.Grind.{common_steps}
use Rattle.std.proofs.Common.{◌∙◌, sym, arith}
use Rattle.cells.specs.Distances.{distance}
use Rattle.map_canvas.proofs.Filling.{fits_small}
use Rattle.boxes.proofs.Indices.{index_below}
use Rattle.costs.proofs.Choosing.{no_next}
use Rattle.costs.proofs.after.pair_after.Goals as goal

pub returns-then-not-has_next-clause-cost : goal.returns-then-not-has_next-clause-cost
returns-then-not-has_next-clause-cost c =
    let after = c.args.after.now in
    let at = c.args.at in
    sym (no_next after.map.now after.placement.now after.choice.now (distance after.sample.now) c.args.axis at.x at.y at.f c.requires.counts (sym c.has_next.ensures ∙ c.if-not-has_next.true))

pub stride-requires : goal.stride-requires
stride-requires c =
    let after = c.args.after.now in
    fits_small after.map.now.size after.sample.now after.placement.now after.fits c.size-map.ensures.map.small

pub overflow_add-i : goal.overflow_add-i
overflow_add-i c =
    let after = c.args.after.now in
    let next = c.next_along-next.result in
    let small = fits_small after.map.now.size after.sample.now after.placement.now after.fits c.size-map.ensures.map.small in
    omega (arith, c.requires.index, c.stride.ensures, c.next_along-next.ensures.stride, index_below after.placement.now.rect.size next.x next.y next.f c.next_along-next.ensures.counts, small.cells)

pub returns-clause-cost : goal.returns-clause-cost
returns-clause-cost c = grind (arith, common_steps)
