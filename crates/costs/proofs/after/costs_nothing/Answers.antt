use Rattle.std.proofs.Common.{◌≡◌, ◌∙◌, ◌+◌, sym, subst, arith, get_or, true, false}
use Rattle.cells.specs.Distances.{distance}
use Rattle.cells.specs.Places.{raster_index}
use Rattle.map_canvas.proofs.Filling.{fits_small}
use Rattle.boxes.proofs.Indices.{index_below}
use Rattle.costs.proofs.Choosing.{both_new, no_next}
use Rattle.costs.proofs.after.costs_nothing.Goals as goal

pub returns-then-not-has_next : goal.returns-then-not-has_next
returns-then-not-has_next c _ =
    let after = c.args.after.now in
    let at = c.args.at in
    no_next after.map.now after.placement.now after.choice.now (distance after.sample.now) c.args.axis at.x at.y at.f c.requires.counts (sym c.has_next.ensures ∙ c.if-not-has_next.true)

pub stride-requires : goal.stride-requires
stride-requires c =
    let after = c.args.after.now in
    fits_small after.map.now.size after.sample.now after.placement.now after.fits c.size-map.ensures.map.small

pub overflow_add-i : goal.overflow_add-i
overflow_add-i c =
    let after = c.args.after.now in
    let next = c.next_along-next.result in
    let small = fits_small after.map.now.size after.sample.now after.placement.now after.fits c.size-map.ensures.map.small in
    omega (arith, c.requires.index, c.stride.ensures, c.next_along-next.ensures.stride, index_below after.placement.now.rect.size next.x next.y next.f c.next_along-next.ensures.counts, small.cells)

pub returns : goal.returns
returns c new_there =
    let after = c.args.after.now in
    let placement = after.placement.now in
    let at = c.args.at in
    let next = c.next_along-next.result in
    let new = subst (λ n. get_or after.choice.now n false ≡ true) c.requires.index (sym c.is_new.ensures ∙ c.if-not-is_new.false) in
    let index : c.args.i + c.stride.result ≡ raster_index placement.rect.size next.x next.y next.f = omega (arith, c.requires.index, c.stride.ensures, c.next_along-next.ensures.stride) in
    both_new after.map.now placement after.choice.now after.sample.now c.args.axis at.x at.y at.f next.x next.y next.f c.requires.counts c.next_along-next.ensures.counts (c.next_along-next.ensures.next placement.rect) new
    (subst (λ n. get_or after.choice.now n false ≡ true) index (sym c.is_new-2.ensures ∙ new_there))
