use Rattle.std.proofs.Common.{◌≡◌, ◌<◌, ◌+◌, ◌*◌, length, ap, sym, subst, ◌∙◌, arith}
use Rattle.std.proofs.lemmas.List.{length_push}
use Rattle.cells.specs.Places.{SumFits, place_of, plus}
use Rattle.cells.proofs.BoxLaws.{box_small, box_sum_fits}
use Rattle.cells.proofs.Raster.{below_of_div, in_rows}
use Rattle.map_canvas.specs.Maps.{IsFilled}
use Rattle.search_squares.specs.Gathered.{MarkFilled}
use Rattle.search_squares.proofs.Gatherings.{more_filled}
use Rattle.search_squares.proofs.OneCells.{single_place}
use Rattle.search_squares.proofs.blocks.add_filled_row.Goals as goal

pub step_to-requires : goal.step_to-requires
step_to-requires c =
    let size = c.args.rect.now.size in
    let small = box_small c.args.canvas.now.map.size c.args.rect.now.corner size c.map-map.ensures.canvas.map.small c.requires.some c.requires.inside in
    (omega (arith, c.loop-x-test.true, c.loop-x.auto, small.axes.w), omega (arith, small.axes.h), omega (arith, below_of_div size.h size.f c.args.row c.requires.some.h c.requires.below, small.axes.f))

pub plus-at-requires : goal.plus-at-requires
plus-at-requires c =
    let rect = c.args.rect.now in
    let size = rect.size in
    let x = c.loop-x.x in
    let lx : x < size.w = omega (arith, c.loop-x-test.true, c.loop-x.auto) in
    subst (SumFits rect.corner) (sym (c.step_to.ensures ∙ single_place size c.args.row x lx))
    (box_sum_fits c.args.canvas.now.map.size rect.corner size (size.w * c.args.row + x) c.map-map.ensures.canvas.map.small.axes c.requires.inside c.requires.some
    (omega (arith, in_rows size.w (size.h * size.f) c.args.row x lx c.requires.below)))

pub loop-x-init : goal.loop-x-init
loop-x-init c = record { long = omega (arith, c.requires.long); filled = c.requires.filled }

pub loop-x-preserved : goal.loop-x-preserved
loop-x-preserved c =
    let rect = c.args.rect.now in
    let size = rect.size in
    let m = c.args.canvas.now.map in
    let x = c.loop-x.x in
    let lx : x < size.w = omega (arith, c.loop-x-test.true, c.loop-x.auto) in
    let cells = c.loop-x.cells.items in
    let at : c.plus-at.result ≡ plus rect.corner (place_of size (length cells)) =
    c.plus-at.ensures ∙ ap (plus rect.corner) (c.step_to.ensures ∙ single_place size c.args.row x lx) ∙ ap (λ n. plus rect.corner (place_of size n)) (sym c.loop-x.invariant.long) in
    record {
      long = omega (arith, ap length c.in_ok-push.ensures.items, length_push cells c.is_filled.result, c.loop-x.invariant.long);
      filled =
          subst (MarkFilled m rect) (sym c.in_ok-push.ensures.items)
          (more_filled m rect cells c.is_filled.result (λ is. subst (IsFilled m) at (c.is_filled.ensures.0 is)) c.loop-x.invariant.filled);
    }

pub returns-clause-long : goal.returns-clause-long
returns-clause-long c =
    let w = c.args.rect.now.size.w in
    let all : c.loop-x.x ≡ w = omega (arith, c.loop-x-test.false, c.loop-x.auto.x-end) in
    omega (arith, c.loop-x.invariant.long, all)
