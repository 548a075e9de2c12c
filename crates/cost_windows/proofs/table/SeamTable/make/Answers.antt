use Rattle.std.proofs.lemmas.Grind.{common_steps}
use Rattle.std.proofs.Common.{◌≡◌, ◌∙◌, get_or, ap, sym, subst, arith}
use Rattle.std.proofs.lemmas.List.{with_items_is}
use Rattle.cells.specs.Distances.{distance}
use Rattle.cells.specs.Places.{raster_index, spot}
use Rattle.map_canvas.specs.Maps.{map_at, SourceMap}
use Rattle.cost_windows.specs.Windows.{window_at}
use Rattle.boxes.specs.Pairs.{AreCounts}
use Rattle.cost_windows.specs.Slides.{HoldsBlock}
use Rattle.cost_windows.specs.Tables.{IsRight, corners, IsWindow}
use Rattle.cost_windows.proofs.Changes.{right_of}
use Rattle.cost_windows.proofs.RowTops.{no_row_beside_all}
use Rattle.cells.specs.declared.place.Size.{Size}
use Rattle.cells.specs.Boxes.{HasCells}
use Rattle.cost_windows.proofs.table.SeamTable.make.Goals as goal

pub refresh_tops-requires-clause-others : goal.refresh_tops-requires-clause-others
refresh_tops-requires-clause-others c = λ r lt beside.
    let size = c.corners-corners.result in
    absurd (no_row_beside_all size c.whole-block.result r c.whole-block.ensures.each c.corners-corners.ensures.small.axes.w.0 lt beside)

pub returns-clause-right : goal.returns-clause-right
returns-clause-right c =
    let d = distance c.args.sample.now in
    let m = map_at c.args.canvas.now.map in
    let output = c.size-output.result in
    let window = c.args.window in
    let block = c.whole-block.result in
    let sums = c.refresh.new.sums in
    let same : c.map-map.result.now.size ≡ output = sym c.size-output.ensures.size in
    let right : IsRight d m (record { output = output; window = window; sums = sums }) =
    right_of d m output window block c.deref_mut.result.now sums (subst (λ size. HoldsBlock size block) c.corners-corners.ensures.corners c.whole-block.ensures.inside)
    (λ x y f inside. ap (λ size. get_or sums (raster_index (corners size window) x y f) 0) (sym same) ∙ c.refresh.ensures.put x y f inside ∙ (λ i. window_at d window (map_at (c.map-map.ensures.map i)) (spot x y f)))
    (λ i none. c.refresh.ensures.others i (λ x y f inside e. none x y f inside (e ∙ ap (λ size. raster_index (corners size window) x y f) same)))
    (λ x y f are out. absurd (out (c.whole-block.ensures.each x y f (subst (λ size. AreCounts size x y f) (sym c.corners-corners.ensures.corners) are)))) in
    subst (λ xs. IsRight d m (record { output = output; window = window; sums = xs })) (sym (with_items_is c.in_ok-sums.sums sums (omega arith))) right

pub invariant_of-result : goal.invariant_of-result
invariant_of-result c = grind (arith, common_steps)

pub refresh-requires-clause-sums : goal.refresh-requires-clause-sums
refresh-requires-clause-sums c = grind (arith, common_steps)

pub refresh-requires-clause-scratch : goal.refresh-requires-clause-scratch
refresh-requires-clause-scratch c = grind (arith, common_steps)

pub refresh-requires-clause-inside : goal.refresh-requires-clause-inside
refresh-requires-clause-inside c =
    subst (λ (size : Size). HoldsBlock size c.whole-block.result) (c.corners-corners.ensures.corners ∙ ap (λ (output : Size). corners output c.args.window) c.size-output.ensures.size) c.whole-block.ensures.inside

pub refresh_tops-requires-clause-some : goal.refresh_tops-requires-clause-some
refresh_tops-requires-clause-some c =
    let axes = c.corners-corners.ensures.small.axes in
    subst HasCells (sym c.whole-block.ensures.size) (record { w = axes.w.0; h = axes.h.0; f = axes.f.0 })

pub refresh-requires-clause-window : goal.refresh-requires-clause-window
refresh-requires-clause-window c =
    subst (λ (m : SourceMap). IsWindow m.size c.args.window) (sym c.map-map.ensures.map) c.requires.window

pub refresh_tops-requires-clause-small : goal.refresh_tops-requires-clause-small
refresh_tops-requires-clause-small c = c.corners-corners.ensures.small

pub refresh-requires-clause-some : goal.refresh-requires-clause-some
refresh-requires-clause-some c =
    let axes = c.corners-corners.ensures.small.axes in
    subst HasCells (sym c.whole-block.ensures.size) (record { w = axes.w.0; h = axes.h.0; f = axes.f.0 })

pub cells-requires-2 : goal.cells-requires-2
cells-requires-2 c = grind (arith, common_steps)

pub overflow_mul-corners : goal.overflow_mul-corners
overflow_mul-corners c = grind (arith, common_steps)

pub returns-clause-sizes : goal.returns-clause-sizes
returns-clause-sizes c = grind (arith, common_steps)

pub refresh_tops-requires-clause-sums : goal.refresh_tops-requires-clause-sums
refresh_tops-requires-clause-sums c = grind (arith, common_steps)

pub refresh_tops-requires-clause-tops : goal.refresh_tops-requires-clause-tops
refresh_tops-requires-clause-tops c = grind (arith, common_steps)

pub refresh_tops-requires-clause-inside : goal.refresh_tops-requires-clause-inside
refresh_tops-requires-clause-inside c = grind (arith, common_steps)

pub corners-corners-requires-clause-window : goal.corners-corners-requires-clause-window
corners-corners-requires-clause-window c = grind (arith, common_steps)

pub corners-corners-requires-clause-small : goal.corners-corners-requires-clause-small
corners-corners-requires-clause-small c = grind (arith, common_steps)

pub overflow_cast-corners-2 : goal.overflow_cast-corners-2
overflow_cast-corners-2 c = grind (arith, common_steps)

pub overflow_cast-corners : goal.overflow_cast-corners
overflow_cast-corners c = grind (arith, common_steps)
