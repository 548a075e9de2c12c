use Rattle.std.proofs.lemmas.Grind.{common_steps}
use Rattle.std.proofs.Common.{◌≡◌, ◌∙◌, ◌<◌, ◌*◌, ℕ, length, get_or, refl, ap, sym, subst, arith}
use Rattle.std.proofs.lemmas.List.{with_items_is}
use mathlib.Core.Bool.{false≢true}
use Rattle.cells.specs.Boxes.{HasCells}
use Rattle.cells.specs.Distances.{distance}
use Rattle.cells.specs.Places.{raster_index, spot}
use Rattle.map_canvas.specs.Maps.{map_at}
use Rattle.cost_windows.specs.Windows.{window_at}
use Rattle.boxes.specs.Pairs.{AreCounts}
use Rattle.cost_windows.specs.Slides.{HoldsBlock}
use Rattle.cost_windows.specs.Tables.{IsRight, IsRightBeside, corners}
use Rattle.cost_windows.proofs.Changes.{cells_of_block, right_of}
use Rattle.cost_windows.proofs.RowTops.{IsRowBeside, tops_beside}
use Rattle.cost_windows.specs.Tops.{AreTops, row_top}
use Rattle.cost_windows.proofs.table.SeamTable.update.Goals as goal

pub refresh_tops-requires-clause-others : goal.refresh_tops-requires-clause-others
refresh_tops-requires-clause-others c =
    let output = c.self.inside.output in
    let window = c.self.inside.window in
    let block = c.touched-block.result in
    let sums = c.refresh.new.sums in
    let now = c.deref.result.now in
    let tops = c.deref_mut-then-has_cells-2.result.now in
    let same : c.map.result.now.size ≡ output = ap (λ map. map.size) c.map.ensures.map ∙ c.requires.size ∙ ap (λ table. table.output) (sym c.self.view_is) in
    subst (λ size. (r : ℕ) → r < size.h * size.f → IsRowBeside size block r → get_or tops r 0 ≡ row_top size.w now r) (sym c.corners-size.ensures.corners)
    (tops_beside (corners output window) block c.self.inside.sums.items sums c.self.inside.tops.items now tops c.self.invariant.1.1
    (subst (λ size. HoldsBlock size block) c.corners-size.ensures.corners c.touched-block.ensures.inside)
    c.deref_mut-then-has_cells-2.ensures.value (c.deref.ensures.value ∙ with_items_is c.self.inside.sums sums (omega arith))
    (λ i none. c.refresh.ensures.others i (λ x y f inside e. none x y f inside (e ∙ ap (λ size. raster_index (corners size window) x y f) same)) ∙ ap (λ xs. get_or xs i 0) c.deref_mut.ensures.value))

pub invariant_of-self : goal.invariant_of-self
invariant_of-self c =
    let output = c.self.inside.output in
    let window = c.self.inside.window in
    let whole = with_items_is c.self.inside.sums c.refresh.new.sums (omega arith) in
    let all = with_items_is c.self.inside.tops c.refresh_tops.new.tops (omega arith) in
    let tight : AreTops (corners output window) c.deref.result.now c.refresh_tops.new.tops =
    subst (λ size. AreTops size c.deref.result.now c.refresh_tops.new.tops) c.corners-size.ensures.corners c.refresh_tops.ensures in (
      record {
        small = c.self.invariant.0.small;
        window = c.self.invariant.0.window;
        count = ap length whole ∙ c.refresh.auto.sums ∙ ap length c.deref_mut.ensures.value ∙ c.self.invariant.0.count;
      },
      (
        c.self.invariant.1.0,
        record {
          count = ap length all ∙ tight.count;
          each = λ r lt. ap (λ xs. get_or xs r 0) all ∙ tight.each r lt ∙ ap (λ xs. row_top (corners output window).w xs r) c.deref.ensures.value;
        },
      ),
    )

pub returns-then-has_cells-clause-right : goal.returns-then-has_cells-clause-right
returns-then-has_cells-clause-right c =
    let d = distance c.args.sample.now in
    let m = map_at c.args.canvas.now.map in
    let output = c.self.inside.output in
    let window = c.self.inside.window in
    let block = c.touched-block.result in
    let old = c.self.inside.sums.items in
    let sums = c.refresh.new.sums in
    let same : c.map.result.now.size ≡ output = ap (λ map. map.size) c.map.ensures.map ∙ c.requires.size ∙ ap (λ table. table.output) (sym c.self.view_is) in
    let beside : IsRightBeside d m c.args.changed.now (record { output = output; window = window; sums = old }) = subst (IsRightBeside d m c.args.changed.now) (sym c.self.view_is) c.requires.beside in
    let right : IsRight d m (record { output = output; window = window; sums = sums }) =
    right_of d m output window block old sums (subst (λ size. HoldsBlock size block) c.corners-size.ensures.corners c.touched-block.ensures.inside)
    (λ x y f inside. ap (λ size. get_or sums (raster_index (corners size window) x y f) 0) (sym same) ∙ c.refresh.ensures.put x y f inside ∙ (λ i. window_at d window (map_at (c.map.ensures.map i)) (spot x y f)))
    (λ i none. c.refresh.ensures.others i (λ x y f inside e. none x y f inside (e ∙ ap (λ size. raster_index (corners size window) x y f) same)) ∙ ap (λ xs. get_or xs i 0) c.deref_mut.ensures.value)
    (λ x y f are out. beside (spot x y f) (c.touched-block.ensures.others x y f (subst (λ size. AreCounts size x y f) (sym c.corners-size.ensures.corners) are) out)) in
    subst (λ xs. IsRight d m (record { output = output; window = window; sums = xs })) (sym (with_items_is c.self.inside.sums sums (omega arith))) right

pub returns-else-has_cells-clause-right : goal.returns-else-has_cells-clause-right
returns-else-has_cells-clause-right c =
    let d = distance c.args.sample.now in
    let m = map_at c.args.canvas.now.map in
    let output = c.self.inside.output in
    let window = c.self.inside.window in
    let block = c.touched-block.result in
    let old = c.self.inside.sums.items in
    let beside : IsRightBeside d m c.args.changed.now (record { output = output; window = window; sums = old }) = subst (IsRightBeside d m c.args.changed.now) (sym c.self.view_is) c.requires.beside in
    let right : IsRight d m (record { output = output; window = window; sums = old }) =
    right_of d m output window block old old (subst (λ size. HoldsBlock size block) c.corners-size.ensures.corners c.touched-block.ensures.inside)
    (λ x y f inside. absurd (false≢true (sym c.if-has_cells.false ∙ c.has_cells.ensures.1 (subst HasCells (sym c.size.ensures) (cells_of_block block x y f inside)))))
    (λ i none. refl)
    (λ x y f are out. beside (spot x y f) (c.touched-block.ensures.others x y f (subst (λ size. AreCounts size x y f) (sym c.corners-size.ensures.corners) are) out)) in
    subst (IsRight d m) c.self.view_is right

pub refresh_tops-requires-clause-sums : goal.refresh_tops-requires-clause-sums
refresh_tops-requires-clause-sums c = grind (arith, common_steps)

pub refresh_tops-requires-clause-tops : goal.refresh_tops-requires-clause-tops
refresh_tops-requires-clause-tops c = grind (arith, common_steps)

pub refresh-requires-clause-sums : goal.refresh-requires-clause-sums
refresh-requires-clause-sums c = grind (arith, common_steps)

pub refresh_tops-requires-clause-some : goal.refresh_tops-requires-clause-some
refresh_tops-requires-clause-some c = grind (arith, common_steps)

pub refresh-requires-clause-scratch : goal.refresh-requires-clause-scratch
refresh-requires-clause-scratch c = grind (arith, common_steps)

pub refresh_tops-requires-clause-small : goal.refresh_tops-requires-clause-small
refresh_tops-requires-clause-small c = grind (arith, common_steps)

pub refresh-requires-clause-window : goal.refresh-requires-clause-window
refresh-requires-clause-window c = grind (arith, common_steps)

pub refresh-requires-clause-inside : goal.refresh-requires-clause-inside
refresh-requires-clause-inside c = grind (arith, common_steps)

pub refresh-requires-clause-some : goal.refresh-requires-clause-some
refresh-requires-clause-some c = grind (arith, common_steps)

pub returns-then-has_cells-clause-sizes : goal.returns-then-has_cells-clause-sizes
returns-then-has_cells-clause-sizes c = grind (arith, common_steps)

pub refresh_tops-requires-clause-inside : goal.refresh_tops-requires-clause-inside
refresh_tops-requires-clause-inside c = grind (arith, common_steps)
