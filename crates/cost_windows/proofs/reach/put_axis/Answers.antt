use Rattle.std.proofs.Common.{arith}
use Rattle.std.proofs.lemmas.Grind.{common_steps}
use Rattle.std.proofs.Common.{◌+◌, ◌/◌, ◌%◌, ap, ◌∙◌, sym, subst}
use mathlib.Core.Bool.{false≢true}
use Rattle.cells.specs.Boxes.{HasCells}
use Rattle.cells.specs.Distances.{distance}
use Rattle.map_canvas.specs.Maps.{map_at}
use Rattle.cost_windows.specs.Slides.{AreCosts, block_size, box_run, row_start}
use Rattle.cost_windows.specs.Tables.{corners}
use Rattle.cost_windows.proofs.Reaches.{axis_none, axis_of_runs}
use Rattle.cost_windows.proofs.reach.put_axis.Goals as goal

pub returns-clause-others : goal.returns-clause-others
returns-clause-others c = λ i none.
    let shape = c.corners.ensures.corners ∙ ap (λ output. corners output c.args.window) c.size-output.ensures.size in
    c.put_rows.ensures.others i (λ row k below lt e. none row k below lt (e ∙ ap (λ size. row_start size c.args.block.now row + k) shape))

pub returns-clause-put : goal.returns-clause-put
returns-clause-put c =
    let d = distance c.args.sample.now in
    let m = map_at c.args.map.now in
    let same = c.reach-reach.ensures.reach in
    let sums =
    axis_of_runs d m c.args.axis c.args.window c.args.block.now c.fill.new.costs c.sum_boxes.new.buffer c.requires.window.some
    (subst (λ reach. AreCosts d m c.args.axis reach c.fill.new.costs) same c.fill.ensures.costs)
    (λ j. c.sum_boxes.ensures.sums j ∙ (λ i. box_run ((c.size-size.ensures ∙ ap block_size same) i) (c.less_one-less.ensures.less i) c.fill.new.costs j)) in
    grind (arith, common_steps, sums)

pub put_rows-requires-clause-fits : goal.put_rows-requires-clause-fits
put_rows-requires-clause-fits c = grind (arith, common_steps)

pub returns-clause-small : goal.returns-clause-small
returns-clause-small c = grind (arith, common_steps)

pub put_rows-requires-clause-sums : goal.put_rows-requires-clause-sums
put_rows-requires-clause-sums c = grind (arith, common_steps)

pub put_rows-requires-clause-more : goal.put_rows-requires-clause-more
put_rows-requires-clause-more c = grind (arith, common_steps)

pub put_rows-requires-clause-inside : goal.put_rows-requires-clause-inside
put_rows-requires-clause-inside c = grind (arith, common_steps)

pub put_rows-requires-clause-room : goal.put_rows-requires-clause-room
put_rows-requires-clause-room c = grind (arith, common_steps)

pub corners-requires-clause-window : goal.corners-requires-clause-window
corners-requires-clause-window c = grind (arith, common_steps)

pub put_rows-requires-clause-reach : goal.put_rows-requires-clause-reach
put_rows-requires-clause-reach c = grind (arith, common_steps)

pub corners-requires-clause-small : goal.corners-requires-clause-small
corners-requires-clause-small c = grind (arith, common_steps)

pub slice_bounds-costs-end-2 : goal.slice_bounds-costs-end-2
slice_bounds-costs-end-2 c = grind (arith, common_steps)

pub slice_bounds-costs-end : goal.slice_bounds-costs-end
slice_bounds-costs-end c = grind (arith, common_steps)

pub cells-requires : goal.cells-requires
cells-requires c = grind (arith, common_steps)

pub sum_boxes-requires-clause-count : goal.sum_boxes-requires-clause-count
sum_boxes-requires-clause-count c = grind (arith, common_steps)

pub sum_boxes-requires-clause-small : goal.sum_boxes-requires-clause-small
sum_boxes-requires-clause-small c = grind (arith, common_steps)

pub sum_boxes-requires-clause-size : goal.sum_boxes-requires-clause-size
sum_boxes-requires-clause-size c = grind (arith, common_steps)

pub fill-requires-clause-count : goal.fill-requires-clause-count
fill-requires-clause-count c = grind (arith, common_steps)

pub fill-requires-clause-some : goal.fill-requires-clause-some
fill-requires-clause-some c =
    let same = c.reach-reach.ensures.reach in
    omega (arith, ap (λ reach. reach.x.len) same, c.requires.some.w, c.requires.window.some.w)

pub fill-requires-clause-inside : goal.fill-requires-clause-inside
fill-requires-clause-inside c = grind (arith, common_steps)

pub reach-reach-requires-clause-window : goal.reach-reach-requires-clause-window
reach-reach-requires-clause-window c = grind (arith, common_steps)

pub reach-reach-requires-clause-inside : goal.reach-reach-requires-clause-inside
reach-reach-requires-clause-inside c = grind (arith, common_steps)

pub reach-reach-requires-clause-small : goal.reach-reach-requires-clause-small
reach-reach-requires-clause-small c = grind (arith, common_steps)

pub put_rows-requires-clause-some : goal.put_rows-requires-clause-some
put_rows-requires-clause-some c = grind (arith, common_steps)

pub put_rows-requires-clause-small : goal.put_rows-requires-clause-small
put_rows-requires-clause-small c = grind (arith, common_steps)

pub less_one-less-requires-clause-some : goal.less_one-less-requires-clause-some
less_one-less-requires-clause-some c = grind (arith, common_steps)

pub less_one-less-requires-clause-lens : goal.less_one-less-requires-clause-lens
less_one-less-requires-clause-lens c = grind (arith, common_steps)

pub returns-then-not-has_cells-clause-put : goal.returns-then-not-has_cells-clause-put
returns-then-not-has_cells-clause-put c = rw c.if-keep.true (λ row k below lt.
    let block = c.args.block.now in
    omega (
      arith,
      axis_none (distance c.args.sample.now) (map_at c.args.map.now) c.args.axis c.args.window (block.x.from + k) (block.y.from + row % block.y.len) (block.f.from + row / block.y.len)
          (λ some. false≢true (sym c.if-not-has_cells.true ∙ c.has_cells.ensures.1 (subst HasCells (sym c.less_one-less.ensures.less) some))),
    ))

pub returns-then-not-has_cells-clause-small : goal.returns-then-not-has_cells-clause-small
returns-then-not-has_cells-clause-small c = rw c.if-keep.true (λ row k below lt. omega arith)
