use Rattle.std.proofs.lemmas.Grind.{common_steps}
use Rattle.std.proofs.Common.{◌≡◌, ◌<◌, ◌+◌, ◌-◌, ◌*◌, ◌/◌, ◌%◌, ℕ, get_or, ap, sym, ◌∙◌, arith}
use Rattle.cells.specs.declared.place.Axis.TheVariants.{X, Y, F}
use Rattle.cells.specs.Distances.{distance}
use Rattle.map_canvas.specs.Maps.{map_at}
use Rattle.cost_windows.specs.Slides.{axis_sum, row_start}
use Rattle.cost_windows.specs.Tables.{corners}
use Rattle.cost_windows.proofs.Reaches.{cell_of_row, index_of_row, row_of}
use Rattle.cost_windows.proofs.AxisSums.{window_by_axes}
use Rattle.cost_windows.proofs.reach.refresh.Goals as goal

added : (a b c e x y f : ℕ) → a ≡ 0 + x → b ≡ a + y → c ≡ b + f → c ≡ x + y + f
added a b c e x y f ea eb ec = omega (arith, ea, eb, ec)

pub returns-clause-put : goal.returns-clause-put
returns-clause-put c = λ x y f inside.
    let d = distance c.args.sample.now in
    let m = map_at c.args.map.now in
    let window = c.args.window in
    let block = c.args.block.now in
    let size = corners c.args.map.now.size window in
    let k = x - block.x.from in
    let row = y - block.y.from + block.y.len * (f - block.f.from) in
    let is = row_of size block x y f inside in
    let at = row_start size block row + k in
    ap (λ i. get_or c.put_axis-3.new.sums i 0) (sym is.index)
    ∙ added (get_or c.put_axis.new.sums at 0) (get_or c.put_axis-2.new.sums at 0) (get_or c.put_axis-3.new.sums at 0) 0
    (axis_sum d m X window (block.x.from + k) (block.y.from + row % block.y.len) (block.f.from + row / block.y.len))
    (axis_sum d m Y window (block.x.from + k) (block.y.from + row % block.y.len) (block.f.from + row / block.y.len))
    (axis_sum d m F window (block.x.from + k) (block.y.from + row % block.y.len) (block.f.from + row / block.y.len))
    (c.put_axis.ensures.put row k is.below is.column) (c.put_axis-2.ensures.put row k is.below is.column) (c.put_axis-3.ensures.put row k is.below is.column)
    ∙ (λ i. axis_sum d m X window (is.x_is i) (is.y_is i) (is.f_is i) + axis_sum d m Y window (is.x_is i) (is.y_is i) (is.f_is i) + axis_sum d m F window (is.x_is i) (is.y_is i) (is.f_is i))
    ∙ sym (window_by_axes d window m x y f)

pub returns-clause-others : goal.returns-clause-others
returns-clause-others c = λ i none.
    let block = c.args.block.now in
    let size = corners c.args.map.now.size c.args.window in
    let out : (row k : ℕ) → row < block.y.len * block.f.len → k < block.x.len → i ≡ row_start size block row + k → ⊥ =
    λ row k below lt e. none (block.x.from + k) (block.y.from + row % block.y.len) (block.f.from + row / block.y.len) (cell_of_row block row k below lt) (e ∙ index_of_row size block row k) in
    c.put_axis-3.ensures.others i out ∙ c.put_axis-2.ensures.others i out ∙ c.put_axis.ensures.others i out

pub put_axis-requires-3-clause-fits : goal.put_axis-requires-3-clause-fits
put_axis-requires-3-clause-fits c = grind (arith, common_steps)

pub put_axis-requires-2-clause-fits : goal.put_axis-requires-2-clause-fits
put_axis-requires-2-clause-fits c = grind (arith, common_steps)

pub put_axis-requires-3-clause-scratch : goal.put_axis-requires-3-clause-scratch
put_axis-requires-3-clause-scratch c = grind (arith, common_steps)

pub put_axis-requires-3-clause-sums : goal.put_axis-requires-3-clause-sums
put_axis-requires-3-clause-sums c = grind (arith, common_steps)

pub put_axis-requires-2-clause-scratch : goal.put_axis-requires-2-clause-scratch
put_axis-requires-2-clause-scratch c = grind (arith, common_steps)

pub put_axis-requires-2-clause-sums : goal.put_axis-requires-2-clause-sums
put_axis-requires-2-clause-sums c = grind (arith, common_steps)

pub put_axis-requires-3-clause-window : goal.put_axis-requires-3-clause-window
put_axis-requires-3-clause-window c = grind (arith, common_steps)

pub put_axis-requires-3-clause-some : goal.put_axis-requires-3-clause-some
put_axis-requires-3-clause-some c = grind (arith, common_steps)

pub put_axis-requires-3-clause-inside : goal.put_axis-requires-3-clause-inside
put_axis-requires-3-clause-inside c = grind (arith, common_steps)
