use Rattle.std.proofs.lemmas.Grind.{common_steps}
use Rattle.std.proofs.Common.{◌≡◌, ◌≤◌, ◌+◌, ◌*◌, ℕ, ap, sym, ◌∙◌, arith}
use Rattle.std.proofs.Math.Nat.{mul-le-mul, mul-le-mul_left}
use Rattle.boxes.specs.Sums.{sum_to}
use Rattle.boxes.proofs.Additions.{counts}
use Rattle.boxes.proofs.Axes.{sum_more}
use Rattle.match_error.specs.Tables.{one_in_row}
use Rattle.match_error.proofs.Filled.{box_cells}
use Rattle.match_error.proofs.Tables.{few_rows, rows_in}
use Rattle.match_error.proofs.table.FilledCounts.box_count.Goals as goal

pub overflow_mul-row : goal.overflow_mul-row
overflow_mul-row c =
    let outer = c.args.self.now.rect in
    omega (arith, rows_in outer.size.h outer.size.f c.args.y c.args.size.h c.args.f c.loop-k.k c.requires.rows (omega (arith, c.requires.frames, c.loop-k-test.true)), few_rows c.args.canvas.now.map outer c.map-map.ensures.canvas.map.small c.requires.counts.inside)

pub overflow_add-row-in-loop-k : goal.overflow_add-row-in-loop-k
overflow_add-row-in-loop-k c =
    let outer = c.args.self.now.rect in
    omega (arith, rows_in outer.size.h outer.size.f c.args.y c.args.size.h c.args.f c.loop-k.k c.requires.rows (omega (arith, c.requires.frames, c.loop-k-test.true)), few_rows c.args.canvas.now.map outer c.map-map.ensures.canvas.map.small c.requires.counts.inside)

pub row_count-count-requires-clause-rows : goal.row_count-count-requires-clause-rows
row_count-count-requires-clause-rows c =
    let outer = c.args.self.now.rect in
    rows_in outer.size.h outer.size.f c.args.y c.args.size.h c.args.f c.loop-k.k c.requires.rows (omega (arith, c.requires.frames, c.loop-k-test.true))

pub overflow_add-count : goal.overflow_add-count
overflow_add-count c =
    let size = c.args.size in
    let outer = c.args.self.now.rect in
    let frames : size.h * (c.loop-k.k + 1) ≤ size.h * size.f = mul-le-mul_left size.h (omega (arith, c.loop-k-test.true)) in
    let cells : size.w * (size.h * (c.loop-k.k + 1)) ≤ size.w * (size.h * size.f) = mul-le-mul_left size.w frames in
    let w : size.w ≤ outer.size.w = omega (arith, c.requires.columns) in
    let h : size.h ≤ outer.size.h = omega (arith, c.requires.rows) in
    let f : size.f ≤ outer.size.f = omega (arith, c.requires.frames) in
    let inner : size.w * (size.h * size.f) ≤ outer.size.w * (outer.size.h * outer.size.f) = mul-le-mul w (mul-le-mul h f) in
    omega (arith, cells, inner, c.loop-k.invariant.fits, c.row_count-count.ensures.small, box_cells c.args.canvas.now.map.size outer c.requires.counts.inside, c.map-map.ensures.canvas.map.small.cells)

pub loop-k-preserved : goal.loop-k-preserved
loop-k-preserved c =
    let size = c.args.size in
    let outer = c.args.self.now.rect in
    let g = λ (k : ℕ). sum_to size.h (λ j. sum_to size.w (λ i. one_in_row c.args.canvas.now.map outer (c.args.x + i) ((c.args.y + outer.size.h * (c.args.f + k)) + j))) in
    record {
      count = (λ t. c.loop-k.invariant.count t + c.row_count-count.ensures.count t) ∙ sym (sum_more counts c.loop-k.k g);
      fits = omega (arith, c.loop-k.invariant.fits, c.row_count-count.ensures.small);
    }

pub returns : goal.returns
returns c =
    let size = c.args.size in
    let outer = c.args.self.now.rect in
    let whole : c.loop-k.k ≡ size.f = omega (arith, c.loop-k-test.false, c.loop-k.auto.k-end) in
    c.loop-k.invariant.count ∙ ap (λ n. sum_to n (λ k. sum_to size.h (λ j. sum_to size.w (λ i. one_in_row c.args.canvas.now.map outer (c.args.x + i) ((c.args.y + outer.size.h * (c.args.f + k)) + j))))) whole

pub overflow_add-row : goal.overflow_add-row
overflow_add-row c = grind (arith, common_steps)
