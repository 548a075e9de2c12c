use Rattle.std.proofs.Common.{◌≡◌, ◌≤◌, ℕ, ◌+◌, ◌-◌, ◌*◌, ◌∙◌, ap, sym, arith}
use Rattle.std.proofs.Math.Nat.{mul-le-mul_left}
use Rattle.std.proofs.lemmas.List.{length-take}
use Rattle.lane_kernels.specs.Sums.{sum_of_squared_differences}
use Rattle.boxes.specs.Sums.{sum_to}
use Rattle.map_canvas.specs.CellErrors.{spot_error}
use Rattle.match_error.proofs.Overlaps.{row_short}
use Rattle.match_error.proofs.RowBytes.{part_is_error, piece_of_row}
use Rattle.match_error.proofs.overlap.run_sum.Goals as goal

pub slice_bounds-squared_differences-end : goal.slice_bounds-squared_differences-end
slice_bounds-squared_differences-end c =
    let k = c.samples-k.result in
    let w = c.args.placement.now.rect.size.w in
    let within : c.column_in-end.result ≤ w = omega (arith, c.column_in-end.ensures) in
    omega (arith, mul-le-mul_left k within, ap (λ n. n * w) c.samples-k.ensures.samples, c.requires.bytes.old_long)

pub squared_differences-requires-clause-within_limit : goal.squared_differences-requires-clause-within_limit
squared_differences-requires-clause-within_limit c =
    let k = c.samples-k.result in
    let w = c.args.placement.now.rect.size.w in
    let within : c.column_in-end.result ≤ w = omega (arith, c.column_in-end.ensures) in
    let short : k * w ≤ 24576 = omega (
      arith,
      row_short c.args.canvas.now c.args.placement.now.rect c.picture-picture.ensures.canvas c.requires.fits.inside,
      ap (λ n. n * w) c.samples-k.ensures.samples,
      ap (λ n. n * w) c.requires.over.samples,
    ) in
    omega (arith, length-take {A = ℕ}, mul-le-mul_left k within, short)

pub returns-then-first-end : goal.returns-then-first-end
returns-then-first-end c =
    let canvas = c.args.canvas.now in
    let sample = c.args.sample.now in
    let placement = c.args.placement.now in
    let first = c.column_in-first.result in
    let end = c.column_in-end.result in
    c.squared_differences.ensures
    ∙ (λ t. sum_of_squared_differences (piece_of_row c.samples-k.result sample.k first end c.args.old.now c.samples-k.ensures.samples t) (piece_of_row c.samples-k.result sample.k first end c.args.new.now c.samples-k.ensures.samples t))
    ∙ part_is_error canvas sample placement c.picture-picture.ensures.canvas c.samples-k.ensures.volume c.requires.over c.requires.fits c.args.y c.args.f c.requires.counts.0 c.requires.counts.1
    c.args.old.now c.args.new.now c.requires.bytes first (end - first) (omega (arith, c.if-first-end.true)) (omega (arith, c.if-first-end.true, c.column_in-end.ensures))
    (λ j lj. c.requires.run.cells (first + j) (omega (arith, c.column_in-first.ensures)) (omega (arith, c.column_in-end.ensures, lj)))
    ∙ (λ k. sum_to (c.column_in-end.ensures k - c.column_in-first.ensures k) (λ i. spot_error canvas.map sample placement (c.column_in-first.ensures k + i) c.args.y c.args.f))

pub returns : goal.returns
returns c =
    let m = c.args.canvas.now.map in
    let sample = c.args.sample.now in
    let placement = c.args.placement.now in
    let none : c.column_in-end.result - c.column_in-first.result ≡ 0 = omega (arith, c.if-first-end.false) in
    sym (ap (λ n. sum_to n (λ i. spot_error m sample placement (c.column_in-first.result + i) c.args.y c.args.f)) none)
    ∙ (λ k. sum_to (c.column_in-end.ensures k - c.column_in-first.ensures k) (λ i. spot_error m sample placement (c.column_in-first.ensures k + i) c.args.y c.args.f))

pub slice_bounds-squared_differences-start-then-first-end : goal.slice_bounds-squared_differences-start-then-first-end
slice_bounds-squared_differences-start-then-first-end c = mul-le-mul_left c.samples-k.result (let before : c.column_in-first.result ≤ c.column_in-end.result = omega (arith, c.if-first-end.true) in before)

pub slice_bounds-squared_differences-count-then-first-end : goal.slice_bounds-squared_differences-count-then-first-end
slice_bounds-squared_differences-count-then-first-end c = mul-le-mul_left c.samples-k.result (let before : c.column_in-first.result ≤ c.column_in-end.result = omega (arith, c.if-first-end.true) in before)

pub slice_bounds-squared_differences-start : goal.slice_bounds-squared_differences-start
slice_bounds-squared_differences-start c = mul-le-mul_left c.samples-k.result (let before : c.column_in-first.result ≤ c.column_in-end.result = omega (arith, c.if-first-end.true) in before)

pub slice_bounds-squared_differences-count : goal.slice_bounds-squared_differences-count
slice_bounds-squared_differences-count c = mul-le-mul_left c.samples-k.result (let before : c.column_in-first.result ≤ c.column_in-end.result = omega (arith, c.if-first-end.true) in before)

pub slice_bounds-squared_differences-end-then-first-end : goal.slice_bounds-squared_differences-end-then-first-end
slice_bounds-squared_differences-end-then-first-end c =
    let k = c.samples-k.result in
    let w = c.args.placement.now.rect.size.w in
    let within : c.column_in-end.result ≤ w = omega (arith, c.column_in-end.ensures) in
    omega (arith, mul-le-mul_left k within, ap (λ n. n * w) c.samples-k.ensures.samples, ap (λ n. n * w) c.requires.over.samples, c.requires.bytes.new_long)

pub overflow_mul-stop : goal.overflow_mul-stop
overflow_mul-stop c =
    let k = c.samples-k.result in
    let w = c.args.placement.now.rect.size.w in
    let within : c.column_in-end.result ≤ w = omega (arith, c.column_in-end.ensures, c.if-first-end.true) in
    omega (
      arith,
      mul-le-mul_left k within,
      row_short c.args.canvas.now c.args.placement.now.rect c.picture-picture.ensures.canvas c.requires.fits.inside,
      ap (λ n. n * w) c.samples-k.ensures.samples,
      ap (λ n. n * w) c.requires.over.samples,
    )

pub overflow_mul-start : goal.overflow_mul-start
overflow_mul-start c =
    let k = c.samples-k.result in
    let w = c.args.placement.now.rect.size.w in
    let within : c.column_in-first.result ≤ w = omega (arith, c.column_in-end.ensures, c.if-first-end.true) in
    omega (
      arith,
      mul-le-mul_left k within,
      row_short c.args.canvas.now c.args.placement.now.rect c.picture-picture.ensures.canvas c.requires.fits.inside,
      ap (λ n. n * w) c.samples-k.ensures.samples,
      ap (λ n. n * w) c.requires.over.samples,
    )

pub overflow_cast-stop : goal.overflow_cast-stop
overflow_cast-stop c = omega (arith, overflow_mul-stop c)

pub overflow_cast-start : goal.overflow_cast-start
overflow_cast-start c = omega (arith, overflow_mul-start c)

pub squared_differences-requires-clause-same_length : goal.squared_differences-requires-clause-same_length
squared_differences-requires-clause-same_length c = omega arith
