use Rattle.std.proofs.lemmas.Grind.{common_steps}
-- Both rows end within the table, and a number of a row is one of the table.
use Rattle.std.proofs.Common.{◌*◌, ◌+◌, arith}
use Rattle.loop_walk.proofs.RestLaws.{get_or-row, row_within}
use Rattle.loop_walk.proofs.product.lower_through.Goals as goal

pub overflow_mul-seconds : goal.overflow_mul-seconds
overflow_mul-seconds c = omega (arith, c.requires.nears, row_within c.args.n c.args.v c.requires.v)

pub overflow_mul-seconds-then-first-lt-FAR : goal.overflow_mul-seconds-then-first-lt-FAR
overflow_mul-seconds-then-first-lt-FAR c = omega (arith, c.requires.nears, row_within c.args.n c.args.v c.requires.v)

pub overflow_add-seconds : goal.overflow_add-seconds
overflow_add-seconds c = omega (arith, c.requires.nears, row_within c.args.n c.args.v c.requires.v)

pub offset_bounds-nears-v : goal.offset_bounds-nears-v
offset_bounds-nears-v c = omega (arith, c.requires.nears, row_within c.args.n c.args.v c.requires.v)

pub slice_bounds-seconds-start : goal.slice_bounds-seconds-start
slice_bounds-seconds-start c = omega (arith, c.requires.nears, row_within c.args.n c.args.v c.requires.v)

pub slice_bounds-seconds-end : goal.slice_bounds-seconds-end
slice_bounds-seconds-end c = omega (arith, c.requires.nears, row_within c.args.n c.args.v c.requires.v)

pub lower-requires-clause-seconds : goal.lower-requires-clause-seconds
lower-requires-clause-seconds c = omega (arith, c.requires.nears, row_within c.args.n c.args.v c.requires.v)

pub overflow_mul-others : goal.overflow_mul-others
overflow_mul-others c = omega (arith, c.requires.nears, row_within c.args.n c.args.w c.requires.w)

pub overflow_mul-others-then-first-lt-FAR : goal.overflow_mul-others-then-first-lt-FAR
overflow_mul-others-then-first-lt-FAR c = omega (arith, c.requires.nears, row_within c.args.n c.args.w c.requires.w)

pub overflow_add-others : goal.overflow_add-others
overflow_add-others c = omega (arith, c.requires.nears, row_within c.args.n c.args.w c.requires.w)

pub offset_bounds-nears-w : goal.offset_bounds-nears-w
offset_bounds-nears-w c = omega (arith, c.requires.nears, row_within c.args.n c.args.w c.requires.w)

pub slice_bounds-others-start : goal.slice_bounds-others-start
slice_bounds-others-start c = omega (arith, c.requires.nears, row_within c.args.n c.args.w c.requires.w)

pub slice_bounds-others-end : goal.slice_bounds-others-end
slice_bounds-others-end c = omega (arith, c.requires.nears, row_within c.args.n c.args.w c.requires.w)

pub lower-requires-clause-others : goal.lower-requires-clause-others
lower-requires-clause-others c = omega (arith, c.requires.nears, row_within c.args.n c.args.w c.requires.w)

pub lower-requires-clause-near_seconds : goal.lower-requires-clause-near_seconds
lower-requires-clause-near_seconds c = λ k lt.
    let n = c.args.n in
    let v = c.args.v in
    omega (arith, c.requires.nears, row_within n v c.requires.v, get_or-row c.args.nears.now (v * n) n k (omega arith), c.requires.near_nears (v * n + k) (omega (arith, c.requires.nears, row_within n v c.requires.v)))

pub lower-requires-clause-near_others : goal.lower-requires-clause-near_others
lower-requires-clause-near_others c = λ k lt.
    let n = c.args.n in
    let w = c.args.w in
    omega (arith, c.requires.nears, row_within n w c.requires.w, get_or-row c.args.nears.now (w * n) n k (omega arith), c.requires.near_nears (w * n + k) (omega (arith, c.requires.nears, row_within n w c.requires.w)))

pub returns-then-first-lt-FAR-clause-lowered : goal.returns-then-first-lt-FAR-clause-lowered
returns-then-first-lt-FAR-clause-lowered c = λ j lt.
    let n = c.args.n in
    omega (arith, c.lower.ensures.lowered j (omega (arith, c.requires.sums)), get_or-row c.args.nears.now (c.args.v * n) n j lt, get_or-row c.args.nears.now (c.args.w * n) n j lt, c.min-first.ensures, c.min-other.ensures)

pub returns-else-other-lt-FAR-clause-lowered : goal.returns-else-other-lt-FAR-clause-lowered
returns-else-other-lt-FAR-clause-lowered c = λ j lt. omega (arith, c.requires.near j (omega (arith, c.requires.sums)), c.min-first.ensures, c.min-other.ensures)

pub lower-requires-clause-near : goal.lower-requires-clause-near
lower-requires-clause-near c = grind (arith, common_steps)

pub returns-then-first-lt-FAR-clause-near : goal.returns-then-first-lt-FAR-clause-near
returns-then-first-lt-FAR-clause-near c = grind (arith, common_steps)

pub returns-else-other-lt-FAR-clause-near : goal.returns-else-other-lt-FAR-clause-near
returns-else-other-lt-FAR-clause-near c = grind (arith, common_steps)
