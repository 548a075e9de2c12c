use Rattle.std.proofs.lemmas.Grind.{common_steps}
-- Both rows end within the table, and a number of a row is one of the table.
use Rattle.std.proofs.Common.{◌*◌, ◌+◌, arith}
use Rattle.loop_walk.proofs.RestLaws.{get_or-row, row_within}
use Rattle.loop_walk.proofs.rests.lower_rests_through.Goals as goal

pub overflow_mul-seconds : goal.overflow_mul-seconds
overflow_mul-seconds c = omega (arith, c.requires.rests, row_within c.args.n c.args.v c.requires.v)

pub overflow_mul-seconds-then-first-lt-GREATEST_REST : goal.overflow_mul-seconds-then-first-lt-GREATEST_REST
overflow_mul-seconds-then-first-lt-GREATEST_REST c = omega (arith, c.requires.rests, row_within c.args.n c.args.v c.requires.v)

pub overflow_add-seconds : goal.overflow_add-seconds
overflow_add-seconds c = omega (arith, c.requires.rests, row_within c.args.n c.args.v c.requires.v)

pub offset_bounds-rests-v : goal.offset_bounds-rests-v
offset_bounds-rests-v c = omega (arith, c.requires.rests, row_within c.args.n c.args.v c.requires.v)

pub slice_bounds-seconds-start : goal.slice_bounds-seconds-start
slice_bounds-seconds-start c = omega (arith, c.requires.rests, row_within c.args.n c.args.v c.requires.v)

pub slice_bounds-seconds-end : goal.slice_bounds-seconds-end
slice_bounds-seconds-end c = omega (arith, c.requires.rests, row_within c.args.n c.args.v c.requires.v)

pub lower_rests-requires-clause-seconds : goal.lower_rests-requires-clause-seconds
lower_rests-requires-clause-seconds c = omega (arith, c.requires.rests, row_within c.args.n c.args.v c.requires.v)

pub overflow_mul-others : goal.overflow_mul-others
overflow_mul-others c = omega (arith, c.requires.rests, row_within c.args.n c.args.w c.requires.w)

pub overflow_mul-others-then-first-lt-GREATEST_REST : goal.overflow_mul-others-then-first-lt-GREATEST_REST
overflow_mul-others-then-first-lt-GREATEST_REST c = omega (arith, c.requires.rests, row_within c.args.n c.args.w c.requires.w)

pub overflow_add-others : goal.overflow_add-others
overflow_add-others c = omega (arith, c.requires.rests, row_within c.args.n c.args.w c.requires.w)

pub offset_bounds-rests-w : goal.offset_bounds-rests-w
offset_bounds-rests-w c = omega (arith, c.requires.rests, row_within c.args.n c.args.w c.requires.w)

pub slice_bounds-others-start : goal.slice_bounds-others-start
slice_bounds-others-start c = omega (arith, c.requires.rests, row_within c.args.n c.args.w c.requires.w)

pub slice_bounds-others-end : goal.slice_bounds-others-end
slice_bounds-others-end c = omega (arith, c.requires.rests, row_within c.args.n c.args.w c.requires.w)

pub lower_rests-requires-clause-others : goal.lower_rests-requires-clause-others
lower_rests-requires-clause-others c = omega (arith, c.requires.rests, row_within c.args.n c.args.w c.requires.w)

pub lower_rests-requires-clause-small_seconds : goal.lower_rests-requires-clause-small_seconds
lower_rests-requires-clause-small_seconds c = λ k lt.
    let n = c.args.n in
    let v = c.args.v in
    omega (arith, c.requires.rests, row_within n v c.requires.v, get_or-row c.args.rests.now (v * n) n k (omega arith), c.requires.small_rests (v * n + k) (omega (arith, c.requires.rests, row_within n v c.requires.v)))

pub lower_rests-requires-clause-small_others : goal.lower_rests-requires-clause-small_others
lower_rests-requires-clause-small_others c = λ k lt.
    let n = c.args.n in
    let w = c.args.w in
    omega (arith, c.requires.rests, row_within n w c.requires.w, get_or-row c.args.rests.now (w * n) n k (omega arith), c.requires.small_rests (w * n + k) (omega (arith, c.requires.rests, row_within n w c.requires.w)))

pub returns-then-first-lt-GREATEST_REST-clause-lowered : goal.returns-then-first-lt-GREATEST_REST-clause-lowered
returns-then-first-lt-GREATEST_REST-clause-lowered c = λ j lt.
    let n = c.args.n in
    omega (arith, c.lower_rests.ensures.lowered j (omega (arith, c.requires.sums)), get_or-row c.args.rests.now (c.args.v * n) n j lt, get_or-row c.args.rests.now (c.args.w * n) n j lt)

pub returns-else-other-lt-GREATEST_REST-clause-lowered : goal.returns-else-other-lt-GREATEST_REST-clause-lowered
returns-else-other-lt-GREATEST_REST-clause-lowered c = λ j lt. omega (arith, c.requires.small j (omega (arith, c.requires.sums)))

pub lower_rests-requires-clause-small : goal.lower_rests-requires-clause-small
lower_rests-requires-clause-small c = grind (arith, common_steps)

pub returns-then-first-lt-GREATEST_REST-clause-small : goal.returns-then-first-lt-GREATEST_REST-clause-small
returns-then-first-lt-GREATEST_REST-clause-small c = grind (arith, common_steps)

pub lower_rests-requires-clause-first : goal.lower_rests-requires-clause-first
lower_rests-requires-clause-first c = grind (arith, common_steps)

pub lower_rests-requires-clause-other : goal.lower_rests-requires-clause-other
lower_rests-requires-clause-other c = grind (arith, common_steps)

pub returns-else-other-lt-GREATEST_REST-clause-small : goal.returns-else-other-lt-GREATEST_REST-clause-small
returns-else-other-lt-GREATEST_REST-clause-small c = grind (arith, common_steps)
