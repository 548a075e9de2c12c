use Rattle.std.proofs.lemmas.Grind.{common_steps}
use Rattle.std.proofs.Common.{◌≡◌, ℕ, List, ◌+◌, ◌*◌, ◌≤◌, ◌∙◌, get_or, arith}
use Rattle.limits.specs.declared.bounds.TheConstants.{GREATEST_AXIS}
use Rattle.boxes.specs.Sums.{sum_to}
use Rattle.cost_windows.proofs.Runs.{run_at_most}
use Rattle.cost_windows.proofs.slide.sum_boxes.Goals as goal

-- runs along one axis, and along two
once : (len b : ℕ) (old sums : List ℕ) (step : ℕ) → len ≤ GREATEST_AXIS → ((j : ℕ) → get_or sums j 0 ≡ sum_to len (λ t. get_or old (j + step * t) 0))
    → ((j : ℕ) → get_or old j 0 ≤ b) → (j : ℕ) → get_or sums j 0 ≤ len * b
once len b old sums step le is small j = omega (arith, is j, run_at_most old step len b j small)

first : (len : ℕ) (old sums : List ℕ) (step : ℕ) → len ≤ GREATEST_AXIS → ((j : ℕ) → get_or sums j 0 ≡ sum_to len (λ t. get_or old (j + step * t) 0))
    → ((j : ℕ) → get_or old j 0 ≤ 3060) → (j : ℕ) → get_or sums j 0 ≤ 12533760
first len old sums step le is small j = omega (arith, once len 3060 old sums step le is small j)

second : (len : ℕ) (old sums : List ℕ) (step : ℕ) → len ≤ GREATEST_AXIS → ((j : ℕ) → get_or sums j 0 ≡ sum_to len (λ t. get_or old (j + step * t) 0))
    → ((j : ℕ) → get_or old j 0 ≤ 12533760) → (j : ℕ) → get_or sums j 0 ≤ 68719476736
second len old sums step le is small j = omega (arith, once len 12533760 old sums step le is small j)

third : (len : ℕ) (old sums : List ℕ) (step : ℕ) → len ≤ GREATEST_AXIS → ((j : ℕ) → get_or sums j 0 ≡ sum_to len (λ t. get_or old (j + step * t) 0))
    → ((j : ℕ) → get_or old j 0 ≤ 68719476736) → (j : ℕ) → get_or sums j 0 ≤ 281474976710656
third len old sums step le is small j = omega (arith, once len 68719476736 old sums step le is small j)

pub sum_runs-requires-2-clause-small : goal.sum_runs-requires-2-clause-small
sum_runs-requires-2-clause-small c = λ j. omega (arith, first c.args.lens.w c.args.buffer.now c.sum_runs.new.buffer 1 c.requires.lens.w c.sum_runs.ensures c.requires.small j)

pub sum_runs-requires-3-clause-small : goal.sum_runs-requires-3-clause-small
sum_runs-requires-3-clause-small c =
    second c.args.lens.h c.sum_runs.new.buffer c.sum_runs-2.new.buffer c.args.size.w c.requires.lens.h c.sum_runs-2.ensures
    (first c.args.lens.w c.args.buffer.now c.sum_runs.new.buffer 1 c.requires.lens.w c.sum_runs.ensures c.requires.small)

pub returns-clause-sums : goal.returns-clause-sums
returns-clause-sums c = λ j.
    let size = c.args.size in
    let lens = c.args.lens in
    c.sum_runs-3.ensures j
    ∙ (λ i. sum_to lens.f (λ f. c.sum_runs-2.ensures (j + size.w * size.h * f) i))
    ∙ (λ i. sum_to lens.f (λ f. sum_to lens.h (λ y. c.sum_runs.ensures (j + size.w * size.h * f + size.w * y) i)))

pub returns-clause-small : goal.returns-clause-small
returns-clause-small c =
    third c.args.lens.f c.sum_runs-2.new.buffer c.sum_runs-3.new.buffer (c.args.size.w * c.args.size.h) c.requires.lens.f c.sum_runs-3.ensures
    (second c.args.lens.h c.sum_runs.new.buffer c.sum_runs-2.new.buffer c.args.size.w c.requires.lens.h c.sum_runs-2.ensures
    (first c.args.lens.w c.args.buffer.now c.sum_runs.new.buffer 1 c.requires.lens.w c.sum_runs.ensures c.requires.small))

pub sum_runs-requires-3-clause-step_small : goal.sum_runs-requires-3-clause-step_small
sum_runs-requires-3-clause-step_small c = grind (arith, common_steps)

pub sum_runs-requires-3-clause-step : goal.sum_runs-requires-3-clause-step
sum_runs-requires-3-clause-step c = grind (arith, common_steps)

pub overflow_mul-w : goal.overflow_mul-w
overflow_mul-w c = grind (arith, common_steps)

pub sum_runs-requires-clause-small : goal.sum_runs-requires-clause-small
sum_runs-requires-clause-small c = grind (arith, common_steps)
