use Rattle.std.proofs.Common.{arith}
use Rattle.std.proofs.lemmas.Grind.{common_steps}
use Rattle.strip_boundary.proofs.PathLaws.{least_path}
use Rattle.strip_boundary.proofs.check.check_boundary.Goals as goal

pub returns-clause-least : goal.returns-clause-least
returns-clause-least c =
    rw (← c.as_slice-path.ensures)
    (least_path c.args.strip.now c.as_slice-sums.result.now c.as_slice-path.result.now
    c.in_default.ensures c.in_default-first_bad_sum.ensures
    (c.has_least_cost.ensures.0 c.if-not-has_least_cost.false))

pub returns-then-not-has_least_cost-clause-stands : goal.returns-then-not-has_least_cost-clause-stands
returns-then-not-has_least_cost-clause-stands c = grind (arith, common_steps)

pub returns-clause-stands : goal.returns-clause-stands
returns-clause-stands c = grind (arith, common_steps)

pub returns-then-not-has_least_cost-clause-broken : goal.returns-then-not-has_least_cost-clause-broken
returns-then-not-has_least_cost-clause-broken c = grind (arith, common_steps)

pub returns-in-Some-first_bad_sum-clause-stands : goal.returns-in-Some-first_bad_sum-clause-stands
returns-in-Some-first_bad_sum-clause-stands c = grind (arith, common_steps)

pub returns-in-Some-clause-stands : goal.returns-in-Some-clause-stands
returns-in-Some-clause-stands c = grind (arith, common_steps)

pub has_least_cost-requires-clause-sums : goal.has_least_cost-requires-clause-sums
has_least_cost-requires-clause-sums c = grind (arith, common_steps)

pub first_bad_sum-requires : goal.first_bad_sum-requires
first_bad_sum-requires c = grind (arith, common_steps)

pub returns-in-Some-first_bad_sum-clause-broken : goal.returns-in-Some-first_bad_sum-clause-broken
returns-in-Some-first_bad_sum-clause-broken c = grind (arith, common_steps)

pub returns-in-Some-clause-broken : goal.returns-in-Some-clause-broken
returns-in-Some-clause-broken c = grind (arith, common_steps)
