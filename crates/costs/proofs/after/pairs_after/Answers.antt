use Rattle.std.proofs.Common.{arith}
use Rattle.costs.proofs.after.pairs_after.Goals as goal

pub returns-then-costs_nothing-3-clause-cost : goal.returns-then-costs_nothing-3-clause-cost
returns-then-costs_nothing-3-clause-cost c =
    omega (
      arith,
      c.costs_nothing.ensures c.if-costs_nothing.true,
      c.costs_nothing-then-costs_nothing.ensures c.if-costs_nothing-2.true,
      c.costs_nothing-then-costs_nothing-2.ensures c.if-costs_nothing-3.true,
    )
