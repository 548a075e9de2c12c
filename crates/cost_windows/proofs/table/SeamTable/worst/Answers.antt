use Rattle.std.proofs.Common.{arith}
use Rattle.std.proofs.lemmas.Grind.{common_steps}
use Rattle.std.proofs.Common.{ap, ◌∙◌, subst}
use Rattle.cost_windows.specs.Tables.{IsSumTable, corners}
use Rattle.cost_windows.proofs.Worsts.{worst_found}
use Rattle.cost_windows.proofs.table.SeamTable.worst.Goals as goal

pub returns-clause-worst : goal.returns-clause-worst
returns-clause-worst c = λ d m right.
    (worst_found d m c.args.self.now c.as_slice-sums.result.now c.corners-corners.result c.greatest_by_rows-i.result c.place_at.result
    (subst IsSumTable c.self.view_is c.self.invariant.0) (c.as_slice-sums.ensures.value ∙ ap (λ t. t.sums) c.self.view_is)
    (c.corners-corners.ensures.corners ∙ (λ k. corners (c.self.view_is k).output (c.self.view_is k).window)) c.greatest_by_rows-i.ensures c.place_at.ensures right).0

pub returns-clause-cost : goal.returns-clause-cost
returns-clause-cost c = λ d m right.
    (worst_found d m c.args.self.now c.as_slice-sums.result.now c.corners-corners.result c.greatest_by_rows-i.result c.place_at.result
    (subst IsSumTable c.self.view_is c.self.invariant.0) (c.as_slice-sums.ensures.value ∙ ap (λ t. t.sums) c.self.view_is)
    (c.corners-corners.ensures.corners ∙ (λ k. corners (c.self.view_is k).output (c.self.view_is k).window)) c.greatest_by_rows-i.ensures c.place_at.ensures right).1

pub greatest_by_rows-i-requires-clause-sums : goal.greatest_by_rows-i-requires-clause-sums
greatest_by_rows-i-requires-clause-sums c = grind (arith, common_steps)

pub place_at-requires-clause-below : goal.place_at-requires-clause-below
place_at-requires-clause-below c = grind (arith, common_steps)

pub greatest_by_rows-i-requires-clause-tops : goal.greatest_by_rows-i-requires-clause-tops
greatest_by_rows-i-requires-clause-tops c = grind (arith, common_steps)
