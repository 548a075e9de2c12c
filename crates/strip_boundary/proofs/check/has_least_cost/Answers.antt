use Rattle.std.proofs.lemmas.Grind.{common_steps}
use Rattle.std.proofs.Common.{◌≡◌, ◌+◌, ◌-◌, slice_index, arith, ◌∙◌, sym}
use Rattle.std.proofs.lemmas.Bool.Decides.{Decides-eqb, Decides-like}
use Rattle.strip_boundary.specs.Boundaries.{boundary_cost}
use Rattle.strip_boundary.specs.Records.{IsLeastOfLastRow}
use Rattle.strip_boundary.specs.Tables.{IsFirstLeastWithin}
use Rattle.strip_boundary.proofs.SumLaws.{least_of_row, least_is_one}
use Rattle.strip_boundary.proofs.check.has_least_cost.Goals as goal

pub returns : goal.returns
returns c =
    let strip = c.args.strip.now in
    let cost : c.loop-row.cost ≡ boundary_cost strip c.args.path.now = grind (arith, common_steps) in
    let row = c.row_of-last.result.now in
    let is_last : c.rows.result - 1 + 1 ≡ strip.rows = omega (arith, c.rows.ensures.rows, c.rows.ensures.strip.some_rows) in
    let first : IsFirstLeastWithin (slice_index row) 0 strip.cols c.first_least.result = rw (← c.cols.ensures.cols) c.first_least.ensures in
    let least = λ (e : c.loop-row.cost ≡ slice_index row c.first_least.result).
    least_of_row strip c.args.sums.now row (c.rows.result - 1) c.first_least.result (boundary_cost strip c.args.path.now) is_last
    c.row_of-last.ensures.cells first (sym cost ∙ e) in
    let one = λ (h : IsLeastOfLastRow strip c.args.sums.now (boundary_cost strip c.args.path.now)).
    cost ∙ least_is_one strip c.args.sums.now row (c.rows.result - 1) c.first_least.result (boundary_cost strip c.args.path.now) is_last
    c.row_of-last.ensures.cells first h in
    Decides-like _ least one (Decides-eqb c.loop-row.cost (slice_index row c.first_least.result))

pub loop-row-preserved : goal.loop-row-preserved
loop-row-preserved c = grind (arith, common_steps)

pub error-cost-requires-clause-col : goal.error-cost-requires-clause-col
error-cost-requires-clause-col c = grind (arith, common_steps)

pub row_of-last-requires : goal.row_of-last-requires
row_of-last-requires c = grind (arith, common_steps)
