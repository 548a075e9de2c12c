use Rattle.std.proofs.Common.{arith}
use Rattle.std.proofs.lemmas.Grind.{common_steps}
use Rattle.std.proofs.Common.{◌/◌, ◌≤◌, List, ℕ, length, sym, subst, rules}
use Rattle.std.specs.Prelude.{Some}
use Rattle.limits.specs.declared.bounds.TheConstants.{GREATEST_AXIS}
use Rattle.block_strips.specs.Strips.{strip_rows}
use Rattle.block_check.specs.Blocks.{HasColumnsOn}
use Rattle.block_check.specs.Steps.{AreColumnsOn}
use Rattle.block_check.proofs.Columns.{columns_fit, columns_on, some_cells}
use Rattle.block_check.proofs.check.cols_on.Goals as goal

pub overflow_cast-result : goal.overflow_cast-result
overflow_cast-result c =
    let side = c.args.side in
    let placement = c.args.placement.now in
    let fits = columns_fit side placement c.in-Some.boundary c.requires.small (subst (HasColumnsOn side placement) c.in-Some.is c.requires.formed) in
    let small : length c.as_slice.result.now / c.rows-rows.result ≤ GREATEST_AXIS =
    subst (λ (sums : List ℕ). length sums / c.rows-rows.result ≤ GREATEST_AXIS) (sym c.as_slice.ensures)
    (subst (λ n. length c.in-Some.boundary.sums / n ≤ GREATEST_AXIS) (sym c.rows-rows.ensures) fits) in
    search rules

pub returns-in-Some-clause-columns : goal.returns-in-Some-clause-columns
returns-in-Some-clause-columns c =
    let side = c.args.side in
    let placement = c.args.placement.now in
    let boundary = c.args.boundary.now in
    subst (λ (sums : List ℕ). AreColumnsOn side placement boundary (length sums / c.rows-rows.result)) (sym c.as_slice.ensures)
    (subst (λ n. AreColumnsOn side placement boundary (length c.in-Some.boundary.sums / n)) (sym c.rows-rows.ensures)
    (subst (λ b. AreColumnsOn side placement b (length c.in-Some.boundary.sums / strip_rows side placement.rect.size)) (sym c.in-Some.is)
    (columns_on side placement (Some c.in-Some.boundary) (some_cells placement.rect.size c.requires.small) (subst (HasColumnsOn side placement) c.in-Some.is c.requires.formed))))

pub nonzero_div-result : goal.nonzero_div-result
nonzero_div-result c = grind (arith, common_steps)
