use Rattle.std.proofs.Common.{◌≡◌, ℕ, ◌+◌, ◌-◌, ◌/◌, ◌<◌, List, length, slice_index, ap, ◌∙◌, subst}
use Rattle.quilted.proofs.Costing.{least_is_cost}
use Rattle.quilted.proofs.totals.cost_of.Goals as goal

pub returns : goal.returns
returns c = λ strip rows stands.
    let row = c.last_row-last.result.now in
    least_is_cost strip c.args.boundary.now c.args.rows c.requires.rows rows stands row c.least_at.result (c.last_row-last.ensures.count ∙ ap (λ sums. length sums / c.args.rows) c.as_slice-sums.ensures)
    (subst (λ (sums : List ℕ). (i : ℕ) → i < length sums / c.args.rows → slice_index row i ≡ slice_index sums (length sums - length sums / c.args.rows + i)) c.as_slice-sums.ensures c.last_row-last.ensures.cells) c.least_at.ensures
