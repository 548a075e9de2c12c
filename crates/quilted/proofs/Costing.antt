-- What a boundary costs, by its record.
use Rattle.std.proofs.Common.{◌≡◌, ℕ, zero, suc, ◌+◌, ◌-◌, ◌*◌, ◌/◌, ◌<◌, ◌≤◌, List, length, slice_index, ap, ◌∙◌, arith}
use Rattle.strip_boundary.specs.declared.boundary.BoundaryRecord.{BoundaryRecord}
use Rattle.strip_boundary.specs.Boundaries.{boundary_cost}
use Rattle.strip_boundary.specs.Records.{BoundaryStands}
use Rattle.strip_boundary.specs.Strips.{ErrorTable, at_cell}
use Rattle.block_check.proofs.Columns.{cols_are}
use Rattle.quilted.specs.Totals.{IsLeastAt}

-- one row less
row_less : (rows cols : ℕ) → 1 ≤ rows → rows * cols ≡ (rows - 1) * cols + cols
row_less zero cols some = absurd (omega (arith, some))
row_less (suc r) cols some = let e : suc r - 1 ≡ r = omega arith in rw e (omega arith)

-- the numbers of the last strip row, by the sums and how many strip rows there are
module _ (strip : ErrorTable) (boundary : BoundaryRecord) (rows : ℕ) (some : 1 ≤ rows) (rows_are : strip.rows ≡ rows) (stands : BoundaryStands strip boundary) where
  whole : length boundary.sums ≡ rows * strip.cols
  whole = stands.sum_per_cell ∙ ap (λ n. n * strip.cols) rows_are

  cols_of_row : length boundary.sums / rows ≡ strip.cols
  cols_of_row = ap (λ n. n / rows) whole ∙ cols_are rows strip.cols some

  start_of_row : length boundary.sums - length boundary.sums / rows ≡ (rows - 1) * strip.cols
  start_of_row = omega (arith, whole, cols_of_row, row_less rows strip.cols some)

  -- the least of them is the cost
  pub least_is_cost : (row : List ℕ) (place : ℕ) → length row ≡ length boundary.sums / rows
      → ((i : ℕ) → i < length boundary.sums / rows → slice_index row i ≡ slice_index boundary.sums (length boundary.sums - length boundary.sums / rows + i))
      → IsLeastAt row (length row) place → slice_index row place ≡ boundary_cost strip boundary.path
  least_is_cost row place count cells is =
      let last = rows - 1 in
      let is_last : last + 1 ≡ strip.rows = omega (arith, rows_are, some) in
      let long : length row ≡ strip.cols = count ∙ cols_of_row in
      let cell : (i : ℕ) → i < length row → slice_index row i ≡ at_cell strip boundary.sums last i =
      λ i lt. cells i (omega (arith, lt, count)) ∙ ap (λ start. slice_index boundary.sums (start + i)) start_of_row in
      let reached = stands.cost.reached last is_last in
      let there : reached.0 < length row = omega (arith, long, reached.1) in
      let low : slice_index row place ≤ slice_index row reached.0 = is.least reached.0 there in
      let high : boundary_cost strip boundary.path ≤ at_cell strip boundary.sums last place = stands.cost.below last place is_last (omega (arith, long, is.below)) in
      omega (arith, low, high, cell reached.0 there, cell place is.below, reached.2)
