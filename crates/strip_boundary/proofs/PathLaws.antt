-- What holds of the path that goes back through tight sums.
use Rattle.std.proofs.Common.{◌≡◌, ℕ, ◌+◌, ◌<◌, ◌≤◌, inl, inr, List, slice_index, arith, refl, suc, zero, subst}
use Rattle.std.proofs.lemmas.Bool.{cases_lt}
use Rattle.strip_boundary.specs.Strips.{ErrorTable, at_cell, error_at}
use Rattle.strip_boundary.specs.Boundaries.{AreNear, IsBoundary, IsLeastBoundary, IsFirstLeast, ComesNoLater, boundary_cost, cost_of_rows}
use Rattle.strip_boundary.specs.Records.{SumsHold, IsLeastOfLastRow, AreTightSums, BoundaryStands}
use Rattle.strip_boundary.specs.Tables.{IsTracedFrom, IsFirstLeastNear}
use Rattle.strip_boundary.specs.declared.boundary.BoundaryRecord.{BoundaryRecord}
use Rattle.strip_boundary.proofs.SumLaws.{holds_from_tight, sum_below_cost, least_from_sums}

-- the sums of a tight table hold
pub hold_from_tight : (strip : ErrorTable) (sums : List ℕ) → AreTightSums strip sums → SumsHold strip sums
hold_from_tight strip sums tight row col in_rows in_cols = holds_from_tight strip sums row col (tight.tight row col in_rows in_cols)

-- a traced path stays within the strip
pub traced_inside : (strip : ErrorTable) (sums path : List ℕ) → IsTracedFrom strip sums path 0 →
    (row : ℕ) → row < strip.rows → slice_index path row < strip.cols
traced_inside strip sums path traced row below =
    elim (cases_lt (row + 1) strip.rows) [
      | inl inner ↦ (traced.back row inner (omega arith)).least.inside
      | inr last ↦ (traced.last row (omega arith) (omega arith)).below
    ]

-- a path that goes back through the sums is a boundary
pub boundary_from_traced : (strip : ErrorTable) (sums path : List ℕ) → IsTracedFrom strip sums path 0 → IsBoundary strip path
boundary_from_traced strip sums path traced = record {
  column_per_row = traced.column_per_row;
  inside = traced_inside strip sums path traced;
  connected = λ row below. (traced.back row below (omega arith)).least.beside;
}

-- the column above, as going back gives it, at a row that is one more
back_from : (strip : ErrorTable) (sums path : List ℕ) → IsTracedFrom strip sums path 0 → (row : ℕ) → suc row < strip.rows →
    IsFirstLeastNear (at_cell strip sums row) strip.cols (slice_index path (suc row)) (slice_index path row)
back_from strip sums path traced row below =
    let P : ℕ → Type 0 = λ n. IsFirstLeastNear (at_cell strip sums row) strip.cols (slice_index path n) (slice_index path row) in
    let same : row + 1 ≡ suc row = omega arith in
    subst P same (traced.back row (omega arith) (omega arith))

-- down to each row a traced path costs the sum at its column there
pub traced_cost : (strip : ErrorTable) (sums path : List ℕ) → AreTightSums strip sums → IsTracedFrom strip sums path 0 →
    (row : ℕ) → row < strip.rows → at_cell strip sums row (slice_index path row) ≡ cost_of_rows strip path (suc row)
traced_cost strip sums path tight traced zero inside =
    let is_error : at_cell strip sums zero (slice_index path zero) ≡ error_at strip zero (slice_index path zero)
    = (tight.tight zero (slice_index path zero) inside (traced_inside strip sums path traced zero inside)).first refl in
    omega (arith, is_error)
traced_cost strip sums path tight traced (suc row) inside =
    let from_above = (tight.tight (suc row) (slice_index path (suc row)) inside (traced_inside strip sums path traced (suc row) inside)).later row (omega arith) in
    let back = (back_from strip sums path traced row inside).least in
    let less : at_cell strip sums row (slice_index path row) ≤ at_cell strip sums row from_above.0 = back.least from_above.0 from_above.1.inside from_above.1.beside in
    let more : at_cell strip sums row from_above.0 ≤ at_cell strip sums row (slice_index path row)
    = from_above.1.least (slice_index path row) back.inside back.beside in
    let rest : at_cell strip sums row (slice_index path row) ≡ cost_of_rows strip path (suc row)
    = traced_cost strip sums path tight traced row (omega arith) in
    omega (arith, from_above.2, less, more, rest)

-- so its whole cost is the least sum of the last row
pub traced_cost_is_least : (strip : ErrorTable) (sums path : List ℕ) → AreTightSums strip sums → IsTracedFrom strip sums path 0 →
    (rows : ℕ) → strip.rows ≡ rows → IsLeastOfLastRow strip sums (cost_of_rows strip path rows)
traced_cost_is_least strip sums path tight traced zero is = record {
  reached = λ row last. absurd (omega arith);
  below = λ row col last inside. absurd (omega arith);
}
traced_cost_is_least strip sums path tight traced (suc last) is = record {
  reached = λ row is_last.
      let P : ℕ → Type 0 = λ n. (col : ℕ) × (col < strip.cols) × (at_cell strip sums n col ≡ cost_of_rows strip path (suc last)) in
      let same : last ≡ row = omega arith in
      subst P same (
        slice_index path last,
        traced_inside strip sums path traced last (omega arith),
        traced_cost strip sums path tight traced last (omega arith),
      );
  below = λ row col is_last inside.
      let P : ℕ → Type 0 = λ n. cost_of_rows strip path (suc last) ≤ at_cell strip sums n col in
      let same : last ≡ row = omega arith in
      let is_cost : at_cell strip sums last (slice_index path last) ≡ cost_of_rows strip path (suc last)
      = traced_cost strip sums path tight traced last (omega arith) in
      let least : at_cell strip sums last (slice_index path last) ≤ at_cell strip sums last col
      = (traced.last last (omega arith) (omega arith)).least col (omega arith) inside in
      subst P same (omega (arith, is_cost, least));
}

-- a path that is traced through tight sums makes a record that stands
pub stands_from_traced : (strip : ErrorTable) (boundary : BoundaryRecord) → AreTightSums strip boundary.sums →
    IsTracedFrom strip boundary.sums boundary.path 0 → BoundaryStands strip boundary
stands_from_traced strip boundary tight traced = record {
  path = boundary_from_traced strip boundary.sums boundary.path traced;
  sum_per_cell = tight.sum_per_cell;
  sums = hold_from_tight strip boundary.sums tight;
  cost = traced_cost_is_least strip boundary.sums boundary.path tight traced strip.rows refl;
}

-- a boundary whose cost is the least sum of the last row is least, where the sums hold
pub least_path : (strip : ErrorTable) (sums path : List ℕ) → IsBoundary strip path → SumsHold strip sums →
    IsLeastOfLastRow strip sums (boundary_cost strip path) → IsLeastBoundary strip path
least_path strip sums path boundary holds cost = record {
  boundary = boundary;
  least = λ other is_boundary. least_from_sums strip sums path other holds cost is_boundary strip.rows refl;
}

-- Where another boundary costs no more down to a row than the sum there, and the traced path is not to
-- its right in that row, the traced path comes no later.
comes_no_later : (strip : ErrorTable) (sums path other : List ℕ) → AreTightSums strip sums → IsTracedFrom strip sums path 0 →
    IsBoundary strip other → (row : ℕ) → row < strip.rows → slice_index path row ≤ slice_index other row →
    cost_of_rows strip other (suc row) ≤ at_cell strip sums row (slice_index other row) →
    ComesNoLater path other (suc row)
comes_no_later strip sums path other tight traced boundary zero inside before reached =
    elim (cases_lt (slice_index path zero) (slice_index other zero)) [
      | inl less ↦ inl less
      | inr not_less ↦ inr (omega arith, tt)
    ]
comes_no_later strip sums path other tight traced boundary (suc row) inside before reached =
    elim (cases_lt (slice_index path (suc row)) (slice_index other (suc row))) [
      | inl less ↦ inl less
      | inr not_less ↦
          let same : slice_index path (suc row) ≡ slice_index other (suc row) = omega arith in
          let above : row < strip.rows = omega arith in
          let from_above = (tight.tight (suc row) (slice_index other (suc row)) inside (boundary.inside (suc row) inside)).later row (omega arith) in
          let back = back_from strip sums path traced row inside in
          let P : ℕ → Type 0 = λ n. AreNear (slice_index other row) (slice_index other n) in
          let next : row + 1 ≡ suc row = omega arith in
          let near : AreNear (slice_index other row) (slice_index other (suc row)) = subst P next (boundary.connected row (omega arith)) in
          let beside : AreNear (slice_index path row) (slice_index path (suc row)) = back.least.beside in
          let less : at_cell strip sums row from_above.0 ≤ at_cell strip sums row (slice_index other row)
          = from_above.1.least (slice_index other row) (boundary.inside row above) near in
          let less_too : at_cell strip sums row from_above.0 ≤ at_cell strip sums row (slice_index path row)
          = from_above.1.least (slice_index path row) back.least.inside (omega (arith, beside, same)) in
          let below : at_cell strip sums row (slice_index other row) ≤ cost_of_rows strip other (suc row)
          = sum_below_cost strip sums other (hold_from_tight strip sums tight) boundary row above in
          let reached_above : cost_of_rows strip other (suc row) ≤ at_cell strip sums row (slice_index other row)
          = omega (arith, reached, from_above.2, less) in
          let not_right : slice_index path row ≤ slice_index other row
          = elim (cases_lt (slice_index other row) (slice_index path row)) [
            | inl right ↦
                let smaller : at_cell strip sums row (slice_index path row) < at_cell strip sums row (slice_index other row)
                = back.first (slice_index other row) (omega (arith, near, same)) right in
                absurd (omega (arith, smaller, less_too, below, reached, from_above.2))
            | inr left ↦ left
          ] in
          inr (same, comes_no_later strip sums path other tight traced boundary row above not_right reached_above)
    ]

-- so a traced path comes no later than any other least boundary
no_least_before : (strip : ErrorTable) (sums path other : List ℕ) → AreTightSums strip sums → IsTracedFrom strip sums path 0 →
    IsLeastBoundary strip other → (rows : ℕ) → strip.rows ≡ rows → ComesNoLater path other rows
no_least_before strip sums path other tight traced least zero is = tt
no_least_before strip sums path other tight traced least (suc last) is =
    let boundary : IsBoundary strip path = boundary_from_traced strip sums path traced in
    let inside : last < strip.rows = omega arith in
    let no_more : cost_of_rows strip other strip.rows ≤ cost_of_rows strip path strip.rows = least.least path boundary in
    let no_more_here : cost_of_rows strip other (suc last) ≤ cost_of_rows strip path (suc last)
    = let P : ℕ → Type 0 = λ n. cost_of_rows strip other n ≤ cost_of_rows strip path n in subst P is no_more in
    let cost : at_cell strip sums last (slice_index path last) ≡ cost_of_rows strip path (suc last)
    = traced_cost strip sums path tight traced last inside in
    let below : at_cell strip sums last (slice_index other last) ≤ cost_of_rows strip other (suc last)
    = sum_below_cost strip sums other (hold_from_tight strip sums tight) least.boundary last inside in
    let first = traced.last last (omega arith) (omega arith) in
    let less : at_cell strip sums last (slice_index path last) ≤ at_cell strip sums last (slice_index other last)
    = first.least (slice_index other last) (omega arith) (least.boundary.inside last inside) in
    let not_right : slice_index path last ≤ slice_index other last
    = elim (cases_lt (slice_index other last) (slice_index path last)) [
      | inl right ↦
          let smaller : at_cell strip sums last (slice_index path last) < at_cell strip sums last (slice_index other last)
          = first.first (slice_index other last) (omega arith) right in
          absurd (omega (arith, smaller, below, no_more_here, cost))
      | inr left ↦ left
    ] in
    comes_no_later strip sums path other tight traced least.boundary last inside not_right (omega (arith, no_more_here, cost, less))

-- a path that is traced through tight sums is the first least boundary
pub first_least_from_traced : (strip : ErrorTable) (sums path : List ℕ) → AreTightSums strip sums → IsTracedFrom strip sums path 0 →
    IsFirstLeast strip path
first_least_from_traced strip sums path tight traced = record {
  least = least_path strip sums path (boundary_from_traced strip sums path traced) (hold_from_tight strip sums tight)
      (traced_cost_is_least strip sums path tight traced strip.rows refl);
  first = λ other least. no_least_before strip sums path other tight traced least strip.rows refl;
}
