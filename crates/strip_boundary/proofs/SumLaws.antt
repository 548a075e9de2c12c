-- What holds of running sums.
use Rattle.std.proofs.Common.{◌≡◌, ◌⊎◌, inl, inr, ℕ, ◌+◌, ◌*◌, ◌<◌, ◌≤◌, List, [], ◌∷◌, ◌++◌, length, slice_index, arith, refl, sym, ◌∙◌, suc, zero, subst}
use Rattle.std.proofs.Math.Nat.{mul-le-mul_right}
use Rattle.std.proofs.lemmas.Bool.{cases_lt}
use Rattle.std.proofs.lemmas.List.{get_or_append_left, get_or_push, length_push}
use Rattle.strip_boundary.specs.Strips.{ErrorTable, IsStrip, at_cell, error_at}
use Rattle.strip_boundary.specs.Boundaries.{AreNear, IsBoundary, boundary_cost, cost_of_rows}
use Rattle.strip_boundary.specs.Records.{SumHolds, SumsHold, IsLeastOfLastRow, IsTightSum, IsTightAt}
use Rattle.strip_boundary.specs.Tables.{AreTightUpTo, IsFirstLeastWithin}

-- a cell of an earlier row comes before the row, and a cell of a row within it
pub cell_before_row : (cols above row col : ℕ) → above < row → col < cols → above * cols + col < row * cols
cell_before_row cols above row col earlier inside =
    let fits : suc above * cols ≤ row * cols = mul-le-mul_right cols (omega arith) in
    omega (arith, fits)

-- an error is at most the greatest one
pub error_bound : (strip : ErrorTable) (row col : ℕ) → IsStrip strip → row < strip.rows → col < strip.cols →
    error_at strip row col ≤ 195075
error_bound strip row col is_strip in_rows in_cols =
    let inside : row * strip.cols + col < length strip.errors
    = rw is_strip.error_per_cell (cell_before_row strip.cols row strip.rows col in_rows in_cols) in
    is_strip.greatest (row * strip.cols + col) 0 inside

-- a tight sum holds
pub holds_from_tight : (strip : ErrorTable) (sums : List ℕ) (row col : ℕ) → IsTightAt strip sums row col → SumHolds strip sums row col
holds_from_tight strip sums row col tight = record {
  first = tight.first;
  later = λ above near below inside beside.
      let reached = tight.later above below in
      let least : at_cell strip sums above reached.0 ≤ at_cell strip sums above near = reached.1.least near inside beside in
      omega (arith, reached.2, least);
}

-- tight sums stay small: each row adds at most the greatest error
pub tight_bound : (strip : ErrorTable) (sums : List ℕ) (rows : ℕ) → IsStrip strip → rows ≤ strip.rows →
    ((row col : ℕ) → row < rows → col < strip.cols → IsTightAt strip sums row col) →
    (row col : ℕ) → row < rows → col < strip.cols → at_cell strip sums row col ≤ suc row * 195075
tight_bound strip sums rows is_strip within tight zero col in_rows in_cols =
    let error : error_at strip zero col ≤ 195075 = error_bound strip zero col is_strip (omega arith) in_cols in
    let is_error : at_cell strip sums zero col ≡ error_at strip zero col = (tight zero col in_rows in_cols).first refl in
    omega (arith, error, is_error)
tight_bound strip sums rows is_strip within tight (suc row) col in_rows in_cols =
    let error : error_at strip (suc row) col ≤ 195075 = error_bound strip (suc row) col is_strip (omega arith) in_cols in
    let reached = (tight (suc row) col in_rows in_cols).later row (omega arith) in
    let above : at_cell strip sums row reached.0 ≤ suc row * 195075
    = tight_bound strip sums rows is_strip within tight row reached.0 (omega arith) reached.1.inside in
    omega (arith, error, above, reached.2)

-- a tight sum reads the row above alone
pub tight_like : (strip : ErrorTable) (sums others : List ℕ) (row col sum : ℕ) →
    ((above near : ℕ) → row ≡ above + 1 → near < strip.cols → at_cell strip others above near ≡ at_cell strip sums above near) →
    IsTightSum strip sums row col sum → IsTightSum strip others row col sum
tight_like strip sums others row col sum same tight = record {
  first = tight.first;
  later = λ above below.
      let reached = tight.later above below in
      let here : at_cell strip others above reached.0 ≡ at_cell strip sums above reached.0 = same above reached.0 below reached.1.inside in (
        reached.0,
        record {
          inside = reached.1.inside;
          beside = reached.1.beside;
          least = λ other inside beside.
              let there : at_cell strip others above other ≡ at_cell strip sums above other = same above other below inside in
              let less : at_cell strip sums above reached.0 ≤ at_cell strip sums above other = reached.1.least other inside beside in
              omega (arith, here, there, less);
        },
        omega (arith, here, reached.2),
      );
}

-- one more sum leaves the sums before it
kept : (strip : ErrorTable) (sums : List ℕ) (sum row col : ℕ) → row * strip.cols + col < length sums →
    at_cell strip (sums ++ sum ∷ []) row col ≡ at_cell strip sums row col
kept strip sums sum row col before = get_or_append_left sums (sum ∷ []) 0 (row * strip.cols + col) before

kept_tight : (strip : ErrorTable) (sums : List ℕ) (sum row col : ℕ) → row * strip.cols + col < length sums →
    IsTightAt strip sums row col → IsTightAt strip (sums ++ sum ∷ []) row col
kept_tight strip sums sum row col before tight =
    let P : ℕ → Type 0 = λ n. IsTightSum strip (sums ++ sum ∷ []) row col n in
    subst P (sym (kept strip sums sum row col before))
    (tight_like strip sums (sums ++ sum ∷ []) row col (at_cell strip sums row col)
    (λ above near below inside.
    let earlier : above * strip.cols + near < row * strip.cols
    = cell_before_row strip.cols above row near (omega arith) inside in
    kept strip sums sum above near (omega arith))
    tight)

-- the tight sum of the next cell, added at the end
pub more_tight : (strip : ErrorTable) (sums : List ℕ) (row col sum : ℕ) → AreTightUpTo strip sums row col →
    IsTightSum strip sums row col sum → AreTightUpTo strip (sums ++ sum ∷ []) row (col + 1)
more_tight strip sums row col sum tight next =
    let many : length sums ≡ row * strip.cols + col = tight.sum_per_cell in
    record {
      sum_per_cell = length_push sums sum ∙ omega (arith, many);
      rows_above = λ r c in_rows in_cols.
          let earlier : r * strip.cols + c < row * strip.cols = cell_before_row strip.cols r row c in_rows in_cols in
          kept_tight strip sums sum r c (omega arith) (tight.rows_above r c in_rows in_cols);
      cols_before = λ c below. more_of_row c (cases_lt c col) below;
    }
  where
    at_end : at_cell strip (sums ++ sum ∷ []) row col ≡ sum
    at_end = get_or_push sums sum 0 (row * strip.cols + col) tight.sum_per_cell

    last_is_tight : IsTightAt strip (sums ++ sum ∷ []) row col
    last_is_tight =
        let P : ℕ → Type 0 = λ n. IsTightSum strip (sums ++ sum ∷ []) row col n in
        let many : length sums ≡ row * strip.cols + col = tight.sum_per_cell in
        subst P (sym at_end)
        (tight_like strip sums (sums ++ sum ∷ []) row col sum
        (λ above near below inside.
        let earlier : above * strip.cols + near < row * strip.cols
        = cell_before_row strip.cols above row near (omega arith) inside in
        kept strip sums sum above near (omega arith))
        next)

    more_of_row : (c : ℕ) → (c < col) ⊎ (col ≤ c) → c < col + 1 → IsTightAt strip (sums ++ sum ∷ []) row c
    more_of_row c (inl before) below =
        let many : length sums ≡ row * strip.cols + col = tight.sum_per_cell in
        kept_tight strip sums sum row c (omega arith) (tight.cols_before c before)
    more_of_row c (inr after) below =
        let P : ℕ → Type 0 = λ n. IsTightAt strip (sums ++ sum ∷ []) row n in
        let same : col ≡ c = omega arith in
        subst P same last_is_tight

-- a whole row of tight sums is one more row
pub row_is_tight : (strip : ErrorTable) (sums : List ℕ) (row : ℕ) → AreTightUpTo strip sums row strip.cols →
    AreTightUpTo strip sums (row + 1) 0
row_is_tight strip sums row tight = record {
  sum_per_cell = let many : length sums ≡ row * strip.cols + strip.cols = tight.sum_per_cell in omega (arith, many);
  rows_above = λ r c in_rows in_cols. one_more r c (cases_lt r row) in_rows in_cols;
  cols_before = λ c below. absurd (omega arith);
}
  where
    one_more : (r c : ℕ) → (r < row) ⊎ (row ≤ r) → r < row + 1 → c < strip.cols → IsTightAt strip sums r c
    one_more r c (inl before) in_rows in_cols = tight.rows_above r c before in_cols
    one_more r c (inr after) in_rows in_cols =
        let P : ℕ → Type 0 = λ n. IsTightAt strip sums n c in
        let same : row ≡ r = omega arith in
        subst P same (tight.cols_before c in_cols)

-- where the sums hold, no boundary is cheaper down to a row than the sum at its column there
pub sum_below_cost : (strip : ErrorTable) (sums other : List ℕ) → SumsHold strip sums → IsBoundary strip other →
    (row : ℕ) → row < strip.rows → at_cell strip sums row (slice_index other row) ≤ cost_of_rows strip other (suc row)
sum_below_cost strip sums other holds path zero inside =
    let cell = holds zero (slice_index other zero) inside (path.inside zero inside) in
    let is_error : at_cell strip sums zero (slice_index other zero) ≡ error_at strip zero (slice_index other zero) = cell.first refl in
    omega (arith, is_error)
sum_below_cost strip sums other holds path (suc row) inside =
    let above : row < strip.rows = omega arith in
    let same : row + 1 ≡ suc row = omega arith in
    let P : ℕ → Type 0 = λ n. AreNear (slice_index other row) (slice_index other n) in
    let near : AreNear (slice_index other row) (slice_index other (suc row)) = subst P same (path.connected row (omega arith)) in
    let step : at_cell strip sums (suc row) (slice_index other (suc row))
    ≤ error_at strip (suc row) (slice_index other (suc row)) + at_cell strip sums row (slice_index other row)
    = (holds (suc row) (slice_index other (suc row)) inside (path.inside (suc row) inside)).later
    row (slice_index other row) (omega arith) (path.inside row above) near in
    let rest : at_cell strip sums row (slice_index other row) ≤ cost_of_rows strip other (suc row)
    = sum_below_cost strip sums other holds path row above in
    omega (arith, step, rest)

-- a path whose cost is the least sum of the last row is least, where the sums hold
pub least_from_sums : (strip : ErrorTable) (sums path other : List ℕ) → SumsHold strip sums →
    IsLeastOfLastRow strip sums (boundary_cost strip path) → IsBoundary strip other →
    (rows : ℕ) → strip.rows ≡ rows → boundary_cost strip path ≤ cost_of_rows strip other rows
least_from_sums strip sums path other holds cost boundary zero is = rw is (omega arith)
least_from_sums strip sums path other holds cost boundary (suc last) is =
    let inside : last < strip.rows = omega arith in
    let below : boundary_cost strip path ≤ at_cell strip sums last (slice_index other last)
    = cost.below last (slice_index other last) (omega arith) (boundary.inside last inside) in
    let rest : at_cell strip sums last (slice_index other last) ≤ cost_of_rows strip other (suc last)
    = sum_below_cost strip sums other holds boundary last inside in
    omega (arith, below, rest)

-- the least number of the last row, found in the row itself
pub least_of_row : (strip : ErrorTable) (sums row : List ℕ) (last col cost : ℕ) → last + 1 ≡ strip.rows →
    ((c : ℕ) → c < strip.cols → slice_index row c ≡ at_cell strip sums last c) →
    IsFirstLeastWithin (slice_index row) 0 strip.cols col →
    cost ≡ slice_index row col → IsLeastOfLastRow strip sums cost
least_of_row strip sums row last col cost is_last cells least is = record {
  reached = λ r r_is_last.
      let P : ℕ → Type 0 = λ n. (c : ℕ) × (c < strip.cols) × (at_cell strip sums n c ≡ cost) in
      let same : last ≡ r = omega arith in
      subst P same (col, least.below, sym (is ∙ cells col least.below));
  below = λ r c r_is_last inside.
      let P : ℕ → Type 0 = λ n. cost ≤ at_cell strip sums n c in
      let same : last ≡ r = omega arith in
      let less : slice_index row col ≤ slice_index row c = least.least c (omega arith) inside in
      let cell : slice_index row c ≡ at_cell strip sums last c = cells c inside in
      subst P same (omega (arith, less, cell, is));
}

-- and no other number is the least one
pub least_is_one : (strip : ErrorTable) (sums row : List ℕ) (last col cost : ℕ) → last + 1 ≡ strip.rows →
    ((c : ℕ) → c < strip.cols → slice_index row c ≡ at_cell strip sums last c) →
    IsFirstLeastWithin (slice_index row) 0 strip.cols col →
    IsLeastOfLastRow strip sums cost → cost ≡ slice_index row col
least_is_one strip sums row last col cost is_last cells least is =
    let at = is.reached last is_last in
    let here : slice_index row at.0 ≡ at_cell strip sums last at.0 = cells at.0 at.1 in
    let there : slice_index row col ≡ at_cell strip sums last col = cells col least.below in
    let less : slice_index row col ≤ slice_index row at.0 = least.least at.0 (omega arith) at.1 in
    let more : cost ≤ at_cell strip sums last col = is.below last col is_last least.below in
    omega (arith, here, there, less, more, at.2)
