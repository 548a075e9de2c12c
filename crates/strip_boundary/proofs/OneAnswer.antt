-- There is one first least boundary, and one table of tight sums.
use Rattle.std.proofs.Common.{◌≡◌, inl, inr, ℕ, ◌+◌, ◌*◌, ◌/◌, ◌%◌, ◌<◌, ◌≤◌, List, length, slice_index, arith, refl, sym, ◌∙◌, suc, zero, subst}
use Rattle.std.proofs.lemmas.Bool.{cases_lt}
use Rattle.std.proofs.lemmas.List.{ext_get_or}
use Rattle.std.proofs.Math.Nat.{mul-le-mul_right}
use Rattle.strip_boundary.specs.Strips.{ErrorTable, at_cell}
use Rattle.strip_boundary.specs.Boundaries.{IsFirstLeast, ComesNoLater}
use Rattle.strip_boundary.specs.Records.{AreTightSums}

-- of two paths neither of which comes later, the columns are the same
same_columns : (path other : List ℕ) (rows : ℕ) → ComesNoLater path other rows → ComesNoLater other path rows →
    (row : ℕ) → row < rows → slice_index path row ≡ slice_index other row
same_columns path other zero no_later no_sooner row inside = absurd (omega arith)
same_columns path other (suc last) (inl less) (inl more) row inside = absurd (omega arith)
same_columns path other (suc last) (inl less) (inr more) row inside = absurd (omega (arith, more.0))
same_columns path other (suc last) (inr less) (inl more) row inside = absurd (omega (arith, less.0))
same_columns path other (suc last) (inr less) (inr more) row inside =
    elim (cases_lt row last) [
      | inl above ↦ same_columns path other last less.1 more.1 row above
      | inr here ↦
          let same : last ≡ row = omega arith in
          let P : ℕ → Type 0 = λ n. slice_index path n ≡ slice_index other n in
          subst P same less.0
    ]

pub one_first_least : (strip : ErrorTable) (path other : List ℕ) → IsFirstLeast strip path → IsFirstLeast strip other → path ≡ other
one_first_least strip path other first second =
    let long : length path ≡ strip.rows = first.least.boundary.column_per_row in
    let long_too : length other ≡ strip.rows = second.least.boundary.column_per_row in
    ext_get_or 0 path other (long ∙ sym long_too)
    (λ row inside. same_columns path other strip.rows (first.first other second.least) (second.first path first.least)
    row (omega (arith, long, inside)))

-- two tables of tight sums have the same rows
same_sums : (strip : ErrorTable) (sums other : List ℕ) → AreTightSums strip sums → AreTightSums strip other →
    (row : ℕ) → row < strip.rows → (col : ℕ) → col < strip.cols → at_cell strip sums row col ≡ at_cell strip other row col
same_sums strip sums other tight too zero in_rows col in_cols =
    (tight.tight zero col in_rows in_cols).first refl ∙ sym ((too.tight zero col in_rows in_cols).first refl)
same_sums strip sums other tight too (suc row) in_rows col in_cols =
    let one = (tight.tight (suc row) col in_rows in_cols).later row (omega arith) in
    let two = (too.tight (suc row) col in_rows in_cols).later row (omega arith) in
    let less : at_cell strip sums row one.0 ≤ at_cell strip sums row two.0 = one.1.least two.0 two.1.inside two.1.beside in
    let more : at_cell strip other row two.0 ≤ at_cell strip other row one.0 = two.1.least one.0 one.1.inside one.1.beside in
    let same_at_one : at_cell strip sums row one.0 ≡ at_cell strip other row one.0
    = same_sums strip sums other tight too row (omega arith) one.0 one.1.inside in
    let same_at_two : at_cell strip sums row two.0 ≡ at_cell strip other row two.0
    = same_sums strip sums other tight too row (omega arith) two.0 two.1.inside in
    omega (arith, one.2, two.2, less, more, same_at_one, same_at_two)

-- an index of a table is a row and a column
same_index : (cols rows : ℕ) (sums other : List ℕ) →
    ((row : ℕ) → row < rows → (col : ℕ) → col < cols → slice_index sums (row * cols + col) ≡ slice_index other (row * cols + col)) →
    (index : ℕ) → index < rows * cols → slice_index sums index ≡ slice_index other index
same_index zero rows sums other same index inside = absurd (omega arith)
same_index (suc less) rows sums other same index inside =
    let split : index / suc less * suc less + index % suc less ≡ index = omega arith in
    let in_cols : index % suc less < suc less = omega arith in
    let in_rows : index / suc less < rows
    = elim (cases_lt (index / suc less) rows) [
      | inl fits ↦ fits
      | inr past ↦
          let more : rows * suc less ≤ index / suc less * suc less = mul-le-mul_right (suc less) past in
          absurd (omega (arith, more, split, inside))
    ] in
    let P : ℕ → Type 0 = λ n. slice_index sums n ≡ slice_index other n in
    subst P split (same (index / suc less) in_rows (index % suc less) in_cols)

pub one_tight : (strip : ErrorTable) (sums other : List ℕ) → AreTightSums strip sums → AreTightSums strip other → sums ≡ other
one_tight strip sums other tight too =
    let long : length sums ≡ strip.rows * strip.cols = tight.sum_per_cell in
    let long_too : length other ≡ strip.rows * strip.cols = too.sum_per_cell in
    ext_get_or 0 sums other (long ∙ sym long_too)
    (λ index inside. same_index strip.cols strip.rows sums other (same_sums strip sums other tight too)
    index (rw (← long) inside))
