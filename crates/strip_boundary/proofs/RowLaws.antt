-- Sums and paths by the rows of a table: each step of a loop as a law over plain numbers.
use Rattle.std.proofs.Common.{◌≡◌, ◌⊎◌, ℕ, ◌+◌, ◌-◌, ◌*◌, ◌<◌, ◌≤◌, inl, inr, List, [], length, set, slice_index, arith, sym, ◌∙◌, ap, subst}
use Rattle.std.proofs.Math.Nat.{mul-le-mul_right}
use Rattle.std.proofs.lemmas.Bool.{cases_lt}
use Rattle.std.proofs.lemmas.List.{get_or-set_other, get_or-set_same, length-set}
use Rattle.strip_boundary.specs.Strips.{ErrorTable, at_cell, error_at}
use Rattle.strip_boundary.specs.Records.{AreTightSums, IsLeastNear, IsTightSum, SumHolds}
use Rattle.strip_boundary.specs.Tables.{AreTightUpTo, IsFirstLeastNear, IsFirstLeastWithin, IsTracedFrom}

-- a table with a number per cell has all of each row
pub row_fits : (rows cols cells row : ℕ) → row < rows → cells ≡ rows * cols → (row + 1) * cols ≤ cells
row_fits rows cols cells row inside same =
    let fits : (row + 1) * cols ≤ rows * cols = mul-le-mul_right cols (omega arith) in
    omega (arith, fits)

-- what is least in one row of a table
module _ (strip : ErrorTable) (sums row : List ℕ) (r : ℕ) (len : length row ≡ strip.cols)
    (cells : (col : ℕ) → col < strip.cols → slice_index row col ≡ at_cell strip sums r col) where
  pub least_within : (cols least : ℕ) → cols ≡ strip.cols → IsFirstLeastWithin (slice_index row) 0 cols least → IsFirstLeastWithin (at_cell strip sums r) 0 strip.cols least
  least_within cols least all found =
      let inside : least < strip.cols = omega (arith, found.below) in
      let here : slice_index row least ≡ at_cell strip sums r least = cells least inside in
      record {
        from = found.from;
        below = inside;
        least = λ other from below.
            let there : slice_index row other ≡ at_cell strip sums r other = cells other below in
            let less : slice_index row least ≤ slice_index row other = found.least other from (omega arith) in
            omega (arith, here, there, less);
        first = λ other from before.
            let there : slice_index row other ≡ at_cell strip sums r other = cells other (omega arith) in
            let less : slice_index row least < slice_index row other = found.first other from before in
            omega (arith, here, there, less);
      }

  pub least_near : (col near : ℕ) → IsFirstLeastNear (slice_index row) (length row) col near → IsFirstLeastNear (at_cell strip sums r) strip.cols col near
  least_near col near found =
      let inside : near < strip.cols = omega (arith, found.least.inside) in
      let here : slice_index row near ≡ at_cell strip sums r near = cells near inside in
      record {
        least = record {
          inside = inside;
          beside = found.least.beside;
          least = λ other below beside.
              let there : slice_index row other ≡ at_cell strip sums r other = cells other below in
              let less : slice_index row near ≤ slice_index row other = found.least.least other (omega arith) beside in
              omega (arith, here, there, less);
        };
        first = λ other beside before.
            let there : slice_index row other ≡ at_cell strip sums r other = cells other (omega arith) in
            let less : slice_index row near < slice_index row other = found.first other beside before in
            omega (arith, here, there, less);
      }

-- the sum of a cell is its error in the first row
module _ (strip : ErrorTable) (sums : List ℕ) (row col error : ℕ) (first : row ≡ 0) (is : error ≡ error_at strip row col) where
  pub first_is_tight : IsTightSum strip sums row col error
  first_is_tight = record { first = λ zero. is; later = λ above below. absurd (omega arith) }

  pub first_holds : (sum : ℕ) → sum ≡ at_cell strip sums row col → sum ≡ error → SumHolds strip sums row col
  first_holds sum cell same = record { first = λ zero. sym cell ∙ same ∙ is; later = λ above near below inside beside. absurd (omega arith) }

  pub first_held : (sum : ℕ) → sum ≡ at_cell strip sums row col → SumHolds strip sums row col → sum ≡ error
  first_held sum cell holds = cell ∙ holds.first first ∙ sym is

-- and in a later one, the error and the least sum above
module _ (strip : ErrorTable) (sums : List ℕ) (row col near error least : ℕ) (later : row ≡ 0 → ⊥) (is : error ≡ error_at strip row col)
    (above_is : least ≡ at_cell strip sums (row - 1) near) (found : IsFirstLeastNear (at_cell strip sums (row - 1)) strip.cols col near) where
  pub later_is_tight : IsTightSum strip sums row col (error + least)
  later_is_tight = record {
    first = λ zero. absurd (later zero);
    later = λ above below.
        let P : ℕ → Type 0 = λ n. (c : ℕ) × IsLeastNear (at_cell strip sums n) strip.cols col c × (error + least ≡ error_at strip row col + at_cell strip sums n c) in
        let same : row - 1 ≡ above = omega arith in
        subst P same (near, found.least, omega (arith, is, above_is));
  }

  pub later_holds : (sum : ℕ) → sum ≡ at_cell strip sums row col → sum ≤ error + least → SumHolds strip sums row col
  later_holds sum cell most = record {
    first = λ zero. absurd (later zero);
    later = λ above other below inside beside.
        let P : ℕ → Type 0 = λ n. at_cell strip sums row col ≤ error_at strip row col + at_cell strip sums n other in
        let same : row - 1 ≡ above = omega arith in
        let less : at_cell strip sums (row - 1) near ≤ at_cell strip sums (row - 1) other = found.least.least other inside beside in
        subst P same (omega (arith, cell, is, above_is, less, most));
  }

  pub later_held : (sum : ℕ) → sum ≡ at_cell strip sums row col → SumHolds strip sums row col → sum ≤ error + least
  later_held sum cell holds =
      let most : at_cell strip sums row col ≤ error_at strip row col + at_cell strip sums (row - 1) near = holds.later (row - 1) near (omega (arith, later)) found.least.inside found.least.beside in
      omega (arith, cell, is, above_is, most)

-- no sums are tight for no rows, and those for all rows are all sums
pub tight_for_none : (strip : ErrorTable) (sums : List ℕ) → sums ≡ [] → AreTightUpTo strip sums 0 0
tight_for_none strip sums none = record {
  sum_per_cell = let empty : length sums ≡ 0 = ap length none in omega (arith, empty);
  rows_above = λ row col below inside. absurd (omega arith);
  cols_before = λ col below. absurd (omega arith);
}

pub tight_for_all : (strip : ErrorTable) (sums : List ℕ) (rows : ℕ) → rows ≡ strip.rows → AreTightUpTo strip sums rows 0 → AreTightSums strip sums
tight_for_all strip sums rows all so_far =
    let tight : AreTightUpTo strip sums strip.rows 0 = rw all at so_far in
    record { sum_per_cell = omega (arith, tight.sum_per_cell); tight = tight.rows_above }

-- a path that is traced from the last row on, and from one row more
module _ (strip : ErrorTable) (sums path : List ℕ) where
  pub traced_at_last : (last col : ℕ) → length path ≡ strip.rows → last + 1 ≡ strip.rows → IsFirstLeastWithin (at_cell strip sums last) 0 strip.cols col → IsTracedFrom strip sums (set path last col) last
  traced_at_last last col len is_last least =
      let at : slice_index (set path last col) last ≡ col = get_or-set_same path last col 0 (omega arith) in
      let P : ℕ → Type 0 = λ r. IsFirstLeastWithin (at_cell strip sums r) 0 strip.cols (slice_index (set path last col) r) in
      record {
        column_per_row = length-set path last col ∙ len;
        last = λ r is from.
            let same : last ≡ r = omega arith in
            subst P same (subst (IsFirstLeastWithin (at_cell strip sums last) 0 strip.cols) (sym at) least);
        back = λ r more from. absurd (omega arith);
      }

  pub traced_more : (row near : ℕ) → row + 1 < strip.rows → IsTracedFrom strip sums path (row + 1) → IsFirstLeastNear (at_cell strip sums row) strip.cols (slice_index path (row + 1)) near
      → IsTracedFrom strip sums (set path row near) row
  traced_more row near inner traced least = record {
    column_per_row = length-set path row near ∙ traced.column_per_row;
    last = λ r is from. subst (IsFirstLeastWithin (at_cell strip sums r) 0 strip.cols) (sym (kept r (omega arith))) (traced.last r is (omega arith));
    back = λ r more from. back_of r (cases_lt row r) more from;
  }
    where
      kept : (r : ℕ) → row < r → slice_index (set path row near) r ≡ slice_index path r
      kept r after = get_or-set_other path row r near 0 (λ same. omega arith)

      at : slice_index (set path row near) row ≡ near
      at = get_or-set_same path row near 0 (omega (arith, traced.column_per_row))

      back_of : (r : ℕ) → (row < r) ⊎ (r ≤ row) → r + 1 < strip.rows → row ≤ r → IsFirstLeastNear (at_cell strip sums r) strip.cols (slice_index (set path row near) (r + 1)) (slice_index (set path row near) r)
      back_of r (inl after) more from =
          subst (λ below. IsFirstLeastNear (at_cell strip sums r) strip.cols below (slice_index (set path row near) r)) (sym (kept (r + 1) (omega arith)))
          (subst (IsFirstLeastNear (at_cell strip sums r) strip.cols (slice_index path (r + 1))) (sym (kept r after)) (traced.back r more (omega arith)))
      back_of r (inr here) more from =
          let P : ℕ → Type 0 = λ n. IsFirstLeastNear (at_cell strip sums n) strip.cols (slice_index (set path row near) (n + 1)) (slice_index (set path row near) n) in
          let same : row ≡ r = omega arith in
          subst P same
          (subst (λ below. IsFirstLeastNear (at_cell strip sums row) strip.cols below (slice_index (set path row near) row)) (sym (kept (row + 1) (omega arith)))
          (subst (IsFirstLeastNear (at_cell strip sums row) strip.cols (slice_index path (row + 1))) (sym at) least))
