-- Through each strip there is the boundary that its definition asks for: tight sums row by row, and the way back
-- through them.
use Rattle.std.proofs.Common.{◌≡◌, ℕ, zero, suc, ◌+◌, ◌-◌, ◌<◌, ◌≤◌, List, [], ◌∷◌, ◌++◌, length, slice_index, refl, sym, ◌∙◌, subst, arith, ⊎_elim}
use Rattle.std.proofs.lemmas.Bool.{cases_lt}
use Rattle.std.specs.Prelude.{Option, Some, None}
use Rattle.strip_boundary.specs.declared.boundary.BoundaryRecord.{BoundaryRecord}
use Rattle.strip_boundary.specs.Records.{AreTightSums, IsLeastNear, IsTightSum}
use Rattle.strip_boundary.specs.Strips.{ErrorTable, at_cell, error_at}
use Rattle.strip_boundary.specs.Tables.{AreTightUpTo, IsFirstLeastNear, IsFirstLeastWithin, IsTracedFrom}
use Rattle.strip_boundary.proofs.PathLaws.{first_least_from_traced, stands_from_traced}
use Rattle.strip_boundary.proofs.SumLaws.{more_tight, row_is_tight}
use Rattle.quilted.specs.Runs.{IsBoundaryOf, JoinsBy}

-- of some columns there is a first least one
module _ (number_of : ℕ → ℕ) (start : ℕ) where
  abbrev FoundTo : ℕ → Type 0
  FoundTo end = (col : ℕ) × IsFirstLeastWithin number_of start end col

  one_more : (n : ℕ) → FoundTo (suc n + start) → FoundTo (suc (suc n) + start)
  one_more n was =
      let col = was.0 in
      let is = was.1 in
      let last = suc n + start in
      ⊎_elim (λ (less : number_of last < number_of col). (
        last,
        record {
          from = omega arith;
          below = omega arith;
          least = λ other from below.
              ⊎_elim (λ (before : other < last). omega (arith, less, is.least other from before))
              (λ (after : last ≤ other). let same : last ≡ other = omega (arith, after, below) in subst (λ k. number_of last ≤ number_of k) same (omega arith))
              (cases_lt other last);
          first = λ other from before. omega (arith, less, is.least other from before);
        },
      ))
      (λ (more : number_of col ≤ number_of last). (
        col,
        record {
          from = is.from;
          below = omega (arith, is.below);
          least = λ other from below.
              ⊎_elim (λ (before : other < last). is.least other from before)
              (λ (after : last ≤ other). let same : last ≡ other = omega (arith, after, below) in subst (λ k. number_of col ≤ number_of k) same more)
              (cases_lt other last);
          first = is.first;
        },
      ))
      (cases_lt (number_of last) (number_of col))

  first_of : (n : ℕ) → FoundTo (suc n + start)
  first_of zero = (
    start,
    record {
      from = omega arith;
      below = omega arith;
      least = λ other from below. let same : start ≡ other = omega (arith, from, below) in subst (λ k. number_of start ≤ number_of k) same (omega arith);
      first = λ other from before. absurd (omega (arith, from, before));
    },
  )
  first_of (suc n) = one_more n (first_of n)

  first_between : (end : ℕ) → start < end → FoundTo end
  first_between end some =
      let n : ℕ = end - suc start in
      let same : suc n + start ≡ end = omega (arith, some) in
      subst FoundTo same (first_of n)

-- and one near a column
module _ (number_of : ℕ → ℕ) (cols col : ℕ) (inside : col < cols) where
  abbrev FoundNear : Type 0
  FoundNear = (near : ℕ) × IsFirstLeastNear number_of cols col near

  near_before : (end : ℕ) → col < end → end ≤ cols → end ≤ col + 2 → ((other : ℕ) → other < cols → other ≤ col + 1 → other < end) → FoundNear
  near_before end some within most all =
      let start : ℕ = col - 1 in
      let found = first_between number_of start end (omega (arith, some)) in
      let is = found.1 in (
        found.0,
        record {
          least = record {
            inside = omega (arith, is.below, within);
            beside = (omega (arith, is.below, most), omega (arith, is.from));
            least = λ other there beside. is.least other (omega (arith, beside.1)) (all other there beside.0);
          };
          first = λ other beside before. is.first other (omega (arith, beside.1)) before;
        },
      )

  first_near : FoundNear
  first_near =
      ⊎_elim (λ (lt : col + 2 < cols). near_before (col + 2) (omega arith) (omega (arith, lt)) (omega arith) (λ other there near. omega (arith, near)))
      (λ (le : cols ≤ col + 2). near_before cols inside (omega arith) le (λ other there near. there))
      (cases_lt (col + 2) cols)

module _ (strip : ErrorTable) where
  -- a tight sum of each cell
  next_sum : (sums : List ℕ) (row col : ℕ) → col < strip.cols → (sum : ℕ) × IsTightSum strip sums row col sum
  next_sum sums zero col inside = (error_at strip zero col, record { first = λ e. refl; later = λ above e. absurd (omega (arith, e)) })
  next_sum sums (suc row) col inside =
      let near = first_near (at_cell strip sums row) strip.cols col inside in
      let sum : ℕ = error_at strip (suc row) col + at_cell strip sums row near.0 in (
        sum,
        record {
          first = λ e. absurd (omega (arith, e));
          later = λ above e.
              let same : row ≡ above = omega (arith, e) in
              subst (λ r. (n : ℕ) × IsLeastNear (at_cell strip sums r) strip.cols col n × (sum ≡ error_at strip (suc row) col + at_cell strip sums r n)) same
              (near.0, near.1.least, refl);
        },
      )

  abbrev TightUpTo : ℕ → ℕ → Type 0
  TightUpTo rows cols = (sums : List ℕ) × AreTightUpTo strip sums rows cols

  row_made : (row : ℕ) → TightUpTo row 0 → (n : ℕ) → n ≤ strip.cols → TightUpTo row n
  row_made row above zero le = above
  row_made row above (suc n) le =
      let was = row_made row above n (omega (arith, le)) in
      let next = next_sum was.0 row n (omega (arith, le)) in
      let one : n + 1 ≡ suc n = omega arith in
      (was.0 ++ next.0 ∷ [], subst (AreTightUpTo strip (was.0 ++ next.0 ∷ []) row) one (more_tight strip was.0 row n next.0 was.1 next.1))

  rows_made : (n : ℕ) → TightUpTo n 0
  rows_made zero = (
    [],
    record {
      sum_per_cell = omega arith;
      rows_above = λ row col lt inside. absurd (omega (arith, lt));
      cols_before = λ col lt. absurd (omega (arith, lt));
    },
  )
  rows_made (suc n) =
      let row = row_made n (rows_made n) strip.cols (omega arith) in
      let one : n + 1 ≡ suc n = omega arith in
      (row.0, subst (λ m. AreTightUpTo strip row.0 m 0) one (row_is_tight strip row.0 n row.1))

  tight_sums : (sums : List ℕ) × AreTightSums strip sums
  tight_sums =
      let made = rows_made strip.rows in
      (made.0, record { sum_per_cell = omega (arith, made.1.sum_per_cell); tight = made.1.rows_above })

-- the way back through the rows from one on to the last, as the list of their columns
record IsWayFrom (strip : ErrorTable) (sums : List ℕ) (start : ℕ) (path : List ℕ) : Type 0 where
  last : (i : ℕ) → length path ≡ suc i → IsFirstLeastWithin (at_cell strip sums (start + i)) 0 strip.cols (slice_index path i)
  back : (i : ℕ) → suc i < length path → IsFirstLeastNear (at_cell strip sums (start + i)) strip.cols (slice_index path (suc i)) (slice_index path i)
  inside : (i : ℕ) → i < length path → slice_index path i < strip.cols

module _ (strip : ErrorTable) (sums : List ℕ) where
  here : (start : ℕ) → start ≡ start + 0
  here start = omega arith

  below : (start i : ℕ) → suc start + i ≡ start + suc i
  below start i = omega arith

  last_row : (start col : ℕ) → IsFirstLeastWithin (at_cell strip sums start) 0 strip.cols col → IsWayFrom strip sums start (col ∷ [])
  last_row start col is = record { last = last; back = λ i lt. absurd (omega (arith, lt)); inside = inside }
    where
      last : (i : ℕ) → length (col ∷ []) ≡ suc i → IsFirstLeastWithin (at_cell strip sums (start + i)) 0 strip.cols (slice_index (col ∷ []) i)
      last zero e = subst (λ r. IsFirstLeastWithin (at_cell strip sums r) 0 strip.cols col) (here start) is
      last (suc i) e = absurd (omega (arith, e))

      inside : (i : ℕ) → i < length (col ∷ []) → slice_index (col ∷ []) i < strip.cols
      inside zero lt = is.below
      inside (suc i) lt = absurd (omega (arith, lt))

  row_before : (start col : ℕ) (path : List ℕ) → 1 ≤ length path → IsWayFrom strip sums (suc start) path → IsFirstLeastNear (at_cell strip sums start) strip.cols (slice_index path 0) col → IsWayFrom strip sums start (col ∷ path)
  row_before start col path some rest near = record { last = last; back = back; inside = inside }
    where
      last : (i : ℕ) → length (col ∷ path) ≡ suc i → IsFirstLeastWithin (at_cell strip sums (start + i)) 0 strip.cols (slice_index (col ∷ path) i)
      last zero e = absurd (omega (arith, e, some))
      last (suc i) e = subst (λ r. IsFirstLeastWithin (at_cell strip sums r) 0 strip.cols (slice_index path i)) (below start i) (rest.last i (omega (arith, e)))

      back : (i : ℕ) → suc i < length (col ∷ path) → IsFirstLeastNear (at_cell strip sums (start + i)) strip.cols (slice_index (col ∷ path) (suc i)) (slice_index (col ∷ path) i)
      back zero lt = subst (λ r. IsFirstLeastNear (at_cell strip sums r) strip.cols (slice_index path 0) col) (here start) near
      back (suc i) lt = subst (λ r. IsFirstLeastNear (at_cell strip sums r) strip.cols (slice_index path (suc i)) (slice_index path i)) (below start i) (rest.back i (omega (arith, lt)))

      inside : (i : ℕ) → i < length (col ∷ path) → slice_index (col ∷ path) i < strip.cols
      inside zero lt = near.least.inside
      inside (suc i) lt = rest.inside i (omega (arith, lt))

  way_from : 1 ≤ strip.cols → (n start : ℕ) → (path : List ℕ) × (length path ≡ suc n) × IsWayFrom strip sums start path
  way_from some zero start =
      let col = first_between (at_cell strip sums start) 0 strip.cols some in
      (col.0 ∷ [], refl, last_row start col.0 col.1)
  way_from some (suc n) start =
      let rest = way_from some n (suc start) in
      let long : 1 ≤ length rest.0 = omega (arith, rest.1) in
      let col = first_near (at_cell strip sums start) strip.cols (slice_index rest.0 0) (rest.2.inside 0 long) in
      let more : length (col.0 ∷ rest.0) ≡ suc (suc n) = omega (arith, rest.1) in
      (col.0 ∷ rest.0, more, row_before start col.0 rest.0 long rest.2 col.1)

  -- from the first row on it is the whole way
  traced : (n : ℕ) (path : List ℕ) → strip.rows ≡ suc n → length path ≡ suc n → IsWayFrom strip sums 0 path → IsTracedFrom strip sums path 0
  traced n path rows long way = record {
    column_per_row = long ∙ sym rows;
    last = λ row is_last from.
        let same : 0 + row ≡ row = omega arith in
        subst (λ r. IsFirstLeastWithin (at_cell strip sums r) 0 strip.cols (slice_index path row)) same (way.last row (omega (arith, is_last, rows, long)));
    back = λ row lt from.
        let same : 0 + row ≡ row = omega arith in
        let next : suc row ≡ row + 1 = omega arith in
        let is : IsFirstLeastNear (at_cell strip sums row) strip.cols (slice_index path (suc row)) (slice_index path row) =
        subst (λ r. IsFirstLeastNear (at_cell strip sums r) strip.cols (slice_index path (suc row)) (slice_index path row)) same (way.back row (omega (arith, lt, rows, long))) in
        subst (λ k. IsFirstLeastNear (at_cell strip sums row) strip.cols (slice_index path k) (slice_index path row)) next is;
  }

  way_back : 1 ≤ strip.cols → (n : ℕ) → strip.rows ≡ n → (path : List ℕ) × IsTracedFrom strip sums path 0
  way_back some zero e = (
    [],
    record {
      column_per_row = sym e;
      last = λ row is_last from. absurd (omega (arith, is_last, e));
      back = λ row lt from. absurd (omega (arith, lt, e));
    },
  )
  way_back some (suc n) e =
      let way = way_from some n 0 in
      (way.0, traced n way.0 e way.1 way.2)

-- a record of sums and path
record_of : (strip : ErrorTable) (sums path : List ℕ) → 1 ≤ strip.cols → AreTightSums strip sums → IsTracedFrom strip sums path 0 → IsBoundaryOf strip (record { path = path; sums = sums })
record_of strip sums path some tight way = record {
  some = some;
  first = first_least_from_traced strip sums path tight way;
  tight = tight;
  stands = stands_from_traced strip (record { path = path; sums = sums }) tight way;
}

pub some_join : (strip : ErrorTable) → (boundary : Option BoundaryRecord) × JoinsBy strip boundary
some_join strip = by strip.cols refl
  where
    by : (cols : ℕ) → strip.cols ≡ cols → (boundary : Option BoundaryRecord) × JoinsBy strip boundary
    by zero none = (None, none)
    by (suc n) e =
        let some : 1 ≤ strip.cols = omega (arith, e) in
        let sums = tight_sums strip in
        let path = way_back strip sums.0 some strip.rows refl in
        (Some (record { path = path.0; sums = sums.0 }), record_of strip sums.0 path.0 some sums.1 path.1)
