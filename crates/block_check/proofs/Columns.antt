-- The strip columns of a boundary.
use Rattle.std.proofs.Common.{◌≡◌, ℕ, ◌+◌, ◌*◌, ◌/◌, ◌≤◌, length, ap, sym, ◌∙◌, arith}
use Rattle.std.proofs.lemmas.Nat.{div-mul-add}
use Rattle.std.specs.Prelude.{Option, Some, None}
use Rattle.cells.specs.Boxes.{HasCells}
use Rattle.limits.specs.declared.bounds.TheConstants.{GREATEST_AXIS}
use Rattle.cells.specs.declared.place.Size.{Size}
use Rattle.cells.specs.Places.{IsSmall}
use Rattle.map_canvas.specs.declared.canvas.Placement.{Placement}
use Rattle.strip_boundary.specs.declared.boundary.BoundaryRecord.{BoundaryRecord}
use Rattle.block_strips.specs.declared.side.Side.{Side}
use Rattle.block_strips.specs.declared.side.Side.TheVariants.{Left, Top}
use Rattle.block_strips.specs.Strips.{most_cols, strip_rows}
use Rattle.block_check.specs.Blocks.{HasColumns, HasColumnsOn, cols_on}
use Rattle.block_check.specs.Steps.{AreColumns, AreColumnsOn}

pub rows_some : (side : Side) (size : Size) → HasCells size → 1 ≤ strip_rows side size
rows_some Left size some = some.h
rows_some Top size some = some.w

-- as many as its sums say
pub cols_are : (rows cols : ℕ) → 1 ≤ rows → rows * cols / rows ≡ cols
cols_are rows cols some = ap (λ n. n / rows) (let e : rows * cols ≡ cols * rows + 0 = omega arith in e) ∙ div-mul-add cols rows 0 some

pub columns_of : (rows most : ℕ) (boundary : BoundaryRecord) → 1 ≤ rows → HasColumns rows most boundary → AreColumns rows most (length boundary.sums / rows) boundary
columns_of rows most boundary some has =
    let e : length boundary.sums / rows ≡ has.cols = ap (λ n. n / rows) has.count ∙ cols_are rows has.cols some in
    record {
      some = omega (arith, e, has.some);
      most_of = omega (arith, e, has.most_of);
      count = has.count ∙ ap (λ n. rows * n) (sym e);
    }

pub columns_on : (side : Side) (placement : Placement) (boundary : Option BoundaryRecord) → HasCells placement.rect.size → HasColumnsOn side placement boundary → AreColumnsOn side placement boundary (cols_on side placement boundary)
columns_on side placement None some has = tt
columns_on side placement (Some boundary) some has =
    columns_of (strip_rows side placement.rect.size) (most_cols side placement.rect.size) boundary (rows_some side placement.rect.size some) has

-- a number of columns fits 32 bits
pub columns_fit : (side : Side) (placement : Placement) (boundary : BoundaryRecord) → IsSmall placement.rect.size → HasColumnsOn side placement (Some boundary) → length boundary.sums / strip_rows side placement.rect.size ≤ GREATEST_AXIS
columns_fit Left placement boundary small has =
    omega (arith, (columns_of placement.rect.size.h placement.rect.size.w boundary small.axes.h.0 has).most_of, small.axes.w)
columns_fit Top placement boundary small has =
    omega (arith, (columns_of placement.rect.size.w placement.rect.size.h boundary small.axes.w.0 has).most_of, small.axes.h)

pub some_cells : (size : Size) → IsSmall size → HasCells size
some_cells size small = record { w = small.axes.w.0; h = small.axes.h.0; f = small.axes.f.0 }
