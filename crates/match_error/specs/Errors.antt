-- To be trusted: overlap errors, how far the cells of a placement are from what is there
-- already. (Kwatra et al. 2003 and Efros and Freeman 2001 compare overlapping patches by the sum
-- of squared differences; the count beside it, and the tolerance in hundredths, are own.)
use Rattle.std.specs.Prelude.{◌+◌, ◌*◌, ℕ, Bool, Option, Some, None, nat_le}
use Rattle.limits.specs.declared.bounds.TheConstants.{GREATEST_AXIS, MOST_CHANNELS}
use Rattle.cells.specs.declared.place.At.{At}
use Rattle.cells.specs.declared.place.Box3.{Box3}
use Rattle.cells.specs.Cells.{Cells}
use Rattle.cells.specs.Boxes.{cell_in}
use Rattle.boxes.specs.Sums.{sum_box, sum_to}
use Rattle.map_canvas.specs.declared.canvas.Placement.{Placement}
use Rattle.map_canvas.specs.CellErrors.{spot_error}
use Rattle.map_canvas.specs.Maps.{SourceMap, map_at}
use Rattle.match_error.specs.declared.error.Error.{Error}

-- 1 for a filled cell
abbrev pub one_filled : Option At → ℕ
one_filled None = 0
one_filled (Some from) = 1

-- the sum over the filled cells of a row of the box, of a frame of it, and of the box
abbrev pub row_error : SourceMap → Cells → Placement → ℕ → ℕ → ℕ
row_error m sample placement y f =
    sum_to placement.rect.size.w (λ x. spot_error m sample placement x y f)

abbrev pub frame_error : SourceMap → Cells → Placement → ℕ → ℕ
frame_error m sample placement f =
    sum_to placement.rect.size.h (λ y. row_error m sample placement y f)

abbrev pub error_sum : SourceMap → Cells → Placement → ℕ
error_sum m sample placement =
    sum_box placement.rect.size (λ x y f. spot_error m sample placement x y f)

-- how many cells of a box are filled
abbrev pub filled_cells : SourceMap → Box3 → ℕ
filled_cells m rect = sum_box rect.size (λ x y f. one_filled (map_at m (cell_in rect x y f)))

-- how many cells of a placement's box are
abbrev pub filled_count : SourceMap → Placement → ℕ
filled_count m placement = filled_cells m placement.rect

-- the overlap error of a placement
abbrev pub error_of : SourceMap → Cells → Placement → Error
error_of m sample placement = record {
  sum = error_sum m sample placement;
  count = filled_count m placement;
}

-- the error per filled cell is at most that of another and so many hundredths of it
abbrev pub is_within : ℕ → Error → Error → Bool
is_within tol best other = nat_le (other.sum * best.count * 100)
    (best.sum * other.count * (100 + tol))

-- the most that the error of a cell, a row or a frame of a box sums up to
abbrev pub most_cell_error : ℕ
most_cell_error = 255 * 255 * MOST_CHANNELS

abbrev pub most_row_error : ℕ
most_row_error = GREATEST_AXIS * most_cell_error

abbrev pub most_frame_error : ℕ
most_frame_error = GREATEST_AXIS * most_row_error
