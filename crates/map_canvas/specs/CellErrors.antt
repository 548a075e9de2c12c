-- What a reader has to trust: how far a cell of a placement is from what is there already.
-- (Kwatra et al. 2003 and Efros and Freeman 2001 compare overlapping patches by squared
-- differences.)
use Rattle.std.specs.Prelude.{ℕ, Option, Some, None}
use Rattle.cells.specs.declared.place.At.{At}
use Rattle.cells.specs.Boxes.{cell_in}
use Rattle.cells.specs.Cells.{Cells}
use Rattle.lane_kernels.specs.Sums.{sum_of_squared_differences}
use Rattle.map_canvas.specs.declared.canvas.Placement.{Placement}
use Rattle.map_canvas.specs.Maps.{SourceMap, map_at, sample_cell}
use Rattle.map_canvas.specs.Choices.{new_source}

-- the squared difference of a cell's source and another place of the sample; nothing of an unfilled
-- cell
abbrev pub cell_error : Cells → Option At → At → ℕ
cell_error sample None new = 0
cell_error sample (Some from) new =
    sum_of_squared_differences (sample_cell sample (Some from)) (sample_cell sample (Some new))

-- the squared difference of that cell from its new source
abbrev pub spot_error : SourceMap → Cells → Placement → ℕ → ℕ → ℕ → ℕ
spot_error m sample placement x y f =
    cell_error sample (map_at m (cell_in placement.rect x y f))
    (new_source placement (cell_in placement.rect x y f))
