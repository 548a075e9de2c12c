-- What a map shows over a sample, cell by cell: the words of the private functions that make the
-- picture of a map. (Own.)
use Rattle.std.specs.Prelude.{◌<◌, ℕ, List, length, slice_index_or, Option, Some, None, IfSome, replicate}
use Rattle.cells.specs.declared.place.At.{At}
use Rattle.cells.specs.Cells.{Cells, HasCell}
use Rattle.map_canvas.specs.Maps.{sample_cell}

-- each source has a cell in the sample
abbrev pub HaveCells : Cells → List (Option At) → Type 0
HaveCells sample sources =
    (i : ℕ) → i < length sources → IfSome (slice_index_or sources i None) (HasCell sample)

-- the bytes of a cell: the sample's at its source, or 0 for each sample where it has none
abbrev pub shown_cell : Cells → Option At → List ℕ
shown_cell sample None = replicate sample.k 0
shown_cell sample (Some from) = sample_cell sample (Some from)
