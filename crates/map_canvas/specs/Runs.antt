-- The state of the loops that put in runs of new cells, which no public contract names. (Own.)
use Rattle.std.specs.Prelude.{◌≡◌, ◌<◌, ◌+◌, ℕ, Bool, true, false, List, map, slice_index_or, Option, Some}
use Rattle.std.specs.List.{range_with_len}
use Rattle.cells.specs.declared.place.At.{At}
use Rattle.cells.specs.Places.{index_in, plus, spot}
use Rattle.cells.specs.Cells.{Cells, cells_of, put_row, put_run, row_at}
use Rattle.map_canvas.specs.Maps.{SourceMap}

-- the places along X from a source on, as sources
abbrev pub source_run : At → ℕ → List (Option At)
source_run from w = map (λ j. Some (plus from (spot j 0 0))) (range_with_len 0 w)

-- the map with such sources in a run along X, from a place on
abbrev pub with_run : SourceMap → At → At → ℕ → SourceMap
with_run m p from w = record m {
  sources = put_run m.sources (index_in m.size p) (source_run from w);
}

-- the picture with copies of the sample's cells in a run along X, from a place on
abbrev pub put_copies : Cells → Cells → At → At → ℕ → Cells
put_copies picture sample p from w = put_row picture p (cells_of picture.k w (row_at sample from w))

-- a choice makes so many cells new, from an index on
pub record AreNew (choice : List Bool) (start n : ℕ) : Type 0 where
  pub each : (j : ℕ) → j < n → slice_index_or choice (start + j) false ≡ true
