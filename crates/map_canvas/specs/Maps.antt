-- What a reader has to trust: a map, which has for each output cell nothing, or a place of the
-- sample. (Own; the record of where each pixel came from, which Kwatra et al. 2003 keep for their
-- old seams.)
use Rattle.std.specs.Prelude.{◌≡◌, ◌≤ℤ◌, ℕ, ℤ, pos, List, [], length, replicate, slice_index_or, All, Option, Some, None, is_none, option_and_then, option_map, unwrap_or, map, position, IsSome, IfSome}
use Rattle.cells.specs.declared.place.At.{At}
use Rattle.cells.specs.declared.place.Size.{Size}
use Rattle.map_canvas.specs.declared.map.TheConstants.{GREATEST_COORDINATE}
use Rattle.cells.specs.Places.{IsSmall, IsInside, cell_count, index_in, place_of}
use Rattle.cells.specs.Cells.{Cells, HasCell, cell_at, set_nth}

-- the size of the output, and the source of each cell in raster order
pub record SourceMap : Type 0 where
  pub size : Size
  pub sources : List (Option At)

-- a coordinate that a source may have, in a sample of up to 16 parts
abbrev pub IsCoordinate : ℤ → Type 0
IsCoordinate z = (pos 0 ≤ℤ z) × (z ≤ℤ GREATEST_COORDINATE)

pub record IsSource (p : At) : Type 0 where
  pub x : IsCoordinate p.x
  pub y : IsCoordinate p.y
  pub f : IsCoordinate p.f

-- what every map is
pub record IsMap (m : SourceMap) : Type 0 where
  pub small : IsSmall m.size
  pub count : length m.sources ≡ cell_count m.size
  pub sources : All (λ source. IfSome source IsSource) m.sources

-- the map of a size with no source
abbrev pub empty_map : Size → SourceMap
empty_map size = record { size = size; sources = replicate (cell_count size) None }

abbrev pub source_at : List (Option At) → Option ℕ → Option At
source_at sources index = option_and_then (λ i. slice_index_or sources i None) index

-- the source of a cell; nothing where it is unfilled or outside the output
abbrev pub map_at : SourceMap → At → Option At
map_at m p = source_at m.sources (index_in m.size p)

abbrev pub IsFilled : SourceMap → At → Type 0
IsFilled m p = IsSome (map_at m p)

-- each output cell has a source
abbrev pub IsFull : SourceMap → Type 0
IsFull m = (p : At) → IsInside m.size p → IsFilled m p

-- the first cell in raster order that has no source
abbrev pub first_unfilled : SourceMap → Option At
first_unfilled m = option_map (place_of m.size) (position is_none m.sources)

-- the map with another source at one cell
abbrev pub with_source : SourceMap → At → At → SourceMap
with_source m p from = record m { sources = set_nth m.sources (index_in m.size p) (Some from) }

-- the sources of all filled cells have cells in the sample
abbrev pub IsOver : SourceMap → Cells → Type 0
IsOver m sample = (p from : At) → map_at m p ≡ Some from → HasCell sample from

-- the sample's cell at a source
abbrev pub sample_cell : Cells → Option At → List ℕ
sample_cell sample source = unwrap_or (option_and_then (cell_at sample) source) []

-- the picture of a map, one part: at each output cell the sample's cell that the map names
abbrev pub picture_of : SourceMap → Cells → Cells
picture_of m sample = record {
  size = m.size;
  more = [];
  k = sample.k;
  cells = map (sample_cell sample) m.sources;
}
