-- What a reader has to trust: placements, choices, and the map after a choice. (Kwatra et al. 2003:
-- a patch of the sample is laid over the output, and of each cell old or new is taken.)
use Rattle.std.specs.Prelude.{◌≡◌, ℕ, Bool, false, List, map, slice_index_or, Option, Some, option_map, unwrap_or, if◌then◌else◌}
use Rattle.cells.specs.declared.place.At.{At}
use Rattle.cells.specs.declared.place.Box3.{Box3}
use Rattle.cells.specs.declared.place.Size.{Size}
use Rattle.cells.specs.Places.{IsInside, SumFits, cell_count, index_in, place_of, places, plus, minus}
use Rattle.cells.specs.Boxes.{HoldsBox, HasCells, IsInBox}
use Rattle.cells.specs.Cells.{Cells, HasCell, Holds}
use Rattle.map_canvas.specs.declared.canvas.Placement.{Placement}
use Rattle.map_canvas.specs.Maps.{SourceMap, IsSource, map_at}

-- the box has a cell and lies in the output, and the same box at `from` lies in the sample
pub record Fits (output : Size) (sample : Cells) (placement : Placement) : Type 0 where
  pub some : HasCells placement.rect.size
  pub inside : HoldsBox output placement.rect.corner placement.rect.size
  pub sources : Holds sample placement.from placement.rect.size

-- a box, laid from a place of the sample
abbrev pub laid_from : Box3 → At → Placement
laid_from rect from = record { rect = rect; from = from }

-- the number of cells of the box
abbrev pub box_count : Placement → ℕ
box_count placement = cell_count placement.rect.size

-- the index of a cell in the box, in raster order
abbrev pub box_index : Placement → At → Option ℕ
box_index placement p = index_in placement.rect.size (minus p placement.rect.corner)

-- the new source of a cell: as far from `from` as the cell is from the corner
abbrev pub new_source : Placement → At → At
new_source placement p = plus placement.from (minus p placement.rect.corner)

-- a new source has a cell in the sample, and may be in a map
pub record IsNewSource (sample : Cells) (from : At) : Type 0 where
  pub cell : HasCell sample from
  pub source : IsSource from

-- each cell of the box has a new source, and each step from its corner leads to one, whose
-- coordinates are numbers of 32 bits
pub record HasNewSources (sample : Cells) (placement : Placement) : Type 0 where
  pub cells : (p : At) → IsInBox placement.rect p → IsNewSource sample (new_source placement p)
  pub steps : (step : At) → IsInside placement.rect.size step
      → IsNewSource sample (plus placement.from step)
  pub sums : (step : At) → IsInside placement.rect.size step → SumFits placement.from step

-- the cell of the box at an index, and its new source
abbrev pub box_cell : Placement → ℕ → At
box_cell placement i = plus placement.rect.corner (place_of placement.rect.size i)

abbrev pub box_source : Placement → ℕ → At
box_source placement i = plus placement.from (place_of placement.rect.size i)

-- a choice says of each cell of the box, by its index, whether it is new; past its end it says old
abbrev pub chosen : List Bool → Option ℕ → Bool
chosen choice index = unwrap_or (option_map (λ i. slice_index_or choice i false) index) false

-- the source of a cell after a choice: new cells have their new source, all others are as before
abbrev pub after_at : SourceMap → Placement → List Bool → At → Option At
after_at m placement choice p =
    if chosen choice (box_index placement p) then Some (new_source placement p) else map_at m p

-- the map after a choice
abbrev pub map_after : SourceMap → Placement → List Bool → SourceMap
map_after m placement choice = record {
  size = m.size;
  sources = map (after_at m placement choice) (places m.size);
}

-- a map is that, seen place by place
pub record IsAfter (m : SourceMap) (placement : Placement) (choice : List Bool)
    (after : SourceMap) : Type 0 where
  pub size : after.size ≡ m.size
  pub sources : (p : At) → map_at after p ≡ after_at m placement choice p
