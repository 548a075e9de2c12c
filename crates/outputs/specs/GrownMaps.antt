-- The map file of a run: its text, what its writer asks for, and which cells of the samples it
-- names. With turns they are the cells as they are before any turn. To be trusted: contracts cite
-- these words. (Own.)
use Rattle.std.specs.Prelude.{Bool, true, false, ℕ, List, [], ◌∷◌}
use Rattle.cells.specs.declared.place.At.{At}
use Rattle.cells.specs.declared.place.Size.{Size}
use Rattle.cells.specs.SizeLists.{stock_place}
use Rattle.map_canvas.specs.Maps.{SourceMap}
use Rattle.source_map.specs.declared.head.Version.{Version}
use Rattle.source_map.specs.declared.head.Version.TheVariants.{One, Two}
use Rattle.source_map.specs.MapFiles.{IsWritable, cell_map_form}
use Rattle.turned_map.specs.TurnedFiles.{IsTurnedMap, turned_map_form, untouched_of}

-- one sample is written in version 1, and several are in version 2: by the further ones
abbrev pub version_for : List Size → Version
version_for [] = One
version_for (size ∷ more) = Two

abbrev pub version_of : List Size → Version
version_of [] = One
version_of (size ∷ more) = version_for more

-- the text of the map file over samples of these sizes. The map has places of the samples, or with
-- turns of the volume of all turns
abbrev pub map_text : Bool → SourceMap → List Size → List ℕ
map_text false m samples = cell_map_form m samples (version_of samples)
map_text true m samples = turned_map_form m samples

-- what its writer asks for
abbrev pub IsReadyMap : Bool → SourceMap → List Size → Type 0
IsReadyMap false m samples = IsWritable m samples (version_of samples)
IsReadyMap true m samples = IsTurnedMap m samples

-- the place of the samples that the map file names for a place of the map. With turns it names a
-- sample, a turn, and a place in that sample as it is before the turn
abbrev pub named_place : Bool → List Size → At → At
named_place false samples from = from
named_place true samples from =
    stock_place samples (untouched_of samples from).sample (untouched_of samples from).at
