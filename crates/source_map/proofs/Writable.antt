-- The map of a canvas with no cell unfilled can be written.
use Rattle.std.proofs.Common.{◌≡◌, ◌≤◌}
use Rattle.std.specs.Prelude.{None}
use Rattle.limits.specs.declared.bounds.TheConstants.{MOST_MAP_CELLS}
use Rattle.cells.specs.Places.{cell_count}
use Rattle.cells.specs.Cells.{Cells, sizes_of}
use Rattle.cells.proofs.CellLaws.{cell_has_index}
use Rattle.cells.proofs.PartLists.{one_part_has}
use Rattle.map_canvas.specs.Maps.{first_unfilled}
use Rattle.map_canvas.specs.Canvases.{CanvasState, IsCanvas, StandsOver}
use Rattle.map_canvas.proofs.EmptyAndFull.{whole_is_full}
use Rattle.source_map.specs.declared.head.Version.{Version}
use Rattle.source_map.specs.Heads.{AreSamples}
use Rattle.source_map.specs.MapFiles.{IsWritable}

pub whole_is_writable : (canvas : CanvasState) (sample : Cells) (version : Version) → IsCanvas canvas → AreSamples version (sizes_of sample) → StandsOver canvas sample
    → first_unfilled canvas.map ≡ None → cell_count canvas.map.size ≤ MOST_MAP_CELLS → IsWritable canvas.map (sizes_of sample) version
whole_is_writable canvas sample version is samples stands whole few = record {
  full = whole_is_full canvas.map is.map whole;
  cells = few;
  samples_are = samples;
  sources = λ p from e. (one_part_has sample from).inside.0 (cell_has_index sample from (stands.over p from e));
}
