-- The place that the map file names has the cell that is at the place of the worked samples.
use Rattle.std.proofs.Common.{◌≡◌, Bool, true, false, refl, subst}
use Rattle.cells.specs.declared.place.At.{At}
use Rattle.cells.specs.Cells.{Cells, HasCell, IsVolume, cell_at, sizes_of}
use Rattle.cells.specs.declared.sizes.PartPlace.{PartPlace}
use Rattle.cells.specs.SizeLists.{IsPartPlace}
use Rattle.cells.proofs.CellLaws.{cell_has_index}
use Rattle.cells.proofs.PartLists.{one_part_has}
use Rattle.turned.specs.TurnedParts.{turned_of}
use Rattle.turned.proofs.TurnedCells.{sizes_turned}
use Rattle.turned.proofs.TurnedPlaces.{same_cell_of}
use Rattle.turned_map.specs.TurnedFiles.{untouched_of}
use Rattle.turned_map.proofs.Entries.{untouched_is}
use Rattle.sample_files.specs.Worked.{worked}
use Rattle.outputs.specs.GrownMaps.{named_place}

pub named_cell : (turns : Bool) (v : Cells) → IsVolume v → (from : At) → HasCell (worked turns v) from → cell_at (worked turns v) from ≡ cell_at v (named_place turns (sizes_of v) from)
named_cell false v volume from has = refl
named_cell true v volume from has =
    let inside = (one_part_has (turned_of v) from).inside.0 (cell_has_index (turned_of v) from has) in
    same_cell_of v volume from (untouched_of (sizes_of v) from)
    (untouched_is (sizes_of v) from (subst (λ sizes. (there : PartPlace) × IsPartPlace sizes from there) (sizes_turned v) inside))
