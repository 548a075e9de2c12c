-- What a reader has to trust: the turns of each part of a volume, as parts of one volume. (Own.)
use Rattle.std.specs.Prelude.{ℕ, List, [], drop, map, unwrap_or}
use Rattle.std.specs.List.{flat_map, range_with_len}
use Rattle.cells.specs.declared.place.At.{At}
use Rattle.cells.specs.declared.place.Size.{Size}
use Rattle.cells.specs.Places.{places}
use Rattle.cells.specs.Cells.{Cells, cell_at, sizes_of}
use Rattle.cells.specs.PartLists.{one_part_of, parts_of}
use Rattle.turned.specs.declared.turn.TheConstants.{TURNS}
use Rattle.turned.specs.Turns.{turn_from, turn_size}

-- the cell that a turn of a part moves to a place
abbrev pub turned_cell : ℕ → Cells → At → List ℕ
turned_cell t part p = unwrap_or (cell_at part (turn_from t part.size p)) []

-- a part after a turn
unfoldable pub turned : ℕ → Cells → Cells
turned t part =
    one_part_of (turn_size t part.size) part.k
    (map (turned_cell t part) (places (turn_size t part.size)))

-- all turns, from the one that moves nothing on
abbrev pub all_turns : List ℕ
all_turns = range_with_len 0 TURNS

abbrev pub turns_of : Cells → List Cells
turns_of part = map (λ t. turned t part) all_turns

abbrev pub turn_sizes : Size → List Size
turn_sizes size = map (λ t. turn_size t size) all_turns

-- the turns of each part of a volume, those of one part after those of another
abbrev pub turned_parts : Cells → List Cells
turned_parts v = flat_map turns_of (parts_of v)

-- and their sizes
abbrev pub turned_sizes_of : List Size → List Size
turned_sizes_of sizes = flat_map turn_sizes sizes

abbrev pub cells_of_parts : List Cells → List (List ℕ)
cells_of_parts parts = flat_map (λ part. part.cells) parts

-- the volume of these parts; turn 0 of the first has the first's size
unfoldable pub turned_of : Cells → Cells
turned_of v = record {
  size = v.size;
  more = drop 1 (turned_sizes_of (sizes_of v));
  k = v.k;
  cells = cells_of_parts (turned_parts v);
}
