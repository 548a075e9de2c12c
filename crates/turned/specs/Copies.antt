-- States of the loops that turn parts, which no public contract names. (Own.)
use Rattle.std.specs.Prelude.{◌≡◌, ◌≤◌, ◌<◌, ◌++◌, ℕ, List, length, map, unwrap_or}
use Rattle.std.specs.List.{range_with_len}
use Rattle.cells.specs.Places.{IsSmall, spot}
use Rattle.turned.specs.declared.turn.TheConstants.{TURNS}
use Rattle.cells.specs.Cells.{Cells, sizes_of}
use Rattle.cells.specs.declared.place.Size.{Size}
use Rattle.cells.specs.PartLists.{part_numbered}
use Rattle.turned.specs.declared.copies.PartTurn.{PartTurn}
use Rattle.turned.specs.Turns.{turn_size}
use Rattle.turned.specs.TurnedParts.{cells_of_parts, turned, turned_cell}
use Rattle.turned.specs.TurnedPlaces.{sample_size}

-- a part of a volume, by its number
abbrev pub numbered_part : Cells → ℕ → Cells
numbered_part v number = unwrap_or (part_numbered v number) v

-- the cells of a row of a turned part, from the first on
abbrev pub turned_row : ℕ → Cells → ℕ → ℕ → ℕ → List (List ℕ)
turned_row t part y f w = map (λ x. turned_cell t part (spot x y f)) (range_with_len 0 w)

-- some turns of a part, one after another
abbrev pub turns_from : Cells → ℕ → ℕ → List Cells
turns_from part first n = map (λ t. turned t part) (range_with_len first n)

-- a volume with further parts after its own
abbrev pub with_parts : Cells → List Cells → Cells
with_parts v parts = record v {
  more = v.more ++ map (λ part. part.size) parts;
  cells = v.cells ++ cells_of_parts parts;
}

-- these are the sizes of the parts of a volume
abbrev pub AreSizesOf : Cells → List Size → Type 0
AreSizesOf v sizes = sizes ≡ sizes_of v

-- a turn of a part of a volume of these sizes, with the part's size after it
pub record IsPartTurn (v : Cells) (sizes : List Size) (it : PartTurn) : Type 0 where
  pub sizes_are : AreSizesOf v sizes
  pub from : 1 ≤ it.number
  pub to : it.number ≤ length sizes
  pub turn_is : it.turn < TURNS
  pub size_is : it.size ≡ turn_size it.turn (sample_size sizes it.number)
  pub small : IsSmall it.size
