-- What a reader has to trust: the numbers of a cell of the output and of one of the sample whose products
-- add up to the squared difference of both, modulo the prime. It is the sum of the squares of both,
-- less twice each product of their bytes. (Own.)
use Rattle.std.specs.Prelude.{ℕ, zero, suc, ◌*◌, ◌-◌, List, slice_index_or, Option, Some, None}
use Rattle.std.specs.List.{sum_by}
use Rattle.cyclic_products.specs.declared.residues.TheConstants.{PRIME}
use Rattle.cells.specs.declared.place.At.{At}
use Rattle.cells.specs.declared.place.Box3.{Box3}
use Rattle.cells.specs.Boxes.{cell_in}
use Rattle.cells.specs.Cells.{Cells}
use Rattle.cells.specs.Places.{plus, spot}
use Rattle.map_canvas.specs.Maps.{SourceMap, map_at, sample_cell}

-- the squares of the bytes of a cell
abbrev pub squares : List ℕ → ℕ
squares cell = sum_by (λ b. b * b) cell

-- of a filled cell: number 0 is its squares, 1 is one, and those after it take its bytes off twice
abbrev pub old_number : List ℕ → ℕ → ℕ
old_number cell zero = squares cell
old_number cell (suc zero) = 1
old_number cell (suc (suc c)) = PRIME - 2 * slice_index_or cell c 0

-- of a cell of the sample: number 0 is one, 1 its squares, and those after it its bytes
abbrev pub new_number : List ℕ → ℕ → ℕ
new_number cell zero = 1
new_number cell (suc zero) = squares cell
new_number cell (suc (suc c)) = slice_index_or cell c 0

-- of a source; an unfilled cell has zeros
abbrev pub source_number : Cells → ℕ → Option At → ℕ
source_number sample j None = 0
source_number sample j (Some from) = old_number (sample_cell sample (Some from)) j

-- number j of each cell of a box of the output, by its counts
abbrev pub box_number : SourceMap → Cells → Box3 → ℕ → ℕ → ℕ → ℕ → ℕ
box_number m sample rect j x y f = source_number sample j (map_at m (cell_in rect x y f))

-- number j of each cell of the sample, by its counts from a place on
abbrev pub part_number : Cells → At → ℕ → ℕ → ℕ → ℕ → ℕ
part_number sample from j x y f =
    new_number (sample_cell sample (Some (plus from (spot x y f)))) j
