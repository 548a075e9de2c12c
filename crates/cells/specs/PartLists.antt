-- What a reader has to trust: the parts of a volume, each a volume of its own. (Own.)
use Rattle.std.specs.Prelude.{◌≡◌, ◌↔◌, ℕ, zero, suc, List, [], ◌∷◌, take, drop, Option, Some, None, slice_get}
use Rattle.cells.specs.declared.place.At.{At}
use Rattle.cells.specs.declared.place.Size.{Size}
use Rattle.cells.specs.declared.sizes.PartPlace.{PartPlace}
use Rattle.cells.specs.Places.{IsInside, cell_count}
use Rattle.cells.specs.Cells.{Cells, IsInsideOf, IsOnePart, IsVolume, cell_at, sizes_of}
use Rattle.cells.specs.SizeLists.{IsPartPlace, size_of_part, stock_place}

-- a volume of one part with these cells
abbrev pub one_part_of : Size → ℕ → List (List ℕ) → Cells
one_part_of size k cells = record { size = size; more = []; k = k; cells = cells }

-- the parts of these sizes, whose cells come one part after another
abbrev pub parts_from : ℕ → Size → List Size → List (List ℕ) → List Cells
parts_from k size [] cells = one_part_of size k cells ∷ []
parts_from k size (next ∷ more) cells =
    one_part_of size k (take (cell_count size) cells)
    ∷ parts_from k next more (drop (cell_count size) cells)

-- the parts of a volume, from the first to the last
abbrev pub parts_of : Cells → List Cells
parts_of v = parts_from v.k v.size v.more v.cells

-- a part of a volume, by its number from 1
abbrev pub part_numbered : Cells → ℕ → Option Cells
part_numbered v zero = None
part_numbered v (suc n) = slice_get (parts_of v) n

-- the part is a volume of one part, and has the size that the list of sizes gives it
pub record IsPartOf (v : Cells) (number : ℕ) (part : Cells) : Type 0 where
  pub volume : IsVolume part
  pub one : IsOnePart part
  pub size : size_of_part (sizes_of v) number ≡ Some part.size

-- each place of the part has its cell in the volume, at the place that the volume counts for it
abbrev pub StandsIn : Cells → ℕ → Cells → Type 0
StandsIn v number part =
    (p : At) → IsInside part.size p → cell_at v (stock_place (sizes_of v) number p) ≡ cell_at part p

-- the place is inside exactly where a part has it; that part is one, with the place in it, and from
-- there leads back
pub record HasOnePart (v : Cells) (p : At) : Type 0 where
  pub inside : IsInsideOf v p ↔ ((there : PartPlace) × IsPartPlace (sizes_of v) p there)
  pub back : (there : PartPlace) → IsPartPlace (sizes_of v) p there
      → stock_place (sizes_of v) there.part there.at ≡ p
  pub one : (there other : PartPlace) → IsPartPlace (sizes_of v) p there
      → IsPartPlace (sizes_of v) p other → there ≡ other
