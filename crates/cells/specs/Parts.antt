-- What a reader has to trust: the parts of a volume. They come along F, one after another, with
-- one empty frame between. (Own.)
use Rattle.std.specs.Prelude.{◌≤◌, ◌<◌, ◌+◌, ◌⊎◌, ℕ, pos, ◌-ℤ◌, List, [], ◌∷◌, length, Option, Some, None}
use Rattle.std.specs.List.{AllByRecursion}
use Rattle.cells.specs.declared.place.At.{At}
use Rattle.cells.specs.declared.place.Size.{Size}
use Rattle.limits.specs.declared.bounds.TheConstants.{MOST_CELLS, MOST_PARTS}
use Rattle.cells.specs.Places.{HasAxes, cell_count, index_in}
use Rattle.cells.specs.Boxes.{HoldsBox}

-- a place as the part after one of this size counts it: past its frames and the empty one
abbrev pub past : Size → At → At
past size p = record { x = p.x; y = p.y; f = p.f -ℤ pos (size.f + 1) }

-- how many cells the parts have together: one of this size, and those after it
abbrev pub count_from : Size → List Size → ℕ
count_from size [] = cell_count size
count_from size (next ∷ more) = cell_count size + count_from next more

-- an index in a part, or else one past its n cells
abbrev pub or_later : Option ℕ → ℕ → Option ℕ → Option ℕ
or_later (Some i) n rest = Some i
or_later None n None = None
or_later None n (Some j) = Some (n + j)

-- the index of a place among the cells of all parts, where it is inside one of them
abbrev pub index_from : Size → List Size → At → Option ℕ
index_from size [] p = index_in size p
index_from size (next ∷ more) p =
    or_later (index_in size p) (cell_count size) (index_from next more (past size p))

-- the box lies inside one of the parts on each axis
abbrev pub HoldsFrom : Size → List Size → At → Size → Type 0
HoldsFrom size [] corner inner = HoldsBox size corner inner
HoldsFrom size (next ∷ more) corner inner =
    HoldsBox size corner inner ⊎ HoldsFrom next more (past size corner) inner

-- 1 to 16 parts, with no more cells together than a volume may have
pub record AreParts (size : Size) (more : List Size) : Type 0 where
  pub few : length more < MOST_PARTS
  pub first : HasAxes size
  pub others : AllByRecursion HasAxes more
  pub cells : count_from size more ≤ MOST_CELLS
