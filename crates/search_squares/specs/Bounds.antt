-- Which of a run of places a box can't be laid from within a limit. A reader has to trust this file.
-- (Own.)
use Rattle.std.specs.Prelude.{◌≡◌, ◌<◌, ℕ}
use Rattle.std.specs.Int.{bit_at}
use Rattle.cells.specs.declared.place.At.{At}
use Rattle.cells.specs.declared.place.Box3.{Box3}
use Rattle.cells.specs.declared.place.Size.{Size}
use Rattle.cells.specs.Boxes.{HoldsBox}
use Rattle.cells.specs.Cells.{Cells}
use Rattle.cells.specs.Places.{minus, plus, spot}
use Rattle.map_canvas.specs.Canvases.{CanvasState}
use Rattle.map_canvas.specs.Choices.{laid_from}
use Rattle.match_error.specs.Errors.{error_sum}
use Rattle.match_error.specs.Runs.{IsLaidOver}

-- the place so many cells further along X
abbrev pub place_along : At → ℕ → At
place_along from j = plus from (spot j 0 0)

-- a box of that size, laid from a corner, lies in another box
abbrev pub IsBoxIn : Box3 → At → Size → Type 0
IsBoxIn outer corner size = HoldsBox outer.size (minus corner outer.corner) size

-- a place is marked, by its number: its bit is set
abbrev pub IsMarked : ℕ → ℕ → Type 0
IsMarked marks j = bit_at marks j ≡ 1

-- of each of the first n places that is marked, the error of the box laid from there is above the
-- limit
abbrev pub AreAbove : CanvasState → Cells → Box3 → At → ℕ → ℕ → ℕ → Type 0
AreAbove canvas sample rect from n limit marks =
    (j : ℕ) → j < n → IsMarked marks j
    → limit < error_sum canvas.map sample (laid_from rect (place_along from j))

-- the box may be laid from each of the first n places
abbrev pub MayBeLaid : CanvasState → Cells → Box3 → At → ℕ → Type 0
MayBeLaid canvas sample rect from n =
    (j : ℕ) → j < n → IsLaidOver canvas rect sample (place_along from j)
