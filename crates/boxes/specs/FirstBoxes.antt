-- A reader has to trust this file. Boxes that are laid one after another, each for the first cell
-- outside those before it, and the first of them that takes the cells of all boxes past their
-- bound. Each crate that lays boxes says which one it lays for a cell, where it lays any. (Own.)
use Rattle.std.specs.Prelude.{◌≡◌, ◌≤◌, ◌<◌, ◌+◌, ℕ, List, [], ◌∷◌, Option, Some, None}
use Rattle.cells.specs.declared.place.At.{At}
use Rattle.cells.specs.declared.place.Box3.{Box3}
use Rattle.cells.specs.declared.place.Size.{Size}
use Rattle.cells.specs.Boxes.{IsInOne}
use Rattle.cells.specs.Firsts.{IsFirstWithout}
use Rattle.cells.specs.Places.{cell_count, place_of}
use Rattle.limits.specs.declared.bounds.TheConstants.{MOST_BOX_CELLS}

-- how many cells boxes have, all together
abbrev pub cells_of_boxes : List Box3 → ℕ
cells_of_boxes [] = 0
cells_of_boxes (rect ∷ rects) = cell_count rect.size + cells_of_boxes rects

-- the box after these: the one that is laid for the first cell outside them
pub record IsBoxAfter (box : At → Option Box3) (output : Size) (rects : List Box3)
    (rect : Box3) : Type 0 where
  pub index : ℕ
  pub first : IsFirstWithout (cell_count output) (λ i. IsInOne rects (place_of output i)) index
  pub is : box (place_of output index) ≡ Some rect

-- the first boxes, the last one first
abbrev pub AreFirstBoxes : (At → Option Box3) → Size → List Box3 → Type 0
AreFirstBoxes box output [] = Unit {0}
AreFirstBoxes box output (rect ∷ rects) =
    IsBoxAfter box output rects rect × AreFirstBoxes box output rects

-- the first box that takes the cells of all boxes past their bound, and these cells
pub record BoxesPassAt (box : At → Option Box3) (output : Size) (number : ℕ) : Type 0 where
  pub rects : List Box3
  pub before : AreFirstBoxes box output rects
  pub within : cells_of_boxes rects ≤ MOST_BOX_CELLS
  pub rect : Box3
  pub next : IsBoxAfter box output rects rect
  pub cells : number ≡ cells_of_boxes rects + cell_count rect.size
  pub past : MOST_BOX_CELLS < number

-- no box takes them past it
abbrev pub BoxesStayWithin : (At → Option Box3) → Size → Type 0
BoxesStayWithin box output = (number : ℕ) → BoxesPassAt box output number → ⊥

-- the cells at the first box that is too much; or no box is
abbrev pub IsFirstPast : (At → Option Box3) → Size → Option ℕ → Type 0
IsFirstPast box output (Some number) = BoxesPassAt box output number
IsFirstPast box output None = BoxesStayWithin box output
