-- The errors of the placements of one box. A reader has to trust this file. (Own.)
use Rattle.std.specs.Prelude.{◌≡◌, ◌≤◌, ◌^◌, ℕ, List}
use Rattle.cells.specs.declared.place.At.{At}
use Rattle.cells.specs.declared.place.Box3.{Box3}
use Rattle.cells.specs.Cells.{Cells}
use Rattle.map_canvas.specs.declared.canvas.Placement.{Placement}
use Rattle.map_canvas.specs.Choices.{laid_from}
use Rattle.match_error.specs.declared.error.Error.{Error}
use Rattle.patch_picks.specs.Lists.{fit_list, part_lists}

-- the placements of a box over all parts of a sample
abbrev pub box_list : Box3 → Cells → List Placement
box_list rect sample = part_lists (fit_list rect) sample

-- small enough to be multiplied
abbrev pub IsLow : Error → Type 0
IsLow error = error.sum ≤ 2 ^ 56

-- the errors of the placements that may be asked for have all the same count, and sums that can be
-- multiplied
pub record AreCounted (error : Placement → Error) (MayAsk : Placement → Type 0)
    (count : ℕ) : Type 0 where
  pub same : (placement : Placement) → MayAsk placement → (error placement).count ≡ count
  pub low : (placement : Placement) → MayAsk placement → IsLow (error placement)

-- the sum of the box laid from a place
abbrev pub sum_from : (Placement → Error) → Box3 → At → ℕ
sum_from error rect from = (error (laid_from rect from)).sum
