-- The errors of one box of a transfer, for the contracts of this crate; nobody has to trust this
-- file. (Own.)
use Rattle.std.specs.Prelude.{◌≡◌, ◌≤◌, ◌+◌, ◌-◌, ◌*◌, ℕ}
use Rattle.limits.specs.declared.bounds.TheConstants.{GREATEST_ALPHA}
use Rattle.cells.specs.declared.place.Box3.{Box3}
use Rattle.cells.specs.declared.place.Size.{Size}
use Rattle.cells.specs.Cells.{Cells, IsOnePart}
use Rattle.map_canvas.specs.declared.canvas.Placement.{Placement}
use Rattle.map_canvas.specs.Canvases.{CanvasState}
use Rattle.map_canvas.specs.Choices.{Fits, laid_from}
use Rattle.match_error.specs.declared.error.Error.{Error}
use Rattle.match_error.specs.Errors.{error_sum}
use Rattle.patch_place.specs.declared.overlaps.Overlaps.{Overlaps}
use Rattle.patch_place.specs.BoxErrors.{IsLow}
use Rattle.patch_place.specs.Overlaps.{AreOverlaps, IsOverlap}
use Rattle.search_squares.specs.Eliminations.{AreSampleSums}
use Rattle.transfer.specs.declared.weighed.Weighed.{Weighed}
use Rattle.transfer.specs.declared.weighing.Weighing.{Weighing}
use Rattle.transfer.specs.Search.{ServesTransfer}
use Rattle.targets.specs.Targets.{IsTargetOf, by_target}

-- the box of the target, laid from the same place
abbrev pub aimed : Weighing → Placement → Placement
aimed e placement = laid_from e.first placement.from

-- the sum of a placement over a canvas
abbrev pub sum_over : Overlaps → Placement → ℕ
sum_over o placement = error_sum o.canvas.now.map o.sample.now placement

-- both sums of a placement, weighed
abbrev pub weighed_error : Weighing → Placement → Error
weighed_error e placement = record {
  sum = e.alpha * sum_over e.here placement
      + (100 - e.alpha) * sum_over e.there (aimed e placement);
  count = 1;
}

-- a placement that may be asked for here may be there, and its sum can be multiplied
pub record IsWeighing (e : Weighing) : Type 0 where
  pub alpha : e.alpha ≤ GREATEST_ALPHA
  pub here : AreOverlaps e.here
  pub there : AreOverlaps e.there
  pub sums : AreSampleSums e.here.sample.now e.there.sums.now
  pub aims : (placement : Placement) → IsOverlap e.here placement
      → IsOverlap e.there (aimed e placement)
  pub low : (placement : Placement) → IsOverlap e.here placement → IsLow (weighed_error e placement)

-- a placement that may be asked for
abbrev pub IsWeighed : Weighing → Placement → Type 0
IsWeighed e placement = IsOverlap e.here placement

-- these are the errors of a box of a canvas over a sample, by a target
pub record IsWeighingOf (alpha : ℕ) (target : Cells) (rect : Box3) (canvas : CanvasState)
    (sample : Cells) (e : Weighing) : Type 0 where
  pub ready : IsWeighing e
  pub canvas_is : e.here.canvas.now ≡ canvas
  pub sample_is : e.here.sample.now ≡ sample
  pub rect_is : e.here.rect ≡ rect
  pub errors : (placement : Placement) → placement.rect ≡ rect
      → Fits canvas.map.size sample placement
      → weighed_error e placement ≡ by_target alpha target sample canvas.map placement

-- what picks by a target ask for, for an output of a size and a sample
pub record ArePicksFor (picks : Weighed) (size : Size) (sample : Cells) : Type 0 where
  pub target : IsTargetOf size sample picks.target.now
  pub alpha : picks.alpha ≤ GREATEST_ALPHA
  pub part : IsOnePart sample
  pub serves : ServesTransfer sample picks.target.now picks.search.now
