-- Boxes as they are counted, for the contracts within the crate. Nobody has to trust this file.
-- (Own.)
use Rattle.std.specs.Prelude.{◌≡◌, ◌≤◌, ℕ, Option, Some, None}
use Rattle.cells.specs.declared.place.At.{At}
use Rattle.cells.specs.declared.place.Box3.{Box3}
use Rattle.cells.specs.declared.place.Size.{Size}
use Rattle.cells.specs.Cells.{Cells}
use Rattle.cells.specs.Places.{spot}
use Rattle.boxes.specs.declared.spans.Span.{Span}
use Rattle.boxes.specs.Spans.{grid_on, patch_corner}
use Rattle.limits.specs.declared.bounds.TheConstants.{GREATEST_AXIS}
use Rattle.patch_picks.specs.Lists.{placed}
use Rattle.grown.specs.declared.limit.Kind.{Kind}
use Rattle.grown.specs.declared.limit.Kind.TheVariants.{Copies, Patches}
use Rattle.grown.specs.declared.limit.Boxes.{Boxes}
use Rattle.grown.specs.declared.plan.GrowPlan.{GrowPlan}
use Rattle.grown.specs.BoxLimit.{plan_box}

-- along an axis, the box for the coordinate q
abbrev pub span_on : Kind → ℕ → ℕ → ℕ → ℕ → Span
span_on Copies T len overlap q = grid_on T len overlap q
span_on Patches T len overlap q =
    record { corner = patch_corner T len overlap q; len = len; from = 0 }

-- a box has a cell on an axis, and a patch is no longer than the output
abbrev pub HasLen : Kind → ℕ → ℕ → Type 0
HasLen Copies T len = (1 ≤ len) × (len ≤ GREATEST_AXIS)
HasLen Patches T len = (1 ≤ len) × (len ≤ T)

pub record HasLens (boxes : Boxes) (output : Size) : Type 0 where
  pub w : HasLen boxes.kind output.w boxes.len.w
  pub h : HasLen boxes.kind output.h boxes.len.h
  pub f : HasLen boxes.kind output.f boxes.len.f

-- the box for three counts
abbrev pub box_at : Boxes → Size → ℕ → ℕ → ℕ → Box3
box_at boxes output x y f = (placed
    (span_on boxes.kind output.w boxes.len.w boxes.overlap x)
    (span_on boxes.kind output.h boxes.len.h boxes.overlap y)
    (span_on boxes.kind output.f boxes.len.f boxes.overlap f)).rect

-- these are the boxes for the cells of an output
abbrev pub AreBoxes : Boxes → Size → (At → Option Box3) → Type 0
AreBoxes boxes output box =
    (x y f : ℕ) → box (spot x y f) ≡ Some (box_at boxes output x y f)

-- the boxes of a plan; nothing where sizes don't say them
abbrev pub AreBoxesOf : GrowPlan → Cells → Option Boxes → Type 0
AreBoxesOf plan sample None = (q : At) → plan_box plan sample q ≡ None
AreBoxesOf plan sample (Some boxes) =
    HasLens boxes plan.size × AreBoxes boxes plan.size (plan_box plan sample)
