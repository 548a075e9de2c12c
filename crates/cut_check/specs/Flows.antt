-- A reader has to trust this file. The flow of a cut record: two numbers for each pair of the box,
-- in the order of the pairs. (Own, from the arcs of Kwatra et al. 2003 between neighbours and to
-- their seam.)
use Rattle.std.specs.Prelude.{◌≡◌, ℕ, zero, suc, ℤ, pos, ◌+ℤ◌, ◌-ℤ◌, ◌≤ℤ◌, List, Option, Some, None, slice_index_or, if◌then◌else◌}
use Rattle.cells.specs.declared.place.At.{At}
use Rattle.cells.specs.declared.place.Size.{Size}
use Rattle.cells.specs.declared.place.Axis.{Axis}
use Rattle.cells.specs.declared.place.Axis.TheVariants.{X, Y, F}
use Rattle.cells.specs.Places.{plus}
use Rattle.cells.specs.Neighbours.{unit_step}
use Rattle.cells.specs.Boxes.{cell_in}
use Rattle.map_canvas.specs.declared.canvas.Placement.{Placement}
use Rattle.map_canvas.specs.Maps.{SourceMap, map_at}
use Rattle.map_canvas.specs.Choices.{new_source}
use Rattle.costs.specs.Costs.{seam}
use Rattle.boxes.specs.Pairs.{has_next, pair_number}
use Rattle.cut_check.specs.declared.record.Flow.{Flow}

abbrev pub no_flow : Flow
no_flow = record { x = pos 0; y = pos 0 }

-- the flow of a cell and the next one along an axis: x is what leaves the cell, y what comes to the
-- next one
abbrev pub pair_flow : Size → List Flow → Axis → ℕ → ℕ → ℕ → Flow
pair_flow size flows axis x y f =
    if has_next size axis x y f
    then slice_index_or flows (pair_number size axis x y f) no_flow else no_flow

-- the flow of the cell before this one along an axis, and this one
abbrev pub flow_into : Size → List Flow → Axis → ℕ → ℕ → ℕ → Flow
flow_into size flows X zero y f = no_flow
flow_into size flows X (suc x) y f = pair_flow size flows X x y f
flow_into size flows Y x zero f = no_flow
flow_into size flows Y x (suc y) f = pair_flow size flows Y x y f
flow_into size flows F x y zero = no_flow
flow_into size flows F x y (suc f) = pair_flow size flows F x y f

-- what leaves a cell along an axis: to the next cell, less what comes from the cell before
abbrev pub leaving_along : Size → List Flow → Axis → ℕ → ℕ → ℕ → ℤ
leaving_along size flows axis x y f =
    (pair_flow size flows axis x y f).x -ℤ (flow_into size flows axis x y f).y

-- what leaves a cell
abbrev pub leaving : Size → List Flow → ℕ → ℕ → ℕ → ℤ
leaving size flows x y f =
    (leaving_along size flows X x y f +ℤ leaving_along size flows Y x y f)
    +ℤ leaving_along size flows F x y f

-- a signed number between two others
abbrev pub IsBetween : ℤ → ℤ → ℤ → Type 0
IsBetween low high z = (low ≤ℤ z) × (z ≤ℤ high)

-- the number with its sign turned
abbrev pub minus_of : ℕ → ℤ
minus_of n = pos 0 -ℤ pos n

-- the bounds of a pair with both cells filled: the costs of old and new, new and old, old and old
pub record IsBetweenOld (old_new new_old old_old : ℕ) (flow : Flow) : Type 0 where
  pub x : IsBetween (minus_of old_new) (pos old_new) flow.x
  pub y : IsBetween (minus_of new_old) (pos new_old) flow.y
  pub seam : IsBetween (pos 0) (pos old_old) (flow.x -ℤ flow.y)

-- with the first cell filled alone
pub record LeavesFirst (old_new : ℕ) (flow : Flow) : Type 0 where
  pub x : IsBetween (pos 0) (pos old_new) flow.x
  pub y : flow.y ≡ pos 0

-- with the second cell filled alone
pub record LeavesSecond (new_old : ℕ) (flow : Flow) : Type 0 where
  pub x : flow.x ≡ pos 0
  pub y : IsBetween (minus_of new_old) (pos 0) flow.y

-- with neither filled
pub record LeavesNone (flow : Flow) : Type 0 where
  pub x : flow.x ≡ pos 0
  pub y : flow.y ≡ pos 0

-- the bounds of a pair along an axis, by the sources of its cells before and their new ones
abbrev pub IsBounded : (At → At → ℕ) → Axis → Option At → Option At → At → At → Flow → Type 0
IsBounded d axis (Some a) (Some b) new_a new_b =
    IsBetweenOld (seam d axis a new_b) (seam d axis new_a b) (seam d axis a b)
IsBounded d axis (Some a) None new_a new_b = LeavesFirst (seam d axis a new_b)
IsBounded d axis None (Some b) new_a new_b = LeavesSecond (seam d axis new_a b)
IsBounded d axis None None new_a new_b = LeavesNone

-- the bounds of the pair of two cells of a placement
abbrev pub IsBoundedOn : (At → At → ℕ) → SourceMap → Placement → Axis → At → At → Flow → Type 0
IsBoundedOn d m placement axis s t =
    IsBounded d axis (map_at m s) (map_at m t) (new_source placement s) (new_source placement t)

-- those of a cell, by its counts from the corner, and the next one
abbrev pub IsBoundedAt : (At → At → ℕ) → SourceMap → Placement → List Flow
    → Axis → ℕ → ℕ → ℕ → Type 0
IsBoundedAt d m placement flows axis x y f =
    IsBoundedOn d m placement axis (cell_in placement.rect x y f)
    (plus (cell_in placement.rect x y f) (unit_step axis))
    (pair_flow placement.rect.size flows axis x y f)
