-- A reader need not trust this file: it says what each rule takes as known, and how far a walk has
-- come. (Own.)
use Rattle.std.specs.Prelude.{◌≡◌, ◌<◌, ◌+◌, ◌-◌, ◌*◌, ◌^◌, ◌-ℤ◌, ◌≤ℤ◌, ⊤, ℕ, ℤ, pos, Bool, true, false, List, IfSome, nat_lt, slice_index_or, if◌then◌else◌}
use Rattle.limits.specs.declared.bounds.TheConstants.{MOST_CELLS}
use Rattle.cells.specs.declared.place.At.{At}
use Rattle.cells.specs.declared.place.Axis.{Axis}
use Rattle.cells.specs.declared.place.Axis.TheVariants.{X, Y, F}
use Rattle.cells.specs.declared.place.Size.{Size}
use Rattle.cells.specs.Boxes.{HasCells, HoldsBox, cell_in}
use Rattle.cells.specs.Firsts.{Each}
use Rattle.cells.specs.Places.{IsSmall, raster_index}
use Rattle.cells.specs.Cells.{Cells, Holds, IsVolume}
use Rattle.map_canvas.specs.declared.canvas.Placement.{Placement}
use Rattle.map_canvas.specs.Maps.{IsMap, IsSource, SourceMap, map_at}
use Rattle.map_canvas.specs.Choices.{box_cell, new_source}
use Rattle.boxes.specs.declared.counts.Counts.{Counts}
use Rattle.boxes.specs.Pairs.{AreCounts, at_index, has_next}
use Rattle.boxes.specs.Sums.{signed_sum_to}
use Rattle.boxes.specs.Walks.{IsAtIndex}
use Rattle.costs.specs.Lawful.{StaysOld}
use Rattle.cut_check.specs.declared.bounds.Laid.{Laid}
use Rattle.cut_check.specs.declared.record.CutRecord.{CutRecord}
use Rattle.cut_check.specs.declared.record.Flow.{Flow}
use Rattle.cut_check.specs.Flows.{IsBoundedAt, LeavesNone, leaving, no_flow}
use Rattle.cut_check.specs.Records.{IsBalanced, IsPartWhere, Setting, choice_at, setting}

-- the box has a cell and lies in a map's output
pub record LiesIn (m : SourceMap) (placement : Placement) : Type 0 where
  pub map : IsMap m
  pub some : HasCells placement.rect.size
  pub small : IsSmall placement.rect.size
  pub inside : HoldsBox m.size placement.rect.corner placement.rect.size

-- and its sources lie in a sample
pub record LiesOver (m : SourceMap) (sample : Cells) (placement : Placement) : Type 0 where
  pub lies : LiesIn m placement
  pub volume : IsVolume sample
  pub sources : Holds sample placement.from placement.rect.size

-- the number is one of a row of the box, those of all frames counted together
abbrev pub IsRow : Size → ℕ → Type 0
IsRow size row = HasCells size × (row < size.h * size.f)

-- how many pairs the cell before another in its row is the first of
abbrev pub pairs_since_last : Size → ℕ → ℕ → ℕ
pairs_since_last size y f =
    1 + (if nat_lt (y + 1) size.h then 1 else 0) + (if nat_lt (f + 1) size.f then 1 else 0)

-- how many the cells from the one above a cell up to the one before it are the first of
abbrev pub pairs_since_above : Size → ℕ → ℕ → ℕ → ℕ
pairs_since_above size x y f =
    (size.w - 1) + (if nat_lt (y + 1) size.h then size.w else size.w - x)
    + (if nat_lt (f + 1) size.f then size.w else 0)

-- a walk has come to the cell at an index
abbrev pub IsAt : Size → ℕ → Counts → Type 0
IsAt size i at = IsAtIndex size i at.x at.y at.f

-- something holds of each cell before an index
abbrev pub EachBefore : Size → ℕ → (ℕ → ℕ → ℕ → Type 0) → Type 0
EachBefore size i Holds = (x y f : ℕ) → AreCounts size x y f → raster_index size x y f < i →
    Holds x y f

-- something holds of each axis
abbrev pub EachAxis : (Axis → Type 0) → Type 0
EachAxis Holds = (axis : Axis) → Holds axis

-- the pair of a cell along an axis, if it has one, is within its bounds
abbrev pub HoldsAlong : (At → At → ℕ) → SourceMap → CutRecord → ℕ → ℕ → ℕ → Axis → Type 0
HoldsAlong d m cut x y f axis = has_next cut.placement.rect.size axis x y f ≡ true
    → IsBoundedAt d m cut.placement cut.flows axis x y f

-- all pairs of a cell are
abbrev pub HoldsAt : (At → At → ℕ) → SourceMap → CutRecord → ℕ → ℕ → ℕ → Type 0
HoldsAt d m cut x y f = EachAxis (HoldsAlong d m cut x y f)

-- the cell at an index, if it has to stay old, isn't new
abbrev pub KeepsOld : SourceMap → CutRecord → List Bool → ℕ → Type 0
KeepsOld m cut held i =
    StaysOld m cut.placement held (box_cell cut.placement i) → choice_at cut i ≡ false

-- from a number on three pairs have no flow, as far as there are so many
pub record IsStill (flows : List Flow) (number : ℕ) : Type 0 where
  pub first : LeavesNone (slice_index_or flows number no_flow)
  pub second : LeavesNone (slice_index_or flows (number + 1) no_flow)
  pub third : LeavesNone (slice_index_or flows (number + 2) no_flow)

-- what a cell of the box has: its source before the placement, and its new one
pub record IsLaid (m : SourceMap) (placement : Placement) (x y f : ℕ) (laid : Laid) : Type 0 where
  pub old : laid.old ≡ map_at m (cell_in placement.rect x y f)
  pub new : laid.new ≡ new_source placement (cell_in placement.rect x y f)
  pub near_old : IfSome laid.old IsSource
  pub near_new : IsSource laid.new

-- something holds of each axis before one
abbrev pub HoldsBefore : (Axis → Type 0) → Axis → Type 0
HoldsBefore Holds X = ⊤
HoldsBefore Holds Y = Holds X
HoldsBefore Holds F = Holds X × Holds Y

-- the first axis of which something doesn't hold
pub record IsFirstAxis (Holds : Axis → Type 0) (axis : Axis) : Type 0 where
  pub before : HoldsBefore Holds axis
  pub here : Holds axis → ⊥

-- of each cell of the box what leaves it, if it has to stay old, and 0 otherwise
abbrev pub ArePartsOfValue : Setting → CutRecord → (ℕ → ℕ → ℕ → ℤ) → Type 0
ArePartsOfValue s cut part = (x y f : ℕ) → AreCounts cut.placement.rect.size x y f
    → IsPartWhere (StaysOld s.map cut.placement s.held (cell_in cut.placement.rect x y f))
    (leaving cut.placement.rect.size cut.flows x y f) (part x y f)

-- the most that leaves a cell along an axis, and altogether: sums of numbers of 16 bits
abbrev pub most_along : ℕ
most_along = 2 ^ 16

abbrev pub most_leaving : ℕ
most_leaving = 3 * most_along

-- the greatest value: that of as many cells as a box may have
abbrev pub most_value : ℕ
most_value = most_leaving * MOST_CELLS

-- of the cells before an index each is balanced, and the sum is that of what leaves those that have
-- to stay old
pub record IsSummed (m : SourceMap) (cut : CutRecord) (held : List Bool) (i : ℕ) (sum : ℤ) : Type 0 where
  pub balanced : (sample : Cells) → Each i (IsBalanced (setting m sample held) cut)
  pub total : (sample : Cells) (part : ℕ → ℕ → ℕ → ℤ)
      → ArePartsOfValue (setting m sample held) cut part
      → sum ≡ signed_sum_to i (at_index cut.placement.rect.size part)
  pub low : (pos 0 -ℤ pos (most_leaving * i)) ≤ℤ sum
  pub high : sum ≤ℤ pos (most_leaving * i)
