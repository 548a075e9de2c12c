-- A reader has to trust this file. Cut records: a placement, a choice, and a flow that shows that
-- the choice is least. (Own, from the cuts of Kwatra et al. 2003; that a flow bounds every cut is
-- Ford and Fulkerson 1956.)
use Rattle.std.specs.Prelude.{◌≡◌, ◌⊎◌, ◌+◌, ℕ, ℤ, pos, Bool, true, false, List, [], ◌∷◌, None, slice_index_or}
use Rattle.cells.specs.declared.place.Axis.{Axis}
use Rattle.cells.specs.Places.{cell_count}
use Rattle.cells.specs.Cells.{Cells}
use Rattle.cells.specs.Distances.{distance}
use Rattle.cells.specs.Firsts.{Each, IsFirstWithout}
use Rattle.cells.specs.Boxes.{cell_in}
use Rattle.map_canvas.specs.Maps.{SourceMap, map_at}
use Rattle.map_canvas.specs.Choices.{Fits, box_cell, box_count}
use Rattle.boxes.specs.Sums.{signed_sum_box}
use Rattle.costs.specs.Lawful.{IsFree, StaysOld, window_after}
use Rattle.boxes.specs.Pairs.{AreCounts, at_index, has_next, pair_count, pair_number}
use Rattle.cut_check.specs.declared.record.TheConstants.{FIT_RULE, FILL_RULE, KEEP_RULE, BOUNDS_RULE, BALANCE_RULE, VALUE_RULE}
use Rattle.cut_check.specs.declared.record.CutRecord.{CutRecord}
use Rattle.cut_check.specs.declared.record.CutFault.{CutFault}
use Rattle.cut_check.specs.Flows.{IsBoundedAt, leaving}

-- the cells of the boxes of records, all together
abbrev pub box_cells : List CutRecord → ℕ
box_cells [] = 0
box_cells (cut ∷ cuts) = box_count cut.placement + box_cells cuts

-- what a record is judged against: the map before the placement, the sample, and the marks of the
-- held cells
pub record Setting : Type 0 where
  pub map : SourceMap
  pub sample : Cells
  pub held : List Bool

abbrev pub setting : SourceMap → Cells → List Bool → Setting
setting m sample held = record { map = m; sample = sample; held = held }

-- what the choice of a record says of the cell at an index
abbrev pub choice_at : CutRecord → ℕ → Bool
choice_at cut i = slice_index_or cut.choice i false

-- rule 2: an unfilled cell is new
abbrev pub FillsUnfilled : Setting → CutRecord → ℕ → Type 0
FillsUnfilled s cut i = map_at s.map (box_cell cut.placement i) ≡ None → choice_at cut i ≡ true

-- rule 3: a cell that has to stay old isn't new
abbrev pub LeavesOld : Setting → CutRecord → ℕ → Type 0
LeavesOld s cut i =
    StaysOld s.map cut.placement s.held (box_cell cut.placement i) → choice_at cut i ≡ false

-- rule 4: the flow of the pair of a number is within its bounds
abbrev pub IsBoundedPair : Setting → CutRecord → ℕ → Type 0
IsBoundedPair s cut number = (axis : Axis) (x y f : ℕ) → AreCounts cut.placement.rect.size x y f
    → has_next cut.placement.rect.size axis x y f ≡ true
    → pair_number cut.placement.rect.size axis x y f ≡ number
    → IsBoundedAt (distance s.sample) s.map cut.placement cut.flows axis x y f

-- rule 5: what leaves a free cell is 0
abbrev pub IsBalanced : Setting → CutRecord → ℕ → Type 0
IsBalanced s cut i =
    IsFree s.map cut.placement s.held (box_cell cut.placement i)
    → at_index cut.placement.rect.size (leaving cut.placement.rect.size cut.flows) i ≡ pos 0

-- a number where something holds, and 0 elsewhere
pub record IsPartWhere (Holds : Type 0) (z part : ℤ) : Type 0 where
  pub here : Holds → part ≡ z
  pub elsewhere : (Holds → ⊥) → part ≡ pos 0

-- the value of a flow: the sum of what leaves the cells that have to stay old
pub record IsValue (s : Setting) (cut : CutRecord) (value : ℤ) : Type 0 where
  pub part : ℕ → ℕ → ℕ → ℤ
  pub parts : (x y f : ℕ) → AreCounts cut.placement.rect.size x y f
      → IsPartWhere (StaysOld s.map cut.placement s.held (cell_in cut.placement.rect x y f))
      (leaving cut.placement.rect.size cut.flows x y f) (part x y f)
  pub sum : signed_sum_box cut.placement.rect.size part ≡ value

-- rule 6: the value is the window sum of the box after the choice
abbrev pub HasValue : Setting → CutRecord → Type 0
HasValue s cut =
    IsValue s cut (pos (window_after (distance s.sample) s.map cut.placement cut.choice))

-- each cell or pair of the box keeps a rule
abbrev pub FillsAll : Setting → CutRecord → Type 0
FillsAll s cut = Each (cell_count cut.placement.rect.size) (FillsUnfilled s cut)

abbrev pub LeavesAllOld : Setting → CutRecord → Type 0
LeavesAllOld s cut = Each (cell_count cut.placement.rect.size) (LeavesOld s cut)

abbrev pub BoundsAll : Setting → CutRecord → Type 0
BoundsAll s cut = Each (pair_count cut.placement.rect.size) (IsBoundedPair s cut)

abbrev pub BalancesAll : Setting → CutRecord → Type 0
BalancesAll s cut = Each (cell_count cut.placement.rect.size) (IsBalanced s cut)

-- the rules that come before those of flows
pub record IsLawfulCut (s : Setting) (cut : CutRecord) : Type 0 where
  pub fits : Fits s.map.size s.sample cut.placement
  pub unfilled : FillsAll s cut
  pub old : LeavesAllOld s cut

-- the record stands
pub record CutStands (s : Setting) (cut : CutRecord) : Type 0 where
  pub lawful : IsLawfulCut s cut
  pub bounded : BoundsAll s cut
  pub balanced : BalancesAll s cut
  pub value : HasValue s cut

-- the first cell or pair of the box that breaks a rule
abbrev pub IsFirstUnfilled : Setting → CutRecord → ℕ → Type 0
IsFirstUnfilled s cut = IsFirstWithout (cell_count cut.placement.rect.size) (FillsUnfilled s cut)

abbrev pub IsFirstNotOld : Setting → CutRecord → ℕ → Type 0
IsFirstNotOld s cut = IsFirstWithout (cell_count cut.placement.rect.size) (LeavesOld s cut)

abbrev pub IsFirstUnbounded : Setting → CutRecord → ℕ → Type 0
IsFirstUnbounded s cut = IsFirstWithout (pair_count cut.placement.rect.size) (IsBoundedPair s cut)

abbrev pub IsFirstUnbalanced : Setting → CutRecord → ℕ → Type 0
IsFirstUnbalanced s cut = IsFirstWithout (cell_count cut.placement.rect.size) (IsBalanced s cut)

-- rule 1: the placement doesn't fit
pub record BreaksFit (s : Setting) (cut : CutRecord) (fault : CutFault) : Type 0 where
  pub kind : fault.kind ≡ FIT_RULE
  pub place : fault.place ≡ 0
  pub outside : Fits s.map.size s.sample cut.placement → ⊥

-- rule 2: an unfilled cell that isn't new
pub record BreaksFilling (s : Setting) (cut : CutRecord) (fault : CutFault) : Type 0 where
  pub kind : fault.kind ≡ FILL_RULE
  pub fits : Fits s.map.size s.sample cut.placement
  pub place : IsFirstUnfilled s cut fault.place

-- rule 3: a new cell that has to stay old
pub record BreaksKeeping (s : Setting) (cut : CutRecord) (fault : CutFault) : Type 0 where
  pub kind : fault.kind ≡ KEEP_RULE
  pub fits : Fits s.map.size s.sample cut.placement
  pub unfilled : FillsAll s cut
  pub place : IsFirstNotOld s cut fault.place

-- rule 4: a pair whose flow is past a bound
pub record BreaksBounds (s : Setting) (cut : CutRecord) (fault : CutFault) : Type 0 where
  pub kind : fault.kind ≡ BOUNDS_RULE
  pub lawful : IsLawfulCut s cut
  pub place : IsFirstUnbounded s cut fault.place

-- rule 5: a free cell that something leaves
pub record BreaksBalance (s : Setting) (cut : CutRecord) (fault : CutFault) : Type 0 where
  pub kind : fault.kind ≡ BALANCE_RULE
  pub lawful : IsLawfulCut s cut
  pub bounded : BoundsAll s cut
  pub place : IsFirstUnbalanced s cut fault.place

-- rule 6: another value
pub record BreaksValue (s : Setting) (cut : CutRecord) (fault : CutFault) : Type 0 where
  pub kind : fault.kind ≡ VALUE_RULE
  pub place : fault.place ≡ 0
  pub lawful : IsLawfulCut s cut
  pub bounded : BoundsAll s cut
  pub balanced : BalancesAll s cut
  pub value : HasValue s cut → ⊥

-- the first broken rule, and the first place where it is broken
abbrev pub IsFirstCutFault : Setting → CutRecord → CutFault → Type 0
IsFirstCutFault s cut fault =
    BreaksFit s cut fault ⊎ (BreaksFilling s cut fault ⊎ (BreaksKeeping s cut fault
    ⊎ (BreaksBounds s cut fault ⊎ (BreaksBalance s cut fault ⊎ BreaksValue s cut fault))))
