-- A reader has to trust this file. Which choices between old and new are admissible (`IsLawful`),
-- and which of them cost the least. (Kwatra et al. 2003, who hold the old pixels at the border of a
-- patch; cells that are held beside those are own.)
use Rattle.std.specs.Prelude.{◌≡◌, ◌≤◌, ◌+◌, ◌⊎◌, ℕ, Bool, true, false, List, [], length, Option, Some, None}
use Rattle.cells.specs.declared.place.At.{At}
use Rattle.cells.specs.Boxes.{IsInBox}
use Rattle.cells.specs.Places.{cell_count}
use Rattle.map_canvas.specs.declared.canvas.Placement.{Placement}
use Rattle.map_canvas.specs.Maps.{SourceMap, IsFilled, map_at}
use Rattle.map_canvas.specs.Choices.{after_at, box_index, chosen}
use Rattle.map_canvas.specs.Canvases.{IsKept}
use Rattle.costs.specs.Costs.{total_of, window_of}

-- what a choice says of a cell: whether it is new
abbrev pub is_new : Placement → List Bool → At → Bool
is_new placement choice p = chosen choice (box_index placement p)

-- what a list of marks, one for each cell of the box, says of a cell: whether it is held
abbrev pub is_held : Placement → List Bool → At → Bool
is_held placement held p = chosen held (box_index placement p)

-- the cell has to stay old: it is kept, for it is filled and has a filled neighbour outside the
-- box, or it is held
abbrev pub StaysOld : SourceMap → Placement → List Bool → At → Type 0
StaysOld m placement held p = IsKept m placement.rect p ⊎ (is_held placement held p ≡ true)

-- any other filled cell of the box is free
pub record IsFree (m : SourceMap) (placement : Placement) (held : List Bool) (p : At) : Type 0 where
  pub inside : IsInBox placement.rect p
  pub filled : IsFilled m p
  pub free : StaysOld m placement held p → ⊥

-- held cells are filled
abbrev pub AreHeld : SourceMap → Placement → List Bool → Type 0
AreHeld m placement held = (p : At) → is_held placement held p ≡ true → IsFilled m p

-- the marks of an optional list, which stand for no held cell where it is missing
abbrev pub held_marks : Option (List Bool) → List Bool
held_marks None = []
held_marks (Some held) = held

-- there is a mark for each cell of the box, and a marked cell is filled
pub record AreMarks (m : SourceMap) (placement : Placement) (held : List Bool) : Type 0 where
  pub count : length held ≡ cell_count placement.rect.size
  pub filled : AreHeld m placement held

-- each unfilled cell of the box is new, and no kept cell
pub record IsLawful (m : SourceMap) (placement : Placement) (choice : List Bool) : Type 0 where
  pub unfilled : (p : At) → IsInBox placement.rect p → map_at m p ≡ None →
      is_new placement choice p ≡ true
  pub kept : (p : At) → IsKept m placement.rect p → is_new placement choice p ≡ false

-- no held cell is new
abbrev pub LeavesHeld : Placement → List Bool → List Bool → Type 0
LeavesHeld placement held choice =
    (p : At) → is_held placement held p ≡ true → is_new placement choice p ≡ false

-- the total of the map after a choice
abbrev pub total_after : (At → At → ℕ) → SourceMap → Placement → List Bool → ℕ
total_after d m placement choice = total_of d m.size (after_at m placement choice)

-- the window sum of the box after a choice
abbrev pub window_after : (At → At → ℕ) → SourceMap → Placement → List Bool → ℕ
window_after d m placement choice = window_of d placement.rect (after_at m placement choice)

-- one of a kind, such that no other of the kind costs less
pub record CostsLeast (IsOne : List Bool → Type 0) (cost : List Bool → ℕ)
    (choice : List Bool) : Type 0 where
  pub one : IsOne choice
  pub least : (other : List Bool) → IsOne other → cost choice ≤ cost other

-- an admissible choice, such that no admissible choice leaves a smaller total
abbrev pub IsLeastChoice : (At → At → ℕ) → SourceMap → Placement → List Bool → Type 0
IsLeastChoice d m placement = CostsLeast (IsLawful m placement) (total_after d m placement)

-- the same among the admissible choices without a held cell
abbrev pub IsLeastHeld : (At → At → ℕ) → SourceMap → Placement → List Bool → List Bool → Type 0
IsLeastHeld d m placement held =
    CostsLeast (λ choice. IsLawful m placement choice × LeavesHeld placement held choice)
    (total_after d m placement)

-- two admissible choices change the total as they change the window sum of the box
abbrev pub ChangesAsWindow : (At → At → ℕ) → SourceMap → Placement → Type 0
ChangesAsWindow d m placement = (choice other : List Bool)
    → IsLawful m placement choice → IsLawful m placement other
    → total_after d m placement choice + window_after d m placement other
    ≡ total_after d m placement other + window_after d m placement choice
