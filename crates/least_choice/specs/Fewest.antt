-- To be trusted: the least choice with the fewest old cells. (Own: of the least cuts of Kwatra et
-- al. 2003
-- the one with the smallest source side.)
use Rattle.std.specs.Prelude.{◌≡◌, ◌≤◌, ℕ, Bool, not, List, Option, Some, None, length}
use Rattle.cells.specs.declared.place.At.{At}
use Rattle.cells.specs.Boxes.{HasCells, IsInBox, cell_in}
use Rattle.cells.specs.Places.{cell_count}
use Rattle.map_canvas.specs.declared.canvas.Placement.{Placement}
use Rattle.map_canvas.specs.Maps.{SourceMap}
use Rattle.boxes.specs.Sums.{sum_box}
use Rattle.costs.specs.Lawful.{IsLeastChoice, IsLeastHeld, is_new}
use Rattle.boxes.specs.Pairs.{one_if}

-- how many cells of the box a choice leaves old
abbrev pub old_count : Placement → List Bool → ℕ
old_count placement choice =
    sum_box placement.rect.size
    (λ x y f. one_if (not (is_new placement choice (cell_in placement.rect x y f))))

-- two choices say the same of each cell of the box
abbrev pub AreSame : Placement → List Bool → List Bool → Type 0
AreSame placement choice other =
    (p : At) → IsInBox placement.rect p → is_new placement choice p ≡ is_new placement other p

-- least of the admissible choices without a held cell; of the least ones it has the fewest old
-- cells, and no other has as few
pub record IsFewestHeld (d : At → At → ℕ) (m : SourceMap) (placement : Placement)
    (held choice : List Bool) : Type 0 where
  pub least : IsLeastHeld d m placement held choice
  pub fewest : (other : List Bool) → IsLeastHeld d m placement held other
      → old_count placement choice ≤ old_count placement other
  pub only : (other : List Bool) → IsLeastHeld d m placement held other
      → old_count placement other ≤ old_count placement choice → AreSame placement choice other

-- least of all admissible choices where no marks are given, otherwise of those without a held cell
abbrev pub IsLeastWith :
    (At → At → ℕ) → SourceMap → Placement → Option (List Bool) → List Bool → Type 0
IsLeastWith d m placement None choice = IsLeastChoice d m placement choice
IsLeastWith d m placement (Some held) choice = IsLeastHeld d m placement held choice

-- there is one such choice with an entry for each cell of the box
abbrev pub ThereIsOneFewest : Type 0
ThereIsOneFewest =
    (d : At → At → ℕ) (m : SourceMap) (placement : Placement) (held one other : List Bool)
    → HasCells placement.rect.size
    → length one ≡ cell_count placement.rect.size → length other ≡ cell_count placement.rect.size
    → IsFewestHeld d m placement held one → IsFewestHeld d m placement held other → one ≡ other
