-- What a reader has to trust: the lists of a box of the output and of a part of the sample, and the
-- placements that an offset between both stands for. (Own.)
use Rattle.std.specs.Prelude.{◌≡◌, ℕ, List}
use Rattle.cells.specs.declared.place.Box3.{Box3}
use Rattle.cells.specs.declared.place.Size.{Size}
use Rattle.cells.specs.Boxes.{cell_in}
use Rattle.cells.specs.Cells.{Cells, HasCell}
use Rattle.cells.specs.Places.{HasAxes, SumFits, spot}
use Rattle.boxes.specs.Pairs.{AreCounts}
use Rattle.map_canvas.specs.declared.canvas.Placement.{Placement}
use Rattle.map_canvas.specs.Maps.{SourceMap}
use Rattle.offset_errors.specs.Numbers.{box_number, part_number}
use Rattle.offset_errors.specs.Padded.{IsApart, IsShared, in_box, moved, numbers}

-- number j of each cell of a box of the output, as a list of n numbers
abbrev pub box_list : ℕ → Size → SourceMap → Cells → Box3 → ℕ → List ℕ
box_list n pad m sample rect j = numbers n pad (in_box rect.size (box_number m sample rect j))

-- number j of each cell of a part of the sample, after its lead
abbrev pub part_list : ℕ → Size → Size → Cells → Box3 → ℕ → List ℕ
part_list n pad lead sample part j =
    numbers n pad (moved lead part.size (part_number sample part.corner j))

-- the placement lays the part over the output at the offset of three counts: its box has a cell of the
-- box wherever the part has one there
pub record IsAtOffset (pad lead : Size) (rect part : Box3) (x y f : ℕ)
    (placement : Placement) : Type 0 where
  pub below : AreCounts pad x y f
  pub apart : IsApart pad rect.size lead x y f
  -- where the cells begin that both share: in the box, and in the part
  pub a : ℕ
  pub b : ℕ
  pub c : ℕ
  pub t : ℕ
  pub u : ℕ
  pub v : ℕ
  pub corner : placement.rect.corner ≡ cell_in rect a b c
  pub from : placement.from ≡ cell_in part t u v
  pub on_x : IsShared rect.size.w lead.w part.size.w x a placement.rect.size.w t
  pub on_y : IsShared rect.size.h lead.h part.size.h y b placement.rect.size.h u
  pub on_f : IsShared rect.size.f lead.f part.size.f f c placement.rect.size.f v

-- each cell of the box at a place of the sample has a cell there, and coordinates of 32 bits
pub record IsInSample (sample : Cells) (part : Box3) : Type 0 where
  pub axes : HasAxes part.size
  pub cells : (x y f : ℕ) → AreCounts part.size x y f → HasCell sample (cell_in part x y f)
  pub sums : (x y f : ℕ) → AreCounts part.size x y f → SumFits part.corner (spot x y f)
