-- Marks by the indices of the cells.
use Rattle.std.proofs.Common.{◌≡◌, ℕ, ◌<◌, List, length, get_or, ap, sym, ◌∙◌, subst, Bool, true, false}
use Rattle.cells.specs.Boxes.{HasCells, cell_in}
use Rattle.cells.specs.Places.{plus}
use Rattle.cells.proofs.Raster.{place_at}
use Rattle.map_canvas.specs.declared.canvas.Placement.{Placement}
use Rattle.map_canvas.specs.Choices.{box_cell, box_count, chosen}
use Rattle.map_canvas.specs.Maps.{SourceMap, IsFilled}
use Rattle.map_canvas.proofs.ChoiceLaws.{box_index_of}
use Rattle.boxes.specs.Walks.{IsAtIndex}
use Rattle.boxes.proofs.Indices.{place_is}
use Rattle.costs.specs.Lawful.{AreMarks}
use Rattle.costs.proofs.Existence.{new_inside}

-- the cell at an index, by its counts
pub cell_at : (placement : Placement) (i x y f : ℕ) → IsAtIndex placement.rect.size i x y f → box_cell placement i ≡ cell_in placement.rect x y f
cell_at placement i x y f at = ap (plus placement.rect.corner) (place_is placement.rect.size i x y f at)

-- a marked cell is filled
pub marked_filled : (m : SourceMap) (placement : Placement) (held : List Bool) (i : ℕ) → HasCells placement.rect.size → i < box_count placement
    → AreMarks m placement held → get_or held i false ≡ true → IsFilled m (box_cell placement i)
marked_filled m placement held i some lt marks marked =
    marks.filled (box_cell placement i) (ap (chosen held) (box_index_of placement i (place_at placement.rect.size i some.w some.h lt)) ∙ marked)

-- marks that all are those of filled cells
pub marks_if : (m : SourceMap) (placement : Placement) (held : List Bool) → length held ≡ box_count placement
    → ((k : ℕ) → k < box_count placement → get_or held k false ≡ true → IsFilled m (box_cell placement k)) → AreMarks m placement held
marks_if m placement held count each = record {
  count = count;
  filled = λ p marked.
      let at = new_inside placement held p marked in
      subst (IsFilled m) (sym at.1.cell) (each at.0 at.1.below (sym (ap (chosen held) at.1.index) ∙ marked));
}
