-- There is an admissible choice: the one of the unfilled cells. Where every cell is filled, a
-- choice of none is admissible.
use Rattle.std.proofs.Common.{◌≡◌, ℕ, ◌<◌, refl, ap, sym, ◌∙◌, arith, Bool, true, false, List}
use mathlib.Core.Bool.{false≢true}
use mathlib.Core.List.{map}
use Rattle.std.specs.List.{range_with_len}
use Rattle.std.proofs.lemmas.List.FromFn.{get_or-map-range_with_len}
use Rattle.std.specs.Prelude.{Option, Some, None, is_none, is_some, not}
use Rattle.cells.specs.declared.place.At.{At}
use Rattle.cells.specs.Places.{minus}
use Rattle.cells.specs.Boxes.{HoldsBox, IsInBox}
use Rattle.cells.proofs.Raster.{has_index, index_below, place_at}
use Rattle.cells.proofs.BoxTests.{box_has_cells, each_of_axes}
use Rattle.map_canvas.specs.declared.canvas.Placement.{Placement}
use Rattle.map_canvas.specs.Maps.{SourceMap, IsFilled, IsFull, map_at}
use Rattle.map_canvas.specs.Choices.{box_cell, box_count, box_index, chosen}
use Rattle.map_canvas.proofs.ChoiceLaws.{box_cell_of}
use Rattle.costs.specs.Lawful.{AreHeld, IsLawful, LeavesHeld, is_new}

-- a cell of a box has an index in it, and is the cell at that index
pub record IsCellAt (placement : Placement) (p : At) (i : ℕ) : Type 0 where
  pub index : box_index placement p ≡ Some i
  pub below : i < box_count placement
  pub cell : p ≡ box_cell placement i

pub cell_at_index : (placement : Placement) (p : At) (i : ℕ) → box_index placement p ≡ Some i → IsCellAt placement p i
cell_at_index placement p i index =
    let some = box_has_cells placement.rect p (ap is_some index) in
    let below = index_below placement.rect.size (minus p placement.rect.corner) i index in
    record { index = index; below = below; cell = box_cell_of placement p i (place_at placement.rect.size i some.w some.h below) index }

pub index_of_cell : (placement : Placement) (p : At) → IsInBox placement.rect p → (i : ℕ) × IsCellAt placement p i
index_of_cell placement p inside = (_, cell_at_index placement p _ (has_index (box_index placement p) 0 inside))

-- a cell that is new or held is in the box
pub new_inside : (placement : Placement) (choice : List Bool) (p : At) → is_new placement choice p ≡ true → (i : ℕ) × IsCellAt placement p i
new_inside placement choice p new = by (box_index placement p) refl
  where
    by : (i : Option ℕ) → box_index placement p ≡ i → (i : ℕ) × IsCellAt placement p i
    by None e = absurd (false≢true (sym (ap (chosen choice) e) ∙ new))
    by (Some i) e = (i, cell_at_index placement p i e)

module _ (m : SourceMap) (placement : Placement) where
  abbrev unfilled_cells : List Bool
  unfilled_cells = map (λ i. is_none (map_at m (box_cell placement i))) (range_with_len 0 (box_count placement))

  says : (p : At) (i : ℕ) → IsCellAt placement p i → is_new placement unfilled_cells p ≡ is_none (map_at m p)
  says p i at =
      ap (chosen unfilled_cells) at.index ∙ get_or-map-range_with_len (λ i. is_none (map_at m (box_cell placement i))) 0 (box_count placement) i i false at.below (omega arith)
      ∙ ap (λ q. is_none (map_at m q)) (sym at.cell)

  filled_old : (p : At) → IsInBox placement.rect p → IsFilled m p → is_new placement unfilled_cells p ≡ false
  filled_old p inside filled = let at = index_of_cell placement p inside in says p at.0 at.1 ∙ ap not filled

  unfilled_lawful : IsLawful m placement unfilled_cells
  unfilled_lawful = record {
    unfilled = λ p inside e. let at = index_of_cell placement p inside in says p at.0 at.1 ∙ ap is_none e;
    kept = λ p kept. filled_old p kept.inside kept.filled;
  }

  unfilled_held : (held : List Bool) → AreHeld m placement held → LeavesHeld placement held unfilled_cells
  unfilled_held held are p marked = let at = new_inside placement held p marked in filled_old p (ap is_some at.1.index) (are p marked)

  pub some_lawful : (held : List Bool) → AreHeld m placement held → (choice : List Bool) × (IsLawful m placement choice × LeavesHeld placement held choice)
  some_lawful held are = (unfilled_cells, (unfilled_lawful, unfilled_held held are))

  -- a choice of no new cell is admissible where every cell of the output is filled
  pub old_lawful : IsFull m → HoldsBox m.size placement.rect.corner placement.rect.size → (choice : List Bool) → ((p : At) → is_new placement choice p ≡ false) → IsLawful m placement choice
  old_lawful full holds choice old = record {
    unfilled = λ p inside e. absurd (false≢true (sym (ap is_some e) ∙ full p (each_of_axes m.size placement.rect holds p inside)));
    kept = λ p kept. old p;
  }
