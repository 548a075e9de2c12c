-- From a placement of the whole output to the map of one more picture, and the first map.
use Rattle.std.proofs.Common.{◌≡◌, ℕ, List, Bool, ap, sym, ◌∙◌, subst, arith}
use Rattle.std.proofs.lemmas.Int.{ints}
use Rattle.std.specs.Prelude.{ℤ, pos, ◌+ℤ◌, Some}
use Rattle.cells.specs.declared.place.At.{At}
use Rattle.cells.specs.Cells.{Cells, HasCell, IsVolume}
use Rattle.cells.specs.Distances.{distance}
use Rattle.cells.specs.Places.{IsInside, cell_count}
use Rattle.cells.proofs.CellLaws.{indexed_has_cell}
use Rattle.map_canvas.specs.declared.canvas.Placement.{Placement}
use Rattle.map_canvas.specs.Canvases.{CanvasState}
use Rattle.map_canvas.specs.Choices.{map_after}
use Rattle.map_canvas.specs.Maps.{IsFull, IsMap, IsOver, SourceMap}
use Rattle.map_canvas.proofs.Filling.{cell_is_source}
use Rattle.costs.specs.Lawful.{AreMarks}
use Rattle.cut_check.specs.declared.record.CutRecord.{CutRecord}
use Rattle.least_choice.specs.Fewest.{IsFewestHeld}
use Rattle.graph_place.specs.Placed.{IsPlaced}
use Rattle.photo_merge.specs.Marks.{earlier_marks}
use Rattle.photo_merge.specs.Merges.{AreOneSize, MergesNext, first_map, same_place, whole_from, without}
use Rattle.photo_merge.proofs.MapsOver.{filled_inside, over_is_map, over_source}
use Rattle.photo_merge.proofs.Nexts.{marks_are_held}
use Rattle.photo_merge.proofs.Wholes.{same_inside}

-- what is placed over the map without the picture's cells is the next map of a merge
pub placed_next : (pictures marks : Cells) (number : ℕ) (m : SourceMap) (before after : CanvasState) (placement : Placement) (held : List Bool) (cut : CutRecord)
    → before.map ≡ without m marks number → placement ≡ whole_from pictures number m.size → held ≡ earlier_marks marks m.size number
    → IsPlaced before pictures placement held after cut → MergesNext pictures marks number m after.map
placed_next pictures marks number m before after placement held cut map_is placement_is held_is placed = record {
  choice = cut.choice;
  count = placed.choice_count ∙ ap (λ (p : Placement). cell_count p.rect.size) placement_is;
  fewest = subst (λ h. IsFewestHeld (distance pictures) (without m marks number) (whole_from pictures number m.size) h cut.choice) held_is
      (subst (λ p. IsFewestHeld (distance pictures) (without m marks number) p held cut.choice) placement_is
      (subst (λ b. IsFewestHeld (distance pictures) b placement held cut.choice) map_is placed.fewest));
  after_is = placed.map ∙ (λ i. map_after (map_is i) (placement_is i) cut.choice);
}

-- the marks of earlier pictures are those of a placement of the whole over the map without the picture's cells
pub held_there : (pictures marks : Cells) (number : ℕ) (m before : SourceMap) (placement : Placement) (held : List Bool) → IsFull m
    → before ≡ without m marks number → placement ≡ whole_from pictures number m.size → held ≡ earlier_marks marks m.size number → AreMarks before placement held
held_there pictures marks number m before placement held full before_is placement_is held_is =
    subst (AreMarks before placement) (sym held_is)
    (subst (λ p. AreMarks before p (earlier_marks marks m.size number)) (sym placement_is)
    (subst (λ b. AreMarks b (whole_from pictures number m.size) (earlier_marks marks m.size number)) (sym before_is) (marks_are_held pictures marks number m full)))

-- the same place of the first picture is the place itself
pub first_place : (pictures : Cells) (p : At) → same_place pictures 1 p ≡ p
first_place pictures p = λ k. record { x = p.x; y = p.y; f = same p.f k }
  where
    same : (z : ℤ) → z +ℤ pos 0 ≡ z
    same z = omega (arith, ints)

module _ (pictures : Cells) (volume : IsVolume pictures) (one : AreOneSize pictures) where
  has_cell : (p : At) → IsInside pictures.size p → HasCell pictures (same_place pictures 1 p)
  has_cell p inside = indexed_has_cell pictures volume.count (same_place pictures 1 p) (same_inside pictures one 1 (omega arith) (omega arith) p inside)

  pub first_over : IsOver (first_map pictures) pictures
  first_over p from e =
      let inside = filled_inside (λ q. Some (same_place pictures 1 q)) pictures.size p from e in
      let source : Some (same_place pictures 1 p) ≡ Some from = over_source (λ q. Some (same_place pictures 1 q)) pictures.size p from e in
      let same : same_place pictures 1 p ≡ from = cc in
      subst (HasCell pictures) same (has_cell p inside)

  pub first_is_map : IsMap (first_map pictures)
  first_is_map = over_is_map (λ q. Some (same_place pictures 1 q)) pictures.size volume.small (λ p inside. cell_is_source pictures volume (same_place pictures 1 p) (has_cell p inside))
