-- The cells of a box by their counts, and what their nodes tell.
use Rattle.std.proofs.Common.{◌≡◌, ℕ, ◌+◌, ◌/◌, ◌%◌, ◌<◌, refl, ap, sym, ◌∙◌, arith, ⊎_elim, Bool, false, List}
use Rattle.std.proofs.lemmas.Bool.{cases_lt}
use Rattle.std.proofs.Math.Numerals.{add-one}
use borrow.Author.Tests.{ltb-true}
use Rattle.std.specs.Prelude.{Option, Some, None, is_some, slice_index, slice_index_or}
use Rattle.cells.specs.declared.place.At.{At}
use Rattle.cells.specs.declared.place.Size.{Size}
use Rattle.cells.specs.declared.place.Axis.{Axis}
use Rattle.cells.specs.declared.place.Axis.TheVariants.{X, Y, F}
use Rattle.cells.specs.Places.{cell_count, index_in, plus, spot, raster_index}
use Rattle.cells.specs.Neighbours.{unit_step}
use Rattle.cells.specs.Boxes.{HasCells, cell_in}
use Rattle.cells.proofs.Raster.{index_of_spot, place_at}
use Rattle.cells.proofs.BoxLaws.{plus_minus, step_of}
use Rattle.map_canvas.specs.declared.canvas.Placement.{Placement}
use Rattle.map_canvas.specs.Maps.{SourceMap, map_at}
use Rattle.map_canvas.specs.Choices.{box_cell, box_index, chosen}
use Rattle.map_canvas.proofs.ChoiceLaws.{box_index_of}
use Rattle.costs.specs.Lawful.{StaysOld, is_new}
use Rattle.boxes.specs.Pairs.{AreCounts, IsPair}
use Rattle.boxes.proofs.Cells.{next_suc_f, next_suc_x, next_suc_y, cell_inside}
use Rattle.cut_graph.specs.declared.places.Places.{Places}
use Rattle.cut_graph.specs.Nodes.{AreNodes, HasSeam, IsFreeAt, cell_node, seam_node}
use Rattle.cut_graph.specs.Pipes.{next_node}

pub counts_of : (size : Size) (i : ℕ) → HasCells size → i < cell_count size → AreCounts size (i % size.w) (i / size.w % size.h) (i / size.w / size.h)
counts_of size i some lt = let step = step_of size i some lt in record { column = step.x; row = step.y; frame = step.f }

pub cell_index : (placement : Placement) (x y f : ℕ) → AreCounts placement.rect.size x y f → box_index placement (cell_in placement.rect x y f) ≡ Some (raster_index placement.rect.size x y f)
cell_index placement x y f at = ap (index_in placement.rect.size) (plus_minus placement.rect.corner (spot x y f)) ∙ index_of_spot placement.rect.size x y f at.column at.row at.frame

pub is_new_at : (placement : Placement) (choice : List Bool) (x y f : ℕ) → AreCounts placement.rect.size x y f
    → is_new placement choice (cell_in placement.rect x y f) ≡ slice_index_or choice (raster_index placement.rect.size x y f) false
is_new_at placement choice x y f at = ap (chosen choice) (cell_index placement x y f at)

pub is_new_of : (placement : Placement) (choice : List Bool) (i : ℕ) → HasCells placement.rect.size → i < cell_count placement.rect.size
    → is_new placement choice (box_cell placement i) ≡ slice_index_or choice i false
is_new_of placement choice i some lt = ap (chosen choice) (box_index_of placement i (place_at placement.rect.size i some.w some.h lt))

-- the cell after another one, that makes a pair with it
pub record IsNext (placement : Placement) (places : Places) (axis : Axis) (x y f : ℕ) : Type 0 where
  pub column : ℕ
  pub row : ℕ
  pub frame : ℕ
  pub counts : AreCounts placement.rect.size column row frame
  pub cell : plus (cell_in placement.rect x y f) (unit_step axis) ≡ cell_in placement.rect column row frame
  pub node : next_node places placement.rect.size axis x y f ≡ cell_node places placement.rect.size column row frame

pub next_of : (placement : Placement) (places : Places) (axis : Axis) (x y f : ℕ) → IsPair placement.rect.size axis x y f → IsNext placement places axis x y f
next_of placement places X x y f pair = record {
  column = x + 1;
  row = y;
  frame = f;
  counts = record { column = ltb-true (x + 1) placement.rect.size.w pair.next; row = pair.counts.row; frame = pair.counts.frame };
  cell = next_suc_x placement.rect x y f ∙ ap (λ n. cell_in placement.rect n y f) (sym (add-one x));
  node = refl;
}
next_of placement places Y x y f pair = record {
  column = x;
  row = y + 1;
  frame = f;
  counts = record { column = pair.counts.column; row = ltb-true (y + 1) placement.rect.size.h pair.next; frame = pair.counts.frame };
  cell = next_suc_y placement.rect x y f ∙ ap (λ n. cell_in placement.rect x n f) (sym (add-one y));
  node = refl;
}
next_of placement places F x y f pair = record {
  column = x;
  row = y;
  frame = f + 1;
  counts = record { column = pair.counts.column; row = pair.counts.row; frame = ltb-true (f + 1) placement.rect.size.f pair.next };
  cell = next_suc_f placement.rect x y f ∙ ap (λ n. cell_in placement.rect x y n) (sym (add-one f));
  node = refl;
}

-- whether the node of a cell is in a set; no cell outside the box is
abbrev of_index : Places → (ℕ → Bool) → Option ℕ → Bool
of_index places side None = false
of_index places side (Some i) = side (slice_index places.cell_nodes i)

abbrev pub selects : Placement → Places → (ℕ → Bool) → At → Bool
selects placement places side p = of_index places side (box_index placement p)

pub selects_cell : (placement : Placement) (places : Places) (side : ℕ → Bool) (x y f : ℕ) → AreCounts placement.rect.size x y f
    → selects placement places side (cell_in placement.rect x y f) ≡ side (cell_node places placement.rect.size x y f)
selects_cell placement places side x y f at = ap (of_index places side) (cell_index placement x y f at)

pub selects_next : (placement : Placement) (places : Places) (side : ℕ → Bool) (axis : Axis) (x y f : ℕ) → IsPair placement.rect.size axis x y f
    → selects placement places side (plus (cell_in placement.rect x y f) (unit_step axis)) ≡ side (next_node places placement.rect.size axis x y f)
selects_next placement places side axis x y f pair =
    let next = next_of placement places axis x y f pair in
    ap (selects placement places side) next.cell ∙ selects_cell placement places side next.column next.row next.frame next.counts ∙ ap side (sym next.node)

module _ (m : SourceMap) (placement : Placement) (held : List Bool) (places : Places) (nodes : ℕ) (are : AreNodes m placement held places nodes) where
  node : ℕ → ℕ → ℕ → ℕ
  node = cell_node places placement.rect.size

  -- each cell has to stay old, is unfilled or is free
  kinds : (x y f : ℕ) → AreCounts placement.rect.size x y f → (StaysOld m placement held (cell_in placement.rect x y f) → ⊥) → (map_at m (cell_in placement.rect x y f) ≡ None → ⊥)
      → (IsFreeAt m placement held x y f → ⊥) → ⊥
  kinds x y f at not_old not_none not_free = by (map_at m (cell_in placement.rect x y f)) refl
    where
      by : (o : Option At) → map_at m (cell_in placement.rect x y f) ≡ o → ⊥
      by None e = not_none e
      by (Some a) e = not_free (record { counts = at; free = record { inside = cell_inside placement.rect x y f at; filled = ap is_some e; free = not_old } })

  -- only cells that have to stay old are at the source
  pub none_free : (x y f : ℕ) → AreCounts placement.rect.size x y f → (StaysOld m placement held (cell_in placement.rect x y f) → ⊥) → cell_node places placement.rect.size x y f ≡ 0 → ⊥
  none_free x y f at not_old source = kinds x y f at not_old (λ none. omega (arith, source, are.unfilled x y f at none)) (λ free. omega (arith, source, (are.free x y f free).above))

  pub node_below : (x y f : ℕ) → AreCounts placement.rect.size x y f → cell_node places placement.rect.size x y f < nodes
  node_below x y f at = ⊎_elim (λ lt. lt)
      (λ le. absurd (kinds x y f at (λ old. omega (arith, le, are.ends, are.old x y f at old)) (λ none. omega (arith, le, are.ends, are.unfilled x y f at none)) (λ free. omega (arith, le, (are.free x y f free).below))))
      (cases_lt (cell_node places placement.rect.size x y f) nodes)

  -- no other cell has the node of a free one
  pub cell_alone : (x y f a b c : ℕ) → AreCounts placement.rect.size x y f → IsFreeAt m placement held a b c → ((x ≡ a) × (y ≡ b) × (f ≡ c) → ⊥)
      → cell_node places placement.rect.size x y f ≡ cell_node places placement.rect.size a b c → ⊥
  cell_alone x y f a b c at free other same =
      let above = (are.free a b c free).above in
      kinds x y f at (λ old. omega (arith, same, above, are.old x y f at old)) (λ none. omega (arith, same, above, are.unfilled x y f at none)) (λ also. other (are.cells_apart x y f a b c also free same))

  -- no cell has the node of a seam
  pub seam_alone : (axis : Axis) (x y f a b c : ℕ) → AreCounts placement.rect.size x y f → HasSeam m placement axis a b c
      → cell_node places placement.rect.size x y f ≡ seam_node places placement.rect.size axis a b c → ⊥
  seam_alone axis x y f a b c at seam same =
      let above = (are.seam axis a b c seam).above in
      kinds x y f at (λ old. omega (arith, same, above, are.old x y f at old)) (λ none. omega (arith, same, above, are.unfilled x y f at none))
      (λ free. are.apart axis a b c x y f seam free (sym same))
