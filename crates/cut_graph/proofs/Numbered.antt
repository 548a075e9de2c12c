-- Nodes given to cells: each with one more.
use Rattle.std.proofs.Common.{◌≡◌, ℕ, ◌+◌, ◌<◌, List, length, get_or, [], refl, sym, ap, ◌∙◌, subst, arith, Bool, true, false, ⊎_elim}
use Rattle.std.proofs.lemmas.Bool.{cases_lt}
use Rattle.std.specs.Prelude.{Option, Some, None, IsSome, unwrap_or, option_map, slice_index_or}
use mathlib.Core.Bool.{false≢true}
use Rattle.cells.specs.Places.{index_in, minus, spot, raster_index}
use Rattle.cells.specs.declared.place.At.{At}
use Rattle.cells.specs.declared.place.Box3.{Box3}
use Rattle.cells.specs.Boxes.{IsInBox, cell_in}
use Rattle.cells.proofs.BoxLaws.{plus_minus}
use Rattle.cells.proofs.Raster.{index_of_spot}
use Rattle.map_canvas.specs.declared.canvas.Placement.{Placement}
use Rattle.map_canvas.specs.Maps.{SourceMap, IsFilled, map_at}
use Rattle.costs.specs.Lawful.{is_held}
use Rattle.boxes.proofs.Indices.{at_counts}
use Rattle.boxes.specs.Pairs.{AreCounts, at_index}
use Rattle.cut_graph.specs.declared.numbering.Numbering.{Numbering}
use Rattle.cut_graph.specs.Building.{Adds, AreCellNodes, Gives, IsCellNode, IsNodeOf, IsStanding, Standing}
use Rattle.cut_graph.specs.Numberings.{IsNumbering}
use Rattle.cut_graph.proofs.Numbers.{get-end, get-left, length-end, numbering_end, numbering_none, numbering_own}

-- one node more that others have too
pub gives_end : (IsOne : ℕ → Type 0) (from node : ℕ) (was now : Numbering) → IsNumbering from was.next was.nodes.items → node < from → IsOne node → Adds node was.next was now → Gives IsOne from was now
gives_end IsOne from node was now is low one adds = record {
  node = node;
  one = one;
  items = adds.items;
  numbering = subst (λ next. IsNumbering from next now.nodes.items) (sym adds.free) (subst (IsNumbering from was.next) (sym adds.items) (numbering_end from was.next node was.nodes.items low is));
  room = adds.room;
}

-- and one of its own
pub gives_own : (IsOne : ℕ → Type 0) (from : ℕ) (was now : Numbering) → IsNumbering from was.next was.nodes.items → 0 < from → IsOne was.next → Adds was.next (was.next + 1) was now → Gives IsOne from was now
gives_own IsOne from was now is some one adds = record {
  node = was.next;
  one = one;
  items = adds.items;
  numbering = subst (λ next. IsNumbering from next now.nodes.items) (sym adds.free) (subst (IsNumbering from (was.next + 1)) (sym adds.items) (numbering_own from was.next was.nodes.items some is));
  room = adds.room;
}

-- the index of a cell in its box
pub index_in_box : (rect : Box3) (x y f : ℕ) → AreCounts rect.size x y f → index_in rect.size (minus (cell_in rect x y f) rect.corner) ≡ Some (raster_index rect.size x y f)
index_in_box rect x y f at = ap (index_in rect.size) (plus_minus rect.corner (spot x y f)) ∙ index_of_spot rect.size x y f at.column at.row at.frame

pub in_box : (rect : Box3) (x y f : ℕ) → AreCounts rect.size x y f → IsInBox rect (cell_in rect x y f)
in_box rect x y f at = subst IsSome (sym (index_in_box rect x y f at)) refl

-- a mark by the cell and by its index
pub held_by_index : (placement : Placement) (held : List Bool) (x y f : ℕ) → AreCounts placement.rect.size x y f
    → is_held placement held (cell_in placement.rect x y f) ≡ slice_index_or held (raster_index placement.rect.size x y f) false
held_by_index placement held x y f at = ap (λ o. unwrap_or (option_map (λ i. slice_index_or held i false) o) false) (index_in_box placement.rect x y f at)

-- a cell that isn't filled has no source
pub stands_unfilled : (m : SourceMap) (p : At) (b : Bool) → (b ≡ true → IsFilled m p) × (IsFilled m p → b ≡ true) → b ≡ false → map_at m p ≡ None
stands_unfilled m p b is isnt = none (map_at m p) (λ filled. false≢true (sym isnt ∙ is.1 filled))
  where
    none : (o : Option At) → (IsSome o → ⊥) → o ≡ None
    none None empty = refl
    none (Some from) empty = absurd (empty refl)

-- no cell yet
pub no_cells : (m : SourceMap) (placement : Placement) (held : List Bool) (cells : Numbering) → cells.nodes.items ≡ [] → cells.next ≡ 2 → AreCellNodes m placement held 0 cells
no_cells m placement held cells none next = record {
  count = ap length none;
  numbering = subst (λ n. IsNumbering 2 n cells.nodes.items) (sym next) (numbering_none 2 cells.nodes.items (omega arith) none);
  each = λ i lt. absurd (omega arith);
}

-- the nodes of one cell more
pub more_cells : (m : SourceMap) (placement : Placement) (held : List Bool) (x y f i : ℕ) (standing : Standing) (was now : Numbering)
    → AreCounts placement.rect.size x y f → raster_index placement.rect.size x y f ≡ i → IsStanding m placement held (cell_in placement.rect x y f) standing
    → AreCellNodes m placement held i was → Gives (IsNodeOf standing) 2 was now → AreCellNodes m placement held (i + 1) now
more_cells m placement held x y f i standing was now at index is cells gives = record {
  count = ap length gives.items ∙ length-end was.nodes.items gives.node ∙ ap (λ n. n + 1) cells.count;
  numbering = gives.numbering;
  each = λ k lt. subst (λ items. IsCellNode m placement held (cell k) (get_or items k 0)) (sym gives.items)
      (⊎_elim (λ before. subst (IsCellNode m placement held (cell k)) (sym (get-left was.nodes.items gives.node k (omega (arith, cells.count)))) (cells.each k before))
      (λ end. let last : k ≡ i = omega arith in
      subst (IsCellNode m placement held (cell k)) (sym (get-end was.nodes.items gives.node k (last ∙ sym cells.count)))
      (subst (λ p. IsCellNode m placement held p gives.node) (sym (at_counts placement.rect.size (cell_in placement.rect) x y f at.column at.row) ∙ ap cell (index ∙ sym last)) here))
      (cases_lt k i));
}
  where
    cell : ℕ → At
    cell = at_index placement.rect.size (cell_in placement.rect)

    here : IsCellNode m placement held (cell_in placement.rect x y f) gives.node
    here = record { standing = standing; is = is; node = gives.one }
