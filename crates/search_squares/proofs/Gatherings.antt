-- The blocks that are gathered, and the cells that are free beside them.
use Rattle.std.proofs.Common.{◌≡◌, ℕ, ◌+◌, ◌*◌, ◌/◌, ◌%◌, ◌<◌, ◌≤◌, List, [], ◌∷◌, ◌++◌, get_or, length, ap, sym, ◌∙◌, subst, arith, ⊎_elim}
use Rattle.std.proofs.lemmas.Bool.{cases_lt, cases_eq, false≢true}
use Rattle.std.proofs.lemmas.List.{get_or_append_left, get_or_past, get_or_push, length_push}
use Rattle.std.proofs.lemmas.List.Elements.{All-nil, All-push}
use Rattle.std.proofs.lemmas.List.Sums.{sum_by_push}
use Rattle.std.specs.Prelude.{All, Bool, true, false, if◌then◌else◌}
use Rattle.std.specs.List.{sum_by}
use Rattle.cells.specs.declared.place.Box3.{Box3}
use Rattle.cells.specs.declared.place.Size.{Size}
use Rattle.cells.specs.Boxes.{HasCells}
use Rattle.cells.specs.Places.{cell_count, place_of, plus, spot}
use Rattle.cells.proofs.BoxLaws.{step_of}
use Rattle.boxes.specs.Sums.{sum_to}
use Rattle.boxes.proofs.Additions.{counts}
use Rattle.boxes.proofs.Axes.{sum_equal}
use Rattle.boxes.proofs.Bounds.{sum_at_most}
use Rattle.map_canvas.specs.Canvases.{CanvasState}
use Rattle.map_canvas.specs.Maps.{SourceMap, IsFilled}
use Rattle.search_squares.specs.declared.blocks.Block.{Block}
use Rattle.search_squares.specs.Blocks.{HasEntry, HasSumOf, IsBlockIn}
use Rattle.search_squares.specs.Gathered.{MarkFilled, AreGathered, HasBlockRoom, IsBlockFilled, IsFreeBlock, IsTaken, free_sum, place_sum, rows_sum}
use Rattle.search_squares.proofs.BlockPlaces.{place_in_block}

-- one more cell, which is free only where it is filled
pub more_filled : (m : SourceMap) (rect : Box3) (free : List Bool) (more : Bool) → (more ≡ true → IsFilled m (plus rect.corner (place_of rect.size (length free)))) → MarkFilled m rect free → MarkFilled m rect (free ++ more ∷ [])
more_filled m rect free more last before i is =
    ⊎_elim
    (λ lt. before i (sym (get_or_append_left free (more ∷ []) false i lt) ∙ is))
    (λ ge. ⊎_elim
    (λ same. subst (λ n. IsFilled m (plus rect.corner (place_of rect.size n))) (sym same) (last (sym (get_or_push free more false i (sym same)) ∙ is)))
    (λ other. absurd (false≢true (sym (get_or_past (free ++ more ∷ []) i false (omega (arith, length_push free more, ge, other))) ∙ is)))
    (cases_eq i (length free)))
    (cases_lt i (length free))

-- a sum over the free cells is at most that over all
free_within : (free : List Bool) (n : ℕ) (g : ℕ → ℕ) → length free ≡ n → free_sum free g ≤ sum_to n g
free_within free n g long =
    subst (λ m. free_sum free g ≤ sum_to m g) long (sum_at_most (length free) (λ i. if get_or free i false then g i else 0) g (λ i lt. kept (get_or free i false) (g i)))
  where
    kept : (b : Bool) (a : ℕ) → (if b then a else 0) ≤ a
    kept true a = omega arith
    kept false a = omega arith

-- no block
pub none_gathered : (canvas : CanvasState) (rect : Box3) (side : ℕ) (size : Size) (free : List Bool) → length free ≡ cell_count rect.size → MarkFilled canvas.map rect free → AreGathered canvas rect side size [] free
none_gathered canvas rect side size free long filled = record {
  long = long;
  rest = filled;
  inside = All-nil (IsBlockIn rect side);
  entries = All-nil (HasEntry size);
  sums = All-nil (HasSumOf canvas rect side);
  filled = All-nil (IsBlockFilled canvas.map rect side);
  disjoint = λ g. omega (arith, free_within free (cell_count rect.size) (λ i. g (place_of rect.size i)) long);
}

-- one more block
pub more_gathered : (canvas : CanvasState) (rect : Box3) (side : ℕ) (size : Size) (i end : ℕ) (blocks more : List Block) (block : Block) (free rest : List Bool)
    → HasCells rect.size → i < cell_count rect.size → HasBlockRoom rect.size i side → IsFreeBlock free i rect.size.w side
    → block.step ≡ place_of rect.size i → HasEntry size block → HasSumOf canvas rect side block → more ≡ blocks ++ block ∷ [] → IsTaken end (rows_sum i rect.size.w side side) free rest
    → AreGathered canvas rect side size blocks free → AreGathered canvas rect side size more rest
more_gathered canvas rect side size i end blocks more block free rest some lt room cells step entry has_sum is taken was = record {
  long = taken.long ∙ was.long;
  rest = λ j free. was.rest j (taken.fewer j free);
  inside = subst (All (IsBlockIn rect side)) (sym is) (All-push (IsBlockIn rect side) blocks block was.inside here);
  entries = subst (All (HasEntry size)) (sym is) (All-push (HasEntry size) blocks block was.entries entry);
  sums = subst (All (HasSumOf canvas rect side)) (sym is) (All-push (HasSumOf canvas rect side) blocks block was.sums has_sum);
  filled = subst (All (IsBlockFilled canvas.map rect side)) (sym is) (All-push (IsBlockFilled canvas.map rect side) blocks block was.filled all_filled);
  disjoint = λ g.
      let of_cells = λ (j : ℕ). g (place_of rect.size j) in
      let part : rows_sum i rect.size.w side side of_cells ≡ place_sum side g block = sum_equal counts side _ _ (λ y ly. sum_equal counts side _ _ (λ x lx. ap g (place x y lx ly))) in
      let all : sum_by (place_sum side g) more ≡ sum_by (place_sum side g) blocks + place_sum side g block = ap (sum_by (place_sum side g)) is ∙ sum_by_push (place_sum side g) blocks block in
      omega (arith, part, all, taken.sums of_cells, was.disjoint g);
}
  where
    here : IsBlockIn rect side block
    here = record {
      x = i % rect.size.w;
      y = i / rect.size.w % rect.size.h;
      f = i / rect.size.w / rect.size.h;
      step = step;
      columns = room.columns;
      rows = room.rows;
      frame = (step_of rect.size i some lt).f;
    }

    place : (x y : ℕ) → x < side → y < side → place_of rect.size (i + rect.size.w * y + x) ≡ plus block.step (spot x y 0)
    place x y lx ly = place_in_block rect.size i side x y room lx ly ∙ ap (λ p. plus p (spot x y 0)) (sym step)

    all_filled : IsBlockFilled canvas.map rect side block
    all_filled x y lx ly = subst (λ p. IsFilled canvas.map (plus rect.corner p)) (place x y lx ly) (was.rest _ (cells y ly x lx))
