-- Cells of a box that are blocks by themselves.
use Rattle.std.proofs.Common.{◌≡◌, ℕ, zero, suc, ◌+◌, ◌*◌, ◌/◌, ◌%◌, ◌<◌, List, [], ◌∷◌, ◌++◌, length, get_or, set, take, drop, refl, ap, sym, ◌∙◌, subst, arith}
use Rattle.std.proofs.lemmas.List.{get_or-set_other}
use Rattle.std.specs.Prelude.{Bool, true, false, sum}
use Rattle.cells.specs.declared.place.Box3.{Box3}
use Rattle.cells.specs.declared.place.Size.{Size}
use Rattle.cells.specs.Boxes.{HasCells, HoldsBox}
use Rattle.cells.specs.Cells.{Holds, row_at}
use Rattle.cells.specs.Places.{cell_count, place_of, plus, spot}
use Rattle.cells.proofs.PartBoxes.{box_held}
use Rattle.map_canvas.specs.Canvases.{CanvasState, IsCanvas}
use Rattle.search_squares.specs.declared.blocks.Block.{Block}
use Rattle.search_squares.specs.Blocks.{HasEntry, HasSumOf, block_sum}
use Rattle.search_squares.specs.Gathered.{AreSingles, HasBlockRoom, IsFreeBlock, IsTaken, IsUntaken, MarkFilled, rows_sum}
use Rattle.search_squares.proofs.BlockRows.{cell_block, cell_of_row}
use Rattle.search_squares.proofs.Gatherings.{more_gathered, none_gathered}
use Rattle.search_squares.proofs.SumRows.{index_parts}
use Rattle.search_squares.proofs.Taking.{one_taken}

-- the picture holds a box of the canvas
pub held : (canvas : CanvasState) (rect : Box3) → IsCanvas canvas → HoldsBox canvas.map.size rect.corner rect.size → Holds canvas.picture rect.corner rect.size
held canvas rect is inside = box_held canvas.picture rect.corner rect.size (subst (λ size. HoldsBox size rect.corner rect.size) (sym is.size) inside)

-- the place of a cell of a row, by its index
pub single_place : (size : Size) (row x : ℕ) → x < size.w → spot x (row % size.h) (row / size.h) ≡ place_of size (size.w * row + x)
single_place size row x lt = λ t. spot (column t) (row_is t % size.h) (row_is t / size.h)
  where
    turned : x + size.w * row ≡ size.w * row + x
    turned = omega arith

    column : x ≡ (size.w * row + x) % size.w
    column = sym (index_parts size.w x row lt).0 ∙ ap (λ i. i % size.w) turned

    row_is : row ≡ (size.w * row + x) / size.w
    row_is = sym (index_parts size.w x row lt).1 ∙ ap (λ i. i / size.w) turned

-- the sum of its bytes, from those of the row
pub single_sum : (canvas : CanvasState) (rect : Box3) → IsCanvas canvas → HoldsBox canvas.map.size rect.corner rect.size → (x y f : ℕ) → x < rect.size.w → y < rect.size.h → f < rect.size.f
    → (k s : ℕ) (row bytes : List ℕ) → k ≡ canvas.picture.k → row ≡ row_at canvas.picture (plus rect.corner (spot 0 y f)) rect.size.w → bytes ≡ take k (drop (k * x) row) → s ≡ sum bytes
    → s ≡ block_sum canvas.picture 1 (plus rect.corner (spot x y f))
single_sum canvas rect is inside x y f lx ly lf k s row bytes k_is row_is bytes_is s_is =
    s_is
    ∙ ap sum bytes_is
    ∙ (λ t. sum (take (k_is t) (drop (k_is t * x) (row_is t))))
    ∙ ap sum (cell_of_row canvas.picture is.picture rect (held canvas rect is inside) x y f lx ly lf)
    ∙ cell_block canvas.picture (plus rect.corner (spot x y f))

module _ (canvas : CanvasState) (rect : Box3) (size : Size) (filled : List Bool) where
  pub none_single : length filled ≡ cell_count rect.size → MarkFilled canvas.map rect filled → AreSingles canvas rect size filled 0 []
  none_single long is = record { free = filled; later = λ i le. refl; gathered = none_gathered canvas rect 1 size filled long is }

  -- with the cells counted in another way
  pub recounted : (n m : ℕ) (blocks : List Block) → n ≡ m → AreSingles canvas rect size filled n blocks → AreSingles canvas rect size filled m blocks
  recounted n m blocks same are = subst (λ i. AreSingles canvas rect size filled i blocks) same are

  -- a cell that is left out
  pub passed : (n : ℕ) (blocks : List Block) → AreSingles canvas rect size filled n blocks → AreSingles canvas rect size filled (n + 1) blocks
  passed n blocks are = record { free = are.free; later = λ i le. are.later i (omega (arith, le)); gathered = are.gathered }

  -- one more
  pub one_single : (n : ℕ) (blocks more : List Block) (block : Block) → HasCells rect.size → n < cell_count rect.size → get_or filled n false ≡ true
      → block.step ≡ place_of rect.size n → HasEntry size block → HasSumOf canvas rect 1 block → more ≡ blocks ++ block ∷ []
      → AreSingles canvas rect size filled n blocks → AreSingles canvas rect size filled (n + 1) more
  one_single n blocks more block some lt marked step entry has_sum is are = record {
    free = set are.free n false;
    later = λ i le. get_or-set_other are.free n i false false (λ e. absurd (omega (arith, e, le))) ∙ are.later i (omega (arith, le));
    gathered = more_gathered canvas rect 1 size n (n + 1) blocks more block are.free (set are.free n false) some lt room free step entry has_sum is taken are.gathered;
  }
    where
      untaken : IsUntaken are.free n
      untaken = are.later n (omega arith) ∙ marked

      room : HasBlockRoom rect.size n 1
      room = record { columns = omega (arith, some.w); rows = omega (arith, some.h) }

      here : (j i : ℕ) → j < 1 → i < 1 → n ≡ n + rect.size.w * j + i
      here zero zero lj li = omega arith
      here zero (suc i) lj li = absurd (omega (arith, li))
      here (suc j) i lj li = absurd (omega (arith, lj))

      free : IsFreeBlock are.free n rect.size.w 1
      free j lj i li = subst (IsUntaken are.free) (here j i lj li) untaken

      zeros : (m : ℕ) → 0 + (0 + m) ≡ m
      zeros m = omega arith

      part : (g : ℕ → ℕ) → rows_sum n rect.size.w 1 1 g ≡ g n
      part g = zeros (g (n + rect.size.w * 0 + 0)) ∙ ap g (sym (here 0 0 (omega arith) (omega arith)))

      taken : IsTaken (n + 1) (rows_sum n rect.size.w 1 1) are.free (set are.free n false)
      taken =
          let one = one_taken are.free n (n + 1) (omega (arith, lt, are.gathered.long)) (omega arith) untaken in
          record { long = one.long; after = one.after; fewer = one.fewer; sums = λ g. omega (arith, one.sums g, part g) }
