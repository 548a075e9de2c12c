-- The blocks of a box bound its overlap error, however it is laid.
use Rattle.std.proofs.Common.{◌≡◌, ℕ, ◌+◌, ◌*◌, ◌<◌, ◌≤◌, List, [], ◌∷◌, length, get_or, ap, sym, ◌∙◌, subst, arith}
use Rattle.std.proofs.Math.Nat.{mul-le-mul, mul-le-mul_left}
use Rattle.std.proofs.lemmas.List.Elements.{All-head, All-tail}
use Rattle.std.proofs.lemmas.List.Sums.{sum_by-cons}
use Rattle.std.specs.Prelude.{All, Bool, Some, sum, unwrap_or}
use Rattle.std.specs.List.{sum_by}
use Rattle.cells.specs.declared.place.At.{At}
use Rattle.cells.specs.declared.place.Box3.{Box3}
use Rattle.cells.specs.declared.place.Size.{Size}
use Rattle.cells.specs.Cells.{Cells, HasRun, IsVolume, index_of, row_at}
use Rattle.cells.specs.Places.{plus, spot}
use Rattle.cells.proofs.PartBoxes.{run_of_volume}
use Rattle.cells.proofs.Raster.{has_index}
use Rattle.boxes.specs.Sums.{sum_to}
use Rattle.boxes.proofs.Additions.{counts}
use Rattle.boxes.proofs.Axes.{sum_equal}
use Rattle.boxes.proofs.Boxes.{box_counts}
use Rattle.lane_kernels.specs.Sums.{sum_of_squared_differences}
use Rattle.map_canvas.specs.Canvases.{CanvasState, IsCanvas}
use Rattle.map_canvas.specs.Choices.{laid_from, new_source}
use Rattle.map_canvas.specs.Maps.{IsFilled, map_at}
use Rattle.map_canvas.specs.CellErrors.{cell_error, spot_error}
use Rattle.match_error.specs.Errors.{error_sum}
use Rattle.match_error.specs.Runs.{IsInRow, IsLaidOver}
use Rattle.match_error.proofs.Overlaps.{run_is_error}
use Rattle.match_error.proofs.RowPlaces.{have_samples, row_is_run}
use Rattle.match_error.proofs.RunLists.{run_held, run_of_picture}
use Rattle.match_error.proofs.Runs.{length-run}
use Rattle.search_squares.specs.declared.blocks.Block.{Block}
use Rattle.search_squares.specs.Blocks.{HasSumOf, IsBlockIn, block_bytes, block_sum, square_of_difference}
use Rattle.search_squares.specs.Gathered.{AreGathered, IsBlockFilled, box_sum, place_sum}
use Rattle.search_squares.proofs.BlockPlaces.{down, on_from}
use Rattle.search_squares.proofs.Squares.{rows_difference}

-- how many bytes a run of cells has
length-row : (v : Cells) (p : At) (w : ℕ) → IsVolume v → HasRun v p w → length (row_at v p w) ≡ w * v.k
length-row v p w is run =
    let first = unwrap_or (index_of v p) 0 in
    let start : index_of v p ≡ Some first = has_index (index_of v p) 0 run.first in
    ap length (row_is_run v is p first w start)
    ∙ length-run v.k v.cells (have_samples v is) first w (omega (arith, is.count, run_of_volume v p first w start run))

-- a sum of terms, each at most so many times another
sum_within : {X : Type 0} (f g : X → ℕ) (m : ℕ) (xs : List X) → All (λ x. f x ≤ m * g x) xs → sum_by f xs ≤ m * sum_by g xs
sum_within f g m [] all = omega arith
sum_within f g m (x ∷ xs) all =
    let head : f x ≤ m * g x = All-head (λ x. f x ≤ m * g x) x xs all in
    let rest : sum_by f xs ≤ m * sum_by g xs = sum_within f g m xs (All-tail (λ x. f x ≤ m * g x) x xs all) in
    subst (λ s. sum_by f (x ∷ xs) ≤ m * s) (sym (sum_by-cons g x xs)) (omega (arith, head, rest, sum_by-cons f x xs))

module _ (canvas : CanvasState) (is : IsCanvas canvas) (rect : Box3) (sample : Cells) (from : At) (laid : IsLaidOver canvas rect sample from) (side : ℕ) (some : 1 ≤ side) where
  -- the error of the cell at a place of the box
  abbrev error : At → ℕ
  error p = cell_error sample (map_at canvas.map (plus rect.corner p)) (new_source (laid_from rect from) (plus rect.corner p))

  -- how far a block is from the sample's
  abbrev apart : Block → ℕ
  apart block = square_of_difference block.sum (block_sum sample side (plus from block.step))

  module _ (block : Block) (inside : IsBlockIn rect side block) (has_sum : HasSumOf canvas rect side block) (filled : IsBlockFilled canvas.map rect side block) where
    abbrev old : ℕ → List ℕ
    old j = row_at canvas.picture (plus rect.corner (spot inside.x (inside.y + j) inside.f)) side

    abbrev new : ℕ → List ℕ
    new j = row_at sample (plus from (spot inside.x (inside.y + j) inside.f)) side

    in_row : (j : ℕ) → j < side → IsInRow rect (inside.x + side) (inside.y + j) inside.f
    in_row j lj = record { columns_in = inside.columns; row_in = omega (arith, inside.rows); frame_in = inside.frame }

    old_long : (j : ℕ) → j < side → length (old j) ≡ side * sample.k
    old_long j lj =
        length-row canvas.picture _ side is.picture (run_of_picture canvas rect inside.x side (inside.y + j) inside.f is laid.fits.inside some (in_row j lj))
        ∙ ap (λ k. side * k) laid.stands.samples

    new_long : (j : ℕ) → j < side → length (new j) ≡ side * sample.k
    new_long j lj = length-row sample _ side laid.volume (run_held sample from rect.size inside.x side (inside.y + j) inside.f laid.fits.sources some inside.columns (in_row j lj).row_in inside.frame)

    row_place : (corner : At) (j : ℕ) → plus (plus corner block.step) (spot 0 j 0) ≡ plus corner (spot inside.x (inside.y + j) inside.f)
    row_place corner j = ap (λ s. plus (plus corner s) (spot 0 j 0)) inside.step ∙ down corner inside.x inside.y j inside.f

    old_sum : block.sum ≡ sum_to side (λ j. sum (old j))
    old_sum = has_sum ∙ sum_equal counts side _ _ (λ j lj. ap (λ p. sum (row_at canvas.picture p side)) (row_place rect.corner j))

    new_sum : block_sum sample side (plus from block.step) ≡ sum_to side (λ j. sum (new j))
    new_sum = sum_equal counts side _ _ (λ j lj. ap (λ p. sum (row_at sample p side)) (row_place from j))

    place : (x j : ℕ) → plus block.step (spot x j 0) ≡ spot (inside.x + x) (inside.y + j) inside.f
    place x j = ap (λ s. plus s (spot x j 0)) inside.step ∙ on_from inside.x inside.y inside.f x j

    row_error : (j : ℕ) → j < side → sum_of_squared_differences (old j) (new j) ≡ sum_to side (λ x. error (plus block.step (spot x j 0)))
    row_error j lj =
        run_is_error canvas sample (laid_from rect from) is laid.volume laid.stands laid.fits (inside.y + j) inside.f (in_row j lj).row_in inside.frame inside.x side some inside.columns
        (λ x lx. subst (λ p. IsFilled canvas.map (plus rect.corner p)) (place x j) (filled x j lx lj))
        ∙ sum_equal counts side _ _ (λ x lx. ap error (sym (place x j)))

    whole_error : side * (side * sample.k) * sum_to side (λ j. sum_of_squared_differences (old j) (new j)) ≡ block_bytes side sample.k * place_sum side error block
    whole_error =
        ap (λ s. side * (side * sample.k) * s) (sum_equal counts side (λ j. sum_of_squared_differences (old j) (new j)) (λ j. sum_to side (λ x. error (plus block.step (spot x j 0)))) row_error)
        ∙ turned side sample.k (place_sum side error block)
      where
        turned : (n k s : ℕ) → n * (n * k) * s ≡ n * n * k * s
        turned n k s = omega arith

    block_bound : apart block ≤ block_bytes side sample.k * place_sum side error block
    block_bound =
        let bytes : 1 ≤ side * (side * sample.k) = mul-le-mul some (mul-le-mul some laid.volume.samples.0) in
        subst (λ d. d ≤ block_bytes side sample.k * place_sum side error block) (sym (λ k. square_of_difference (old_sum k) (new_sum k)))
        (subst (λ n. square_of_difference (sum_to side (λ j. sum (old j))) (sum_to side (λ j. sum (new j))) ≤ n) whole_error
        (rows_difference side (side * sample.k) old new old_long new_long bytes))

  -- all blocks together
  pub gathered_bound : (size : Size) (blocks : List Block) (free : List Bool) → AreGathered canvas rect side size blocks free → sum_by apart blocks ≤ block_bytes side sample.k * error_sum canvas.map sample (laid_from rect from)
  gathered_bound size blocks free gathered =
      let each : sum_by apart blocks ≤ block_bytes side sample.k * sum_by (place_sum side error) blocks =
      sum_within apart (place_sum side error) (block_bytes side sample.k) blocks
      (λ i d lt. block_bound (get_or blocks i d) (gathered.inside i d lt) (gathered.sums i d lt) (gathered.filled i d lt)) in
      let box : box_sum rect.size error ≡ error_sum canvas.map sample (laid_from rect from) =
      box_counts counts rect.size (λ x y f. spot_error canvas.map sample (laid_from rect from) x y f) in
      let part : sum_by (place_sum side error) blocks ≤ error_sum canvas.map sample (laid_from rect from) = omega (arith, gathered.disjoint error, box) in
      omega (arith, each, mul-le-mul_left (block_bytes side sample.k) part)
