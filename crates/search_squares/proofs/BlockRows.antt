-- Sums of cells along a row, and the sums of blocks that are made of them.
use Rattle.std.proofs.Common.{◌≡◌, ℕ, zero, suc, ◌+◌, ◌-◌, ◌*◌, ◌<◌, ◌≤◌, ◌^◌, List, [], ◌++◌, length, get_or, take, drop, ap, sym, ◌∙◌, arith, append_assoc}
use Rattle.std.proofs.Math.Nat.{mul-le-mul_left}
use Rattle.std.proofs.lemmas.Int.{ints}
use Rattle.std.proofs.lemmas.List.{append-nil, drop_at, take_at}
use Rattle.std.proofs.lemmas.List.Sums.{sum_by-append}
use Rattle.std.specs.Prelude.{ℤ, pos, ◌+ℤ◌, sum}
use Rattle.cells.specs.declared.place.At.{At}
use Rattle.cells.specs.declared.place.Box3.{Box3}
use Rattle.cells.specs.Cells.{Cells, Holds, IsVolume, row_at, run_from}
use Rattle.cells.specs.Places.{cell_count, plus, raster_index, spot}
use Rattle.cells.proofs.Raster.{in_rows}
use Rattle.boxes.specs.Sums.{sum_to}
use Rattle.boxes.proofs.Additions.{counts}
use Rattle.boxes.proofs.Axes.{sum_equal}
use Rattle.match_error.proofs.RowPlaces.{have_samples, row_in_volume}
use Rattle.match_error.proofs.Runs.{HaveSamples, length-run, run, run_more}
use Rattle.search_squares.specs.Blocks.{block_bytes, block_sum}
use Rattle.search_squares.specs.Sums.{AreAdded, AreCellSums, AreBlockEntries, stepped_sum}
use Rattle.search_squares.proofs.AddedSums.{stepped_bound}

-- a row of the block, from the block's first
plus_row : (corner : At) (x y j f : ℕ) → plus corner (spot x (y + j) f) ≡ plus (plus corner (spot x y f)) (spot 0 j 0)
plus_row corner x y j f = λ k. record { x = stay corner.x x k; y = along corner.y k; f = stay corner.f f k }
  where
    along : (z : ℤ) → z +ℤ pos (y + j) ≡ (z +ℤ pos y) +ℤ pos j
    along z = omega (arith, ints)

    stay : (z : ℤ) (n : ℕ) → z +ℤ pos n ≡ (z +ℤ pos n) +ℤ pos 0
    stay z n = omega (arith, ints)

-- the bytes of cells that follow one another add up to the sums of each
sum_cells : (cells : List (List ℕ)) (i n : ℕ) → i + n ≤ length cells → sum (run cells i n) ≡ sum_to n (λ j. sum (get_or cells (i + j) []))
sum_cells cells i zero le = omega arith
sum_cells cells i (suc n) le =
    ap sum (run_more cells i n (omega arith))
    ∙ sum_by-append (λ (m : ℕ). m) (run cells i n) (get_or cells (i + n) [])
    ∙ ap (λ s. s + sum (get_or cells (i + n) [])) (sum_cells cells i n (omega arith))

one_cell : (cells : List (List ℕ)) (i : ℕ) → i + 1 ≤ length cells → sum (run cells i 1) ≡ sum (get_or cells i [])
one_cell cells i le = sum_cells cells i 1 le ∙ first (sum (get_or cells (i + 0) [])) ∙ ap (λ m. sum (get_or cells m [])) (let e : i + 0 ≡ i = omega arith in e)
  where
    first : (m : ℕ) → 0 + m ≡ m
    first m = omega arith

-- some cells, and others after them
run_split : (cells : List (List ℕ)) (i a b : ℕ) → i + (a + b) ≤ length cells → run cells i (a + b) ≡ run cells i a ++ run cells (i + a) b
run_split cells i a zero le = ap (run cells i) (let e : a + 0 ≡ a = omega arith in e) ∙ sym (append-nil (run cells i a))
run_split cells i a (suc b) le =
    ap (run cells i) (let e : a + suc b ≡ suc (a + b) = omega arith in e)
    ∙ run_more cells i (a + b) (omega (arith, le))
    ∙ (λ k. run_split cells i a b (omega (arith, le)) k ++ get_or cells (together k) [])
    ∙ append_assoc (run cells i a) (run cells (i + a) b) (get_or cells ((i + a) + b) [])
    ∙ ap (λ bytes. run cells i a ++ bytes) (sym (run_more cells (i + a) b (omega (arith, le))))
  where
    together : i + (a + b) ≡ (i + a) + b
    together = omega arith

-- the bytes of one of them
run_piece : (k : ℕ) (cells : List (List ℕ)) → HaveSamples k cells → (i x n : ℕ) → x < n → i + n ≤ length cells → take k (drop (k * x) (run cells i n)) ≡ run cells (i + x) 1
run_piece k cells samples i x n lt le =
    ap (λ m. take k (drop (k * x) (run cells i m))) (let e : n ≡ x + (1 + (n - (x + 1))) = omega (arith, lt) in e)
    ∙ ap (λ bytes. take k (drop (k * x) bytes)) (run_split cells i x (1 + (n - (x + 1))) (omega (arith, lt, le)))
    ∙ ap (take k) (drop_at (run cells i x) (run cells (i + x) (1 + (n - (x + 1)))) (k * x) (omega (arith, length-run k cells samples i x (omega (arith, lt, le)))))
    ∙ ap (take k) (run_split cells (i + x) 1 (n - (x + 1)) (omega (arith, lt, le)))
    ∙ take_at (run cells (i + x) 1) (run cells ((i + x) + 1) (n - (x + 1))) k (omega (arith, length-run k cells samples (i + x) 1 (omega (arith, lt, le))))

module _ (sample : Cells) (volume : IsVolume sample) (rect : Box3) (holds : Holds sample rect.corner rect.size) where
  abbrev w : ℕ
  w = rect.size.w

  abbrev h : ℕ
  h = rect.size.h

  -- the bytes of a run of cells of the box are those of each
  sum_row : (x y f n : ℕ) → 1 ≤ n → x + n ≤ w → y < h → f < rect.size.f
      → sum (row_at sample (plus rect.corner (spot x y f)) n) ≡ sum_to n (λ j. sum (row_at sample (plus rect.corner (spot (x + j) y f)) 1))
  sum_row x y f n some le ly lf =
      let row = row_in_volume sample volume rect.corner rect.size y f holds (omega (arith, some, le)) ly lf in
      ap (λ o. sum (run_from sample.cells n o)) (row.cell x (omega (arith, some, le)))
      ∙ sum_cells sample.cells (row.first + x) n (omega (arith, row.fits, le))
      ∙ sum_equal counts n (λ j. sum (get_or sample.cells ((row.first + x) + j) [])) (λ j. sum (row_at sample (plus rect.corner (spot (x + j) y f)) 1))
      (λ j lj.
      ap (λ m. sum (get_or sample.cells m [])) (let e : (row.first + x) + j ≡ row.first + (x + j) = omega arith in e)
      ∙ sym (one_cell sample.cells (row.first + (x + j)) (omega (arith, row.fits, le, lj)))
      ∙ ap (λ o. sum (run_from sample.cells 1 o)) (sym (row.cell (x + j) (omega (arith, le, lj)))))

  -- the bytes of one of a row
  pub cell_of_row : (x y f : ℕ) → x < w → y < h → f < rect.size.f → take sample.k (drop (sample.k * x) (row_at sample (plus rect.corner (spot 0 y f)) w)) ≡ row_at sample (plus rect.corner (spot x y f)) 1
  cell_of_row x y f lx ly lf =
      let row = row_in_volume sample volume rect.corner rect.size y f holds (omega (arith, lx)) ly lf in
      ap (λ o. take sample.k (drop (sample.k * x) (run_from sample.cells w o))) row.start
      ∙ run_piece sample.k sample.cells (have_samples sample volume) row.first x w lx row.fits
      ∙ ap (run_from sample.cells 1) (sym (row.cell x lx))

  -- a place of the box has its entry before the last ones
  in_box : (x y f : ℕ) → x < w → y < h → f < rect.size.f → raster_index rect.size x y f < cell_count rect.size
  in_box x y f lx ly lf = in_rows w (h * rect.size.f) (y + h * f) x lx (in_rows h rect.size.f f y ly lf)

  module _ (side : ℕ) (some : 1 ≤ side) (was mid now : List ℕ) (cells : AreCellSums sample rect was) (along : AreAdded 1 side was mid) (down : AreAdded w side mid now) where
    last : (side - 1) + 1 ≡ side
    last = omega (arith, some)

    -- along a row
    row_entry : (x y f : ℕ) → x + side ≤ w → y < h → f < rect.size.f → get_or mid (raster_index rect.size x y f) 0 ≡ sum (row_at sample (plus rect.corner (spot x y f)) side)
    row_entry x y f le ly lf =
        along.sums (raster_index rect.size x y f) (side - 1) last (omega (arith, cells.long, in_box (x + (side - 1)) y f (omega (arith, le, some)) ly lf))
        ∙ sum_equal counts side (λ j. get_or was (raster_index rect.size x y f + 1 * j) 0) (λ j. sum (row_at sample (plus rect.corner (spot (x + j) y f)) 1))
        (λ j lj. ap (λ i. get_or was i 0) (turned j) ∙ cells.each (x + j) y f (omega (arith, le, lj)) ly lf)
        ∙ sym (sum_row x y f side some le ly lf)
      where
        turned : (j : ℕ) → (x + w * (y + h * f)) + 1 * j ≡ (x + j) + w * (y + h * f)
        turned j = omega arith

    -- and down the columns
    block_entry : (x y f : ℕ) → x + side ≤ w → y + side ≤ h → f < rect.size.f → get_or now (raster_index rect.size x y f) 0 ≡ block_sum sample side (plus rect.corner (spot x y f))
    block_entry x y f lx ly lf =
        down.sums (raster_index rect.size x y f) (side - 1) last
        (omega (arith, along.long, cells.long, turned (side - 1), in_box x (y + (side - 1)) f (omega (arith, lx, some)) (omega (arith, ly, some)) lf))
        ∙ sum_equal counts side (λ j. get_or mid (raster_index rect.size x y f + w * j) 0) (λ j. sum (row_at sample (plus (plus rect.corner (spot x y f)) (spot 0 j 0)) side))
        (λ j lj.
        ap (λ i. get_or mid i 0) (turned j)
        ∙ row_entry x (y + j) f lx (omega (arith, ly, lj)) lf
        ∙ ap (λ p. sum (row_at sample p side)) (plus_row rect.corner x y j f))
      where
        turned : (j : ℕ) → (x + w * (y + h * f)) + w * j ≡ x + w * ((y + j) + h * f)
        turned j = omega arith

    pub entries_of_cells : AreBlockEntries sample rect side now
    entries_of_cells = record { long = down.long ∙ along.long ∙ cells.long; each = block_entry }

-- a cell is a block by itself
pub cell_block : (sample : Cells) (p : At) → sum (row_at sample p 1) ≡ block_sum sample 1 p
cell_block sample p =
    ap (λ at. sum (row_at sample at 1)) (λ k. record { x = stays p.x k; y = stays p.y k; f = stays p.f k })
    ∙ first (sum (row_at sample (plus p (spot 0 0 0)) 1))
  where
    stays : (z : ℤ) → z ≡ z +ℤ pos 0
    stays z = omega (arith, ints)

    first : (m : ℕ) → m ≡ 0 + m
    first m = omega arith

pub cell_blocks : (sample : Cells) (rect : Box3) (cells : List ℕ) → AreCellSums sample rect cells → AreBlockEntries sample rect 1 cells
cell_blocks sample rect cells are = record {
  long = are.long;
  each = λ x y f lx ly lf. are.each x y f (omega (arith, lx)) (omega (arith, ly)) lf ∙ cell_block sample (plus rect.corner (spot x y f));
}

-- a block has no fewer bytes than a run of its cells
run_bytes : (side k : ℕ) → 1 ≤ side → k * side ≤ block_bytes side k
run_bytes side k some = omega (arith, mul-le-mul_left (k * side) some)

-- no sum along a row, nor one of those down a column, is greater than the bytes of a block can make it
module _ (sample : Cells) (rect : Box3) (side : ℕ) (some : 1 ≤ side) (few : 255 * block_bytes side sample.k < 2 ^ 16) (was : List ℕ) (cells : AreCellSums sample rect was) where
  pub row_sums_fit : (i : ℕ) → stepped_sum was 1 side i < 2 ^ 16
  row_sums_fit i = omega (arith, stepped_bound 1 side (255 * sample.k) i was cells.small, run_bytes side sample.k some, few)

  pub column_sums_fit : (mid : List ℕ) (step : ℕ) → AreAdded 1 side was mid → (i : ℕ) → stepped_sum mid step side i < 2 ^ 16
  column_sums_fit mid step along i = omega (arith, stepped_bound step side (side * (255 * sample.k)) i mid (along.small (255 * sample.k) cells.small), few)
