-- The marks of a row of cells, and how many of the cells are filled.
use Rattle.std.proofs.Common.{◌≡◌, ℕ, zero, suc, ◌+◌, ◌*◌, ◌/◌, ◌<◌, ◌≤◌, [], length, get_or, ap, sym, ◌∙◌, arith}
use Rattle.std.proofs.Math.Nat.{mul-le-mul, mul-div_cancel_left}
use Rattle.std.proofs.lemmas.Int.{ints}
use Rattle.std.proofs.lemmas.List.{get_or-map, length-map}
use Rattle.std.proofs.lemmas.List.Folds.{sum_by-replicate}
use Rattle.std.proofs.lemmas.List.Sums.{sum_by-append}
use Rattle.std.specs.Prelude.{Option, Some, None, sum}
use Rattle.cells.specs.declared.place.At.{At}
use Rattle.cells.specs.declared.place.Box3.{Box3}
use Rattle.cells.specs.declared.place.Size.{Size}
use Rattle.cells.specs.Boxes.{HoldsBox}
use Rattle.cells.specs.Cells.{row_at, run_from}
use Rattle.cells.specs.Places.{cell_count, plus, spot}
use Rattle.boxes.specs.Sums.{sum_to}
use Rattle.boxes.proofs.Additions.{counts}
use Rattle.boxes.proofs.Axes.{sum_equal, sum_none}
use Rattle.boxes.proofs.Bounds.{sum_bound}
use Rattle.map_canvas.specs.Maps.{SourceMap, IsMap, map_at, source_at}
use Rattle.map_canvas.specs.Canvases.{mark_of, filled_marks}
use Rattle.match_error.specs.Errors.{filled_cells, one_filled}
use Rattle.match_error.proofs.RowPlaces.{row_of}
use Rattle.match_error.proofs.Runs.{run, run_more}

sum-mark : (k : ℕ) (source : Option At) → sum (mark_of k source) ≡ k * one_filled source
sum-mark k None = omega (arith, sum_by-replicate (λ (n : ℕ). n) k 0)
sum-mark k (Some from) = omega (arith, sum_by-replicate (λ (n : ℕ). n) k 1)

sum-marks : (m : SourceMap) (k i w : ℕ) → i + w ≤ length m.sources → sum (run (filled_marks m k).cells i w) ≡ k * sum_to w (λ x. one_filled (get_or m.sources (i + x) None))
sum-marks m k i zero le = omega arith
sum-marks m k i (suc w) le =
    ap sum (run_more (filled_marks m k).cells i w (omega (arith, length-map m.sources (mark_of k))))
    ∙ sum_by-append (λ (n : ℕ). n) (run (filled_marks m k).cells i w) (get_or (filled_marks m k).cells (i + w) [])
    ∙ ap (λ cell. sum (run (filled_marks m k).cells i w) + sum cell) (get_or-map (mark_of k) m.sources (i + w) None [] (omega arith))
    ∙ omega (arith, sum-marks m k i w (omega arith), sum-mark k (get_or m.sources (i + w) None))

-- the sum of the marks of a row is k for each filled cell
pub row_marks : (m : SourceMap) (k : ℕ) (rect : Box3) (y f : ℕ) → IsMap m → 1 ≤ k → HoldsBox m.size rect.corner rect.size → 1 ≤ rect.size.w → y < rect.size.h → f < rect.size.f
    → sum (row_at (filled_marks m k) (plus rect.corner (spot 0 y f)) rect.size.w) / k ≡ sum_to rect.size.w (λ x. one_filled (map_at m (plus rect.corner (spot x y f))))
row_marks m k rect y f is some inside wide ly lf =
    let row = row_of m.size rect.corner rect.size y f inside wide ly lf in
    ap (λ bytes. sum bytes / k) (ap (run_from (filled_marks m k).cells rect.size.w) row.start)
    ∙ ap (λ n. n / k) (sum-marks m k row.first rect.size.w (omega (arith, is.count, row.fits)))
    ∙ mul-div_cancel_left _ some
    ∙ sum_equal counts rect.size.w _ _ (λ x lx. ap one_filled (sym (ap (source_at m.sources) (row.cell x lx))))

pub one_at_most : (source : Option At) → one_filled source ≤ 1
one_at_most None = omega arith
one_at_most (Some from) = omega arith

pub row_at_most : (m : SourceMap) (rect : Box3) (y f : ℕ) → sum_to rect.size.w (λ x. one_filled (map_at m (plus rect.corner (spot x y f)))) ≤ rect.size.w
row_at_most m rect y f = omega (arith, sum_bound rect.size.w 1 (λ x. one_filled (map_at m (plus rect.corner (spot x y f)))) (λ x lx. one_at_most (map_at m (plus rect.corner (spot x y f)))))

-- a box has no more cells than what holds it
pub box_cells : (size : Size) (rect : Box3) → HoldsBox size rect.corner rect.size → cell_count rect.size ≤ cell_count size
box_cells size rect box =
    let w : rect.size.w ≤ size.w = omega (arith, ints, box.x.from, box.x.to) in
    let h : rect.size.h ≤ size.h = omega (arith, ints, box.y.from, box.y.to) in
    let f : rect.size.f ≤ size.f = omega (arith, ints, box.f.from, box.f.to) in
    mul-le-mul w (mul-le-mul h f)

-- one without columns has none that is filled
pub no_columns : (m : SourceMap) (rect : Box3) → rect.size.w ≡ 0 → 0 ≡ filled_cells m rect
no_columns m rect none =
    sym (sum_none counts rect.size.f _ (λ f lf. sum_none counts rect.size.h _ (λ y ly. ap (λ w. sum_to w (λ x. one_filled (map_at m (plus rect.corner (spot x y f))))) none)))
