-- The runs of a box: where they lie, and what one more adds.
use Rattle.std.proofs.Common.{get_or, ◌≡◌, ℕ, ◌+◌, ◌*◌, ◌<◌, ◌≤◌, List, [], ◌∷◌, ◌++◌, length, take, drop, refl, ap, sym, ◌∙◌, subst, arith, length-append}
use Rattle.std.proofs.Math.Seq.{drop-append_seam, take-length}
use Rattle.std.proofs.lemmas.Int.{ints}
use Rattle.std.proofs.lemmas.List.{drop-append-le, length-drop, take-append-le}
use Rattle.std.proofs.lemmas.List.Elements.{All-head, All-push, All-tail}
use Rattle.std.proofs.lemmas.List.Sums.{sum_by-append, sum_by-cons, sum_by_more_le}
use Rattle.std.specs.Prelude.{◌+ℤ◌, ℤ, pos, All}
use Rattle.std.specs.List.{sum_by}
use Rattle.cells.specs.declared.place.At.{At}
use Rattle.cells.specs.declared.place.Box3.{Box3}
use Rattle.cells.specs.declared.place.Size.{Size}
use Rattle.cells.specs.Boxes.{HoldsBox, cell_in}
use Rattle.cells.specs.Cells.{Cells, HasRun, Holds, IsInsideOf, row_at}
use Rattle.cells.specs.Places.{HasAxes, plus, raster_index, spot}
use Rattle.cells.proofs.PartBoxes.{box_held, held_run, row_step}
use Rattle.lane_kernels.specs.Sums.{sum_of_squared_differences}
use Rattle.map_canvas.specs.Canvases.{CanvasState, IsCanvas}
use Rattle.map_canvas.specs.Maps.{IsFilled}
use Rattle.map_canvas.specs.CellErrors.{spot_error}
use Rattle.map_canvas.specs.Choices.{laid_from}
use Rattle.match_error.specs.declared.gathered.FilledRun.{FilledRun}
use Rattle.match_error.specs.declared.gathered.FilledRuns.{FilledRuns}
use Rattle.boxes.specs.Sums.{sum_to}
use Rattle.boxes.proofs.Additions.{counts}
use Rattle.boxes.proofs.Axes.{sum_more, sum_split}
use Rattle.match_error.specs.Runs.{AddsError, AddsRun, AreRunsIn, IsInRow, IsRunIn, run_error}
use Rattle.match_error.proofs.Overlaps.{run_is_error, unfilled_error}

-- a step from a place along a row
pub plus_spot : (corner : At) (x j y f : ℕ) → plus (plus corner (spot x y f)) (spot j 0 0) ≡ plus corner (spot (x + j) y f)
plus_spot corner x j y f = λ k. record { x = along corner.x k; y = stay corner.y y k; f = stay corner.f f k }
  where
    along : (z : ℤ) → (z +ℤ pos x) +ℤ pos j ≡ z +ℤ pos (x + j)
    along z = omega (arith, ints)

    stay : (z : ℤ) (n : ℕ) → (z +ℤ pos n) +ℤ pos 0 ≡ z +ℤ pos n
    stay z n = omega (arith, ints)

-- a part of a run
pub sub_run : (v : Cells) (corner : At) (w x n y f : ℕ) → HasRun v (plus corner (spot 0 y f)) w → 1 ≤ n → x + n ≤ w → HasRun v (plus corner (spot x y f)) n
sub_run v corner w x n y f is some le = record {
  first = subst (IsInsideOf v) (sym (row_step corner x y f)) (is.each x (omega arith));
  each = λ j lj. subst (IsInsideOf v) (sym (plus_spot corner x j y f ∙ row_step corner (x + j) y f)) (is.each (x + j) (omega arith));
}

-- a run of a box that a volume holds
pub run_held : (v : Cells) (corner : At) (inner : Size) (x n y f : ℕ) → Holds v corner inner → 1 ≤ n → x + n ≤ inner.w → y < inner.h → f < inner.f → HasRun v (plus corner (spot x y f)) n
run_held v corner inner x n y f holds some le ly lf = sub_run v corner inner.w x n y f (held_run v corner inner y f holds (omega arith) ly lf) some le

pub run_of_picture : (canvas : CanvasState) (rect : Box3) (x n y f : ℕ) → IsCanvas canvas → HoldsBox canvas.map.size rect.corner rect.size → 1 ≤ n → IsInRow rect (x + n) y f → HasRun canvas.picture (plus rect.corner (spot x y f)) n
run_of_picture canvas rect x n y f is inside some row =
    run_held canvas.picture rect.corner rect.size x n y f
    (box_held canvas.picture rect.corner rect.size (subst (λ size. HoldsBox size rect.corner rect.size) (sym is.size) inside)) some row.columns_in row.row_in row.frame_in

-- a piece of a list stays where more comes after the list
pub same_piece : {X : Type 0} (start n : ℕ) (all more : List X) → start + n ≤ length all → take n (drop start (all ++ more)) ≡ take n (drop start all)
same_piece start n all more le =
    ap (take n) (drop-append-le start all more (omega arith)) ∙ take-append-le n (drop start all) more (omega (arith, length-drop start all))

same_errors : (rect : Box3) (part : Size) (bytes more : List ℕ) (sample : Cells) (from : At) (runs : List FilledRun) → All (IsRunIn sample.k rect part (length bytes)) runs
    → sum_by (run_error (bytes ++ more) sample from) runs ≡ sum_by (run_error bytes sample from) runs
same_errors rect part bytes more sample from [] all = refl
same_errors rect part bytes more sample from (run ∷ runs) all =
    let is = All-head (IsRunIn sample.k rect part (length bytes)) run runs all in
    sum_by-cons (run_error (bytes ++ more) sample from) run runs
    ∙ ap (λ piece. sum_of_squared_differences piece (row_at sample (plus from run.step) run.w) + sum_by (run_error (bytes ++ more) sample from) runs) (same_piece run.start (sample.k * run.w) bytes more is.whole)
    ∙ ap (λ rest. run_error bytes sample from run + rest) (same_errors rect part bytes more sample from runs (All-tail (IsRunIn sample.k rect part (length bytes)) run runs all))
    ∙ sym (sum_by-cons (run_error bytes sample from) run runs)

-- what comes after it is the last piece
pub last_piece : {X : Type 0} (n : ℕ) (all more : List X) → length more ≡ n → take n (drop (length all) (all ++ more)) ≡ more
last_piece n all more long = ap (take n) (drop-append_seam all more) ∙ ap (λ m. take m more) (sym long) ∙ take-length more

one_more : (bytes : List ℕ) (sample : Cells) (from : At) (runs : List FilledRun) (run : FilledRun) → sum_by (run_error bytes sample from) (runs ++ run ∷ []) ≡ sum_by (run_error bytes sample from) runs + run_error bytes sample from run
one_more bytes sample from runs run =
    sum_by-append (run_error bytes sample from) runs (run ∷ [])
    ∙ ap (λ rest. sum_by (run_error bytes sample from) runs + rest) (let e : sum_by (run_error bytes sample from) (run ∷ []) ≡ run_error bytes sample from run = omega (arith, sum_by-cons (run_error bytes sample from) run []) in e)

-- runs with one more
pub record IsOneMore (canvas : CanvasState) (rect : Box3) (x y f n : ℕ) (was now : FilledRuns) : Type 0 where
  pub run : FilledRun
  pub row : List ℕ
  pub part : now.part ≡ was.part
  pub runs : now.runs.items ≡ was.runs.items ++ run ∷ []
  pub bytes : now.bytes.items ≡ was.bytes.items ++ row
  pub step : run.step ≡ spot x y f
  pub long : run.w ≡ n
  pub start : run.start ≡ length was.bytes.items
  pub offset : run.offset ≡ raster_index was.part x y f
  pub row_is : row ≡ row_at canvas.picture (plus rect.corner (spot x y f)) n
  pub row_long : length row ≡ canvas.picture.k * n

pub more_runs_in : (canvas : CanvasState) (rect : Box3) (x y f n : ℕ) (was now : FilledRuns) → IsOneMore canvas rect x y f n was now → 1 ≤ n → IsInRow rect (x + n) y f → AreRunsIn canvas.picture.k rect was → AreRunsIn canvas.picture.k rect now
more_runs_in canvas rect x y f n was now is some row all =
    let k = canvas.picture.k in
    let total : length now.bytes.items ≡ length was.bytes.items + k * n = ap length is.bytes ∙ length-append was.bytes.items is.row ∙ ap (λ m. length was.bytes.items + m) is.row_long in
    let weaker : (run : FilledRun) → IsRunIn k rect was.part (length was.bytes.items) run → IsRunIn k rect was.part (length now.bytes.items) run
    = λ run in_was. record { x = in_was.x; y = in_was.y; f = in_was.f; step = in_was.step; some = in_was.some; row = in_was.row; whole = omega (arith, in_was.whole, total); offset = in_was.offset } in
    let last : IsRunIn k rect was.part (length now.bytes.items) is.run = record {
      x = x;
      y = y;
      f = f;
      step = is.step;
      some = omega (arith, is.long, some);
      row = subst (λ m. IsInRow rect (x + m) y f) (sym is.long) row;
      whole = omega (arith, total, is.start, ap (λ m. k * m) is.long);
      offset = is.offset;
    } in
    record {
      axes = subst HasAxes (sym is.part) all.axes;
      each =
          subst (λ part. All (IsRunIn k rect part (length now.bytes.items)) now.runs.items) (sym is.part)
          (subst (λ runs. All (IsRunIn k rect was.part (length now.bytes.items)) runs) (sym is.runs)
          (All-push (IsRunIn k rect was.part (length now.bytes.items)) was.runs.items is.run (λ i d lt. weaker _ (all.each i d lt)) last));
    }

pub more_error : (canvas : CanvasState) (rect : Box3) (x y f n : ℕ) (was now : FilledRuns) → IsCanvas canvas → IsOneMore canvas rect x y f n was now → 1 ≤ n → IsInRow rect (x + n) y f
    → ((j : ℕ) → j < n → IsFilled canvas.map (plus rect.corner (spot (x + j) y f))) → AreRunsIn canvas.picture.k rect was → AddsRun canvas rect x y f n was now
more_error canvas rect x y f n was now canvas_is is some row filled all = λ sample from laid.
    let in_was : All (IsRunIn sample.k rect was.part (length was.bytes.items)) was.runs.items = subst (λ k. All (IsRunIn k rect was.part (length was.bytes.items)) was.runs.items) laid.stands.samples all.each in
    let long : length is.row ≡ sample.k * is.run.w = is.row_long ∙ (λ t. laid.stands.samples t * sym is.long t) in
    let bytes = was.bytes.items ++ is.row in
    (λ t. sum_by (run_error (is.bytes t) sample from) (is.runs t))
    ∙ one_more bytes sample from was.runs.items is.run
    ∙ ap (λ front. front + run_error bytes sample from is.run) (same_errors rect was.part was.bytes.items is.row sample from was.runs.items in_was)
    ∙ ap (λ last. sum_by (run_error was.bytes.items sample from) was.runs.items + last)
    ((λ t. sum_of_squared_differences ((ap (λ s. take (sample.k * is.run.w) (drop s bytes)) is.start ∙ last_piece (sample.k * is.run.w) was.bytes.items is.row long ∙ is.row_is) t) (row_at sample (plus from (is.step t)) (is.long t)))
    ∙ run_is_error canvas sample (laid_from rect from) canvas_is laid.volume laid.stands laid.fits y f row.row_in row.frame_in x n some row.columns_in filled)

-- one more term
pub adds_more : (canvas : CanvasState) (rect : Box3) (was mid now : FilledRuns) (n : ℕ) (g : ℕ → Cells → At → ℕ) → AddsError canvas rect was mid (λ sample from. sum_to n (λ i. g i sample from)) → AddsError canvas rect mid now (g n)
    → AddsError canvas rect was now (λ sample from. sum_to (n + 1) (λ i. g i sample from))
adds_more canvas rect was mid now n g first then = λ sample from laid.
    let more : sum_to (n + 1) (λ i. g i sample from) ≡ sum_to n (λ i. g i sample from) + g n sample from = sum_more counts n (λ i. g i sample from) in
    omega (arith, first sample from laid, then sample from laid, more)

-- the cells of a row up to one, and a run after them
pub row_more : (canvas : CanvasState) (rect : Box3) (was mid now : FilledRuns) (x y f n : ℕ) → AddsError canvas rect was mid (λ sample from. sum_to x (λ i. spot_error canvas.map sample (laid_from rect from) i y f)) → AddsRun canvas rect x y f n mid now
    → AddsError canvas rect was now (λ sample from. sum_to (x + n) (λ i. spot_error canvas.map sample (laid_from rect from) i y f))
row_more canvas rect was mid now x y f n first then = λ sample from laid.
    let g = λ (i : ℕ). spot_error canvas.map sample (laid_from rect from) i y f in
    let both : sum_to (x + n) g ≡ sum_to x g + sum_to n (λ j. g (x + j)) = sum_split counts x n g in
    omega (arith, first sample from laid, then sample from laid, both)

-- an unfilled cell after them
pub row_none : (canvas : CanvasState) (rect : Box3) (was now : FilledRuns) (x y f : ℕ) → AddsError canvas rect was now (λ sample from. sum_to x (λ i. spot_error canvas.map sample (laid_from rect from) i y f)) → (IsFilled canvas.map (cell_in rect x y f) → ⊥)
    → AddsError canvas rect was now (λ sample from. sum_to (x + 1) (λ i. spot_error canvas.map sample (laid_from rect from) i y f))
row_none canvas rect was now x y f first not = λ sample from laid.
    let g = λ (i : ℕ). spot_error canvas.map sample (laid_from rect from) i y f in
    let more : sum_to (x + 1) g ≡ sum_to x g + g x = sum_more counts x g in
    omega (arith, first sample from laid, more, unfilled_error canvas.map sample (laid_from rect from) x y f not)

-- a sum of terms and the next one are within the sum of all
pub part_of_sum : {Run : Type 0} (error : Run → ℕ) (seen runs : List Run) (i : ℕ) (d : Run) (sum more total : ℕ) → seen ≡ runs → i < length seen → more ≡ error (get_or seen i d) → sum ≡ sum_by error (take i runs) → sum_by error runs ≡ total → sum + more ≤ total
part_of_sum error seen runs i d sum more total same lt is so_far whole =
    omega (arith, sum_by_more_le error seen i d lt, is, so_far, ap (λ xs. sum_by error (take i xs)) same, ap (sum_by error) same, whole)
