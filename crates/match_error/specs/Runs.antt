-- The filled cells of a box, gathered as runs, for the contracts of this crate; a reader has to
-- trust `AreFilledRuns` alone, and of it only that it serves `FilledRuns`.
use Rattle.std.specs.Prelude.{◌≡◌, ◌≤◌, ◌<◌, ◌+◌, ◌*◌, ℕ, List, All, Some, length, drop, take}
use Rattle.std.specs.List.{sum_by}
use Rattle.cells.specs.declared.place.At.{At}
use Rattle.cells.specs.declared.place.Box3.{Box3}
use Rattle.cells.specs.declared.place.Size.{Size}
use Rattle.cells.specs.Cells.{Cells, IsVolume, row_at}
use Rattle.cells.specs.Places.{HasAxes, index_in, plus, raster_index, spot}
use Rattle.boxes.specs.Sums.{sum_to}
use Rattle.lane_kernels.specs.Sums.{sum_of_squared_differences}
use Rattle.map_canvas.specs.Canvases.{CanvasState, StandsOver}
use Rattle.map_canvas.specs.Choices.{Fits, laid_from}
use Rattle.map_canvas.specs.CellErrors.{spot_error}
use Rattle.match_error.specs.declared.gathered.FilledRun.{FilledRun}
use Rattle.match_error.specs.declared.gathered.FilledRuns.{FilledRuns}
use Rattle.match_error.specs.Errors.{error_sum, frame_error, row_error}

-- so many columns are in a row of the box
pub record IsInRow (rect : Box3) (columns y f : ℕ) : Type 0 where
  pub columns_in : columns ≤ rect.size.w
  pub row_in : y < rect.size.h
  pub frame_in : f < rect.size.f

-- a run lies in a row of the box, and its bytes among so many; its offset is the count of cells from
-- the box's first one to its own in a part of a size, wherever in the part the box lies
pub record IsRunIn (k : ℕ) (rect : Box3) (part : Size) (bytes : ℕ) (run : FilledRun) : Type 0 where
  pub x : ℕ
  pub y : ℕ
  pub f : ℕ
  pub step : run.step ≡ spot x y f
  pub some : 1 ≤ run.w
  pub row : IsInRow rect (x + run.w) y f
  pub whole : run.start + k * run.w ≤ bytes
  pub offset : run.offset ≡ raster_index part x y f

-- each run does
pub record AreRunsIn (k : ℕ) (rect : Box3) (runs : FilledRuns) : Type 0 where
  pub axes : HasAxes runs.part
  pub each : All (IsRunIn k rect runs.part (length runs.bytes.items)) runs.runs.items

-- a place of a sample's first part has this index, and the part's rows and frames are as long as
-- those of a size
pub record IsFrontIndex (part : Size) (sample : Cells) (at : At) (i : ℕ) : Type 0 where
  pub w : sample.size.w ≡ part.w
  pub h : sample.size.h ≡ part.h
  pub index : index_in sample.size at ≡ Some i

-- the squared differences of a run's bytes from a row of the sample, where the box is laid from a
-- place on; and of all runs
abbrev pub run_error : List ℕ → Cells → At → FilledRun → ℕ
run_error bytes sample from run = sum_of_squared_differences
    (take (sample.k * run.w) (drop run.start bytes)) (row_at sample (plus from run.step) run.w)

abbrev pub runs_error : FilledRuns → Cells → At → ℕ
runs_error runs sample from = sum_by (run_error runs.bytes.items sample from) runs.runs.items

-- a box is laid from a place of a sample that the canvas stands over
pub record IsLaidOver (canvas : CanvasState) (rect : Box3) (sample : Cells) (from : At) : Type 0 where
  pub volume : IsVolume sample
  pub stands : StandsOver canvas sample
  pub fits : Fits canvas.map.size sample (laid_from rect from)

-- other runs have so much more error, however the box is laid
abbrev pub AddsError : CanvasState → Box3 → FilledRuns → FilledRuns → (Cells → At → ℕ) → Type 0
AddsError canvas rect was now more =
    (sample : Cells) (from : At) → IsLaidOver canvas rect sample from
    → runs_error now sample from ≡ runs_error was sample from + more sample from

-- that of n cells of a row from one on, of a row and of a frame
abbrev pub AddsRun : CanvasState → Box3 → ℕ → ℕ → ℕ → ℕ → FilledRuns → FilledRuns → Type 0
AddsRun canvas rect x y f n was now = AddsError canvas rect was now
    (λ sample from. sum_to n (λ j. spot_error canvas.map sample (laid_from rect from) (x + j) y f))

abbrev pub AddsRow : CanvasState → Box3 → ℕ → ℕ → FilledRuns → FilledRuns → Type 0
AddsRow canvas rect y f was now =
    AddsError canvas rect was now (λ sample from. row_error canvas.map sample (laid_from rect from) y f)

abbrev pub AddsFrame : CanvasState → Box3 → ℕ → FilledRuns → FilledRuns → Type 0
AddsFrame canvas rect f was now =
    AddsError canvas rect was now (λ sample from. frame_error canvas.map sample (laid_from rect from) f)

-- the runs are those of the filled cells of the box: however it is laid, their error is that of the
-- definition
pub record AreFilledRuns (canvas : CanvasState) (rect : Box3) (runs : FilledRuns) : Type 0 where
  pub inside : AreRunsIn canvas.picture.k rect runs
  pub error : (sample : Cells) (from : At) → IsLaidOver canvas rect sample from
      → runs_error runs sample from ≡ error_sum canvas.map sample (laid_from rect from)
