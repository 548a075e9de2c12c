-- What a search leaves out. A reader has to trust this file. (Own.)
use Rattle.std.specs.Prelude.{◌≤◌, ◌<◌, ◌*◌, ℕ, All}
use Rattle.cells.specs.declared.place.At.{At}
use Rattle.cells.specs.declared.place.Box3.{Box3}
use Rattle.cells.specs.Boxes.{IsInBox}
use Rattle.cells.specs.Cells.{Cells}
use Rattle.map_canvas.specs.Canvases.{CanvasState}
use Rattle.map_canvas.specs.Choices.{laid_from}
use Rattle.match_error.specs.Errors.{error_sum}
use Rattle.search_squares.specs.declared.eliminated.Eliminated.{Eliminated}
use Rattle.search_squares.specs.declared.levels.BoxLevels.{BoxLevels}
use Rattle.search_squares.specs.declared.levels.SampleSums.{SampleSums}
use Rattle.search_squares.specs.Blocks.{AreBoxBlocks}
use Rattle.search_squares.specs.Bounds.{IsMarked, place_along}
use Rattle.search_squares.specs.Sums.{AreBlockSums}

-- of the places of a run those that are marked have sums above the run's limit
abbrev pub AreEliminatedBy : (At → ℕ) → Eliminated → Type 0
AreEliminatedBy sum run =
    (j : ℕ) → j < run.n → IsMarked run.above j → run.limit < sum (place_along run.from j)

-- the error of a box laid from a place
abbrev pub error_from : CanvasState → Cells → Box3 → At → ℕ
error_from canvas sample rect from = error_sum canvas.map sample (laid_from rect from)

-- of the places of a run those that are marked have errors above the run's limit
abbrev pub AreEliminated : CanvasState → Cells → Box3 → Eliminated → Type 0
AreEliminated canvas sample rect run = AreEliminatedBy (error_from canvas sample rect) run

-- the places of a run, as a box
abbrev pub run_box : Eliminated → Box3
run_box run = record { corner = run.from; size = record { w = run.n; h = 1; f = 1 } }

-- the place is one of them
abbrev pub IsInRun : Eliminated → At → Type 0
IsInRun run at = IsInBox (run_box run) at

-- the sum of a place is above a limit, whatever sums the run was made for
abbrev pub IsEliminated : Eliminated → At → ℕ → Type 0
IsEliminated run at limit = (sum : At → ℕ) → AreEliminatedBy sum run → limit < sum at

-- other sums are at least so many times these
abbrev pub AreAtLeastTimes : ℕ → (At → ℕ) → (At → ℕ) → Type 0
AreAtLeastTimes n sum other = (at : At) → n * sum at ≤ other at

-- the sums are sums of blocks of one sample
abbrev pub AreSampleSums : Cells → SampleSums → Type 0
AreSampleSums sample sums = All (AreBlockSums sample) sums.levels.items

-- the blocks are blocks of one box, of several sizes
abbrev pub AreBoxLevels : CanvasState → Box3 → BoxLevels → Type 0
AreBoxLevels canvas rect levels = All (AreBoxBlocks canvas rect) levels.levels.items
