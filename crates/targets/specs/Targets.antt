-- A reader has to trust this file. How far the cells of a placement are from those of a target, and
-- how a placement is rated by both its target and what is there. (Efros and Freeman 2001 weigh
-- the two errors by alpha; that it counts in hundredths is own.)
use Rattle.std.specs.Prelude.{◌≡◌, ◌+◌, ◌-◌, ◌*◌, ℕ, Some, nat_le}
use Rattle.boxes.specs.Sums.{sum_box, sum_to}
use Rattle.cells.specs.declared.place.Size.{Size}
use Rattle.cells.specs.Boxes.{cell_in}
use Rattle.cells.specs.Cells.{Cells, IsOnePart, bytes_of}
use Rattle.lane_kernels.specs.Sums.{sum_of_squared_differences}
use Rattle.map_canvas.specs.declared.canvas.Placement.{Placement}
use Rattle.map_canvas.specs.Choices.{new_source}
use Rattle.map_canvas.specs.Maps.{SourceMap, sample_cell}
use Rattle.match_error.specs.Errors.{error_sum}
use Rattle.patch_picks.specs.Picks.{is_eligible}
use Rattle.quilted.specs.Runs.{Rating}

-- a target of one part, which has the output's size and cells of as many samples as the sample's
pub record IsTargetOf (output : Size) (sample target : Cells) : Type 0 where
  pub part : IsOnePart target
  pub size : target.size ≡ output
  pub samples : target.k ≡ sample.k

-- the squared difference of the target's cell at a place of the box and the cell that comes there
abbrev pub target_spot : Cells → Cells → Placement → ℕ → ℕ → ℕ → ℕ
target_spot target sample placement x y f = sum_of_squared_differences
    (sample_cell target (Some (cell_in placement.rect x y f)))
    (sample_cell sample (Some (new_source placement (cell_in placement.rect x y f))))

-- the sum over a row of the box, and over a frame of it
abbrev pub target_row : Cells → Cells → Placement → ℕ → ℕ → ℕ
target_row target sample placement y f =
    sum_to placement.rect.size.w (λ x. target_spot target sample placement x y f)

abbrev pub target_frame : Cells → Cells → Placement → ℕ → ℕ
target_frame target sample placement f =
    sum_to placement.rect.size.h (λ y. target_row target sample placement y f)

-- the sum over all cells of the box
abbrev pub target_sum : Cells → Cells → Placement → ℕ
target_sum target sample placement =
    sum_box placement.rect.size (λ x y f. target_spot target sample placement x y f)

-- the error of a placement: alpha hundredths of its overlap error, and the others of its distance
-- from the target
abbrev pub weighed_sum : ℕ → Cells → Cells → SourceMap → Placement → ℕ
weighed_sum alpha target sample m placement =
    alpha * error_sum m sample placement + (100 - alpha) * target_sum target sample placement

-- each counts once, whatever it lays over: so a candidate is eligible where a hundred times its
-- error is at most 100 + tol times the least error
abbrev pub by_target : ℕ → Cells → Cells → Rating
by_target alpha target sample m placement =
    record { sum = weighed_sum alpha target sample m placement; count = 1 }

-- what a reader expects of the rating: a candidate is eligible exactly where a hundred times its
-- error is at most 100 + tol times the best error
abbrev pub EligibleByError : ℕ → Cells → Cells → Type 0
EligibleByError alpha target sample =
    (tol : ℕ) (m : SourceMap) (best other : Placement)
    → is_eligible tol (by_target alpha target sample m best) (by_target alpha target sample m other)
    ≡ nat_le (weighed_sum alpha target sample m other * 100)
    (weighed_sum alpha target sample m best * (100 + tol))

-- how far a picture is from the target: the sum of the squared differences of their bytes
abbrev pub matched : Cells → Cells → ℕ
matched picture target = sum_of_squared_differences (bytes_of picture) (bytes_of target)
