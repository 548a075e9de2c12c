-- A reader has to trust this file. Seam costs. (Kwatra et al. 2003: at a seam each of two
-- neighbours is compared with what is beside the other in the sample.)
--
-- A map is read as what it says at each place: the source of the cell, or nothing where the cell is
-- unfilled or outside the output. Sources are compared by any distance d of sample places.
use Rattle.std.specs.Prelude.{ℕ, ◌+◌, ◌*◌, Option, Some, None, if◌then◌else◌}
use Rattle.cells.specs.declared.place.At.{At}
use Rattle.cells.specs.declared.place.Size.{Size}
use Rattle.cells.specs.declared.place.Axis.{Axis}
use Rattle.cells.specs.declared.place.Axis.TheVariants.{X, Y, F}
use Rattle.cells.specs.declared.place.Box3.{Box3}
use Rattle.cells.specs.Places.{IsNearAxis, plus, minus, spot}
use Rattle.cells.specs.Neighbours.{unit_step}
use Rattle.cells.specs.Boxes.{cell_in}
use Rattle.boxes.specs.Sums.{sum_box, sum_to}
use Rattle.boxes.specs.Pairs.{in_box}
use Rattle.limits.specs.declared.bounds.TheConstants.{GREATEST_AXIS}

-- the cost of a cell of source a and the next one along an axis, of source b: how far a is from
-- what comes before b in the sample, and what comes after a from b
abbrev pub seam : (At → At → ℕ) → Axis → At → At → ℕ
seam d axis a b = d a (minus b (unit_step axis)) + d (plus a (unit_step axis)) b

-- nothing where one of the two cells isn't filled
abbrev pub seam_of : (At → At → ℕ) → Axis → Option At → Option At → ℕ
seam_of d axis (Some a) (Some b) = seam d axis a b
seam_of d axis (Some a) None = 0
seam_of d axis None b = 0

-- the cost of the cell at a place and the next one along an axis
abbrev pub pair_at : (At → At → ℕ) → (At → Option At) → Axis → At → ℕ
pair_at d m axis p = seam_of d axis (m p) (m (plus p (unit_step axis)))

-- that of the cell at a place and the next one along each axis
abbrev pub pairs_at : (At → At → ℕ) → (At → Option At) → At → ℕ
pairs_at d m p = pair_at d m X p + pair_at d m Y p + pair_at d m F p

-- the total of a map of a size: over all neighbours of the output
abbrev pub total_of : (At → At → ℕ) → Size → (At → Option At) → ℕ
total_of d size m = sum_box size (λ x y f. pairs_at d m (spot x y f))

-- the map with nothing outside a box
abbrev pub map_within : Box3 → (At → Option At) → At → Option At
map_within rect m p = if in_box rect p then m p else None

-- over the cells of a box, the costs of each and the next one along each axis
abbrev pub pairs_of_box : (At → At → ℕ) → (At → Option At) → Box3 → ℕ
pairs_of_box d m rect = sum_box rect.size (λ x y f. pairs_at d m (cell_in rect x y f))

-- over the cells of a row, and of a frame
abbrev pub pairs_of_row : (At → At → ℕ) → (At → Option At) → Box3 → ℕ → ℕ → ℕ
pairs_of_row d m rect y f = sum_to rect.size.w (λ x. pairs_at d m (cell_in rect x y f))

abbrev pub pairs_of_frame : (At → At → ℕ) → (At → Option At) → Box3 → ℕ → ℕ
pairs_of_frame d m rect f = sum_to rect.size.h (λ y. pairs_of_row d m rect y f)

-- the window sum of a box: over all neighbours in the box
abbrev pub window_of : (At → At → ℕ) → Box3 → (At → Option At) → ℕ
window_of d rect m = pairs_of_box d (map_within rect m) rect

-- the most that a pair costs: two distances, each of 6 samples
abbrev pub most_of_pair : ℕ
most_of_pair = 3060

-- the most that the pairs of a cell, a row or a frame cost
abbrev pub most_of_cell : ℕ
most_of_cell = 3 * most_of_pair

abbrev pub most_of_row : ℕ
most_of_row = GREATEST_AXIS * most_of_cell

abbrev pub most_of_frame : ℕ
most_of_frame = GREATEST_AXIS * most_of_row

-- a place that may be asked for a source: a cell of an output, or the next one along an axis
pub record IsAsked (p : At) : Type 0 where
  pub x : IsNearAxis p.x
  pub y : IsNearAxis p.y
  pub f : IsNearAxis p.f
