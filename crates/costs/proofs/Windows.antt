-- The window sum of a box, pair by pair.
use Rattle.std.proofs.Common.{◌≡◌, ℕ, ◌+◌, refl, ◌∙◌, Bool, true, false}
use Rattle.std.specs.Prelude.{Option, None, if◌then◌else◌}
use Rattle.cells.specs.declared.place.At.{At}
use Rattle.cells.specs.declared.place.Axis.{Axis}
use Rattle.cells.specs.declared.place.Axis.TheVariants.{X, Y, F}
use Rattle.cells.specs.declared.place.Box3.{Box3}
use Rattle.cells.specs.Places.{plus}
use Rattle.cells.specs.Neighbours.{unit_step}
use Rattle.cells.specs.Boxes.{cell_in}
use Rattle.boxes.specs.Sums.{sum_box}
use Rattle.boxes.proofs.Additions.{counts}
use Rattle.boxes.proofs.Boxes.{box_equal}
use Rattle.boxes.specs.Pairs.{AreCounts, has_next}
use Rattle.boxes.proofs.Cells.{cell_inside, next_in_box}
use Rattle.costs.specs.Costs.{map_within, pair_at, seam_of, window_of}
use Rattle.costs.proofs.Locality.{seam_none}

module _ (d : At → At → ℕ) (rect : Box3) (m : At → Option At) where
  -- the cost of a pair of the box; nothing where the box has no next cell
  abbrev pub pair_within : Axis → ℕ → ℕ → ℕ → ℕ
  pair_within axis x y f = if has_next rect.size axis x y f then pair_at d m axis (cell_in rect x y f) else 0

  pair_within_is : (axis : Axis) (x y f : ℕ) → AreCounts rect.size x y f → pair_at d (map_within rect m) axis (cell_in rect x y f) ≡ pair_within axis x y f
  pair_within_is axis x y f at =
      (λ k. seam_of d axis (if cell_inside rect x y f at k then m (cell_in rect x y f) else None)
      (if next_in_box rect axis x y f at k then m (plus (cell_in rect x y f) (unit_step axis)) else None))
      ∙ by (has_next rect.size axis x y f)
    where
      by : (b : Bool) → seam_of d axis (m (cell_in rect x y f)) (if b then m (plus (cell_in rect x y f) (unit_step axis)) else None) ≡ (if b then pair_at d m axis (cell_in rect x y f) else 0)
      by true = refl
      by false = seam_none d axis (m (cell_in rect x y f))

  -- the window sum is the sum over the cells of the box of the costs of the pairs that each is the first of
  pub window_pairs : window_of d rect m ≡ sum_box rect.size (λ x y f. pair_within X x y f + pair_within Y x y f + pair_within F x y f)
  window_pairs = box_equal counts rect.size _ _ (λ x y f lx ly lf. let at : AreCounts rect.size x y f = record { column = lx; row = ly; frame = lf } in
      (λ k. pair_within_is X x y f at k + pair_within_is Y x y f at k + pair_within_is F x y f at k))
