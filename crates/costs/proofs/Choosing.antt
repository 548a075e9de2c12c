-- What the cells of a placement's box have after a choice, by their counts.
use Rattle.std.proofs.Common.{◌≡◌, ℕ, refl, ap, sym, ◌∙◌, subst, arith, Bool, true, false, List, get_or}
use Rattle.std.proofs.lemmas.Int.{ints}
use Rattle.std.specs.Prelude.{ℤ, ◌+ℤ◌, ◌-ℤ◌, Option, Some, None, IsSome, if◌then◌else◌}
use Rattle.cells.specs.declared.place.At.{At}
use Rattle.cells.specs.declared.place.Axis.{Axis}
use Rattle.cells.specs.declared.place.Size.{Size}
use Rattle.cells.specs.Cells.{Cells, IsVolume}
use Rattle.cells.specs.Distances.{distance}
use Rattle.cells.specs.Neighbours.{unit_step}
use Rattle.cells.specs.Places.{IsInside, SumFits, index_in, plus, raster_index, spot}
use Rattle.cells.specs.Boxes.{cell_in}
use Rattle.cells.proofs.BoxLaws.{plus_minus}
use Rattle.cells.proofs.Raster.{index_of_spot}
use Rattle.map_canvas.specs.declared.canvas.Placement.{Placement}
use Rattle.map_canvas.specs.Choices.{Fits, after_at, box_index, chosen, new_source}
use Rattle.map_canvas.specs.Maps.{SourceMap, IsSource, map_at}
use Rattle.map_canvas.proofs.Filling.{step_source, step_sum}
use Rattle.boxes.specs.Pairs.{AreCounts, has_next}
use Rattle.boxes.proofs.Cells.{cell_inside, next_in_box}
use Rattle.costs.specs.Choosing.{within_after}
use Rattle.costs.specs.Costs.{pair_at, seam_of}
use Rattle.costs.proofs.Copies.{seam_of_copies}

-- the place as far from the first cell is inside the box
step_inside : (size : Size) (x y f : ℕ) → AreCounts size x y f → IsInside size (spot x y f)
step_inside size x y f are = subst IsSome (sym (index_of_spot size x y f are.column are.row are.frame)) refl

pub step_fits : (output : Size) (sample : Cells) (placement : Placement) (x y f : ℕ) → Fits output sample placement → IsVolume sample → AreCounts placement.rect.size x y f → SumFits placement.from (spot x y f)
step_fits output sample placement x y f fits is are = step_sum output sample placement fits is (spot x y f) (step_inside placement.rect.size x y f are)

pub step_near : (output : Size) (sample : Cells) (placement : Placement) (x y f : ℕ) → Fits output sample placement → IsVolume sample → AreCounts placement.rect.size x y f → IsSource (plus placement.from (spot x y f))
step_near output sample placement x y f fits is are = (step_source output sample placement fits is (spot x y f) (step_inside placement.rect.size x y f are)).source

module _ (m : SourceMap) (placement : Placement) (choice : List Bool) where
  index_is : (x y f : ℕ) → AreCounts placement.rect.size x y f → box_index placement (cell_in placement.rect x y f) ≡ Some (raster_index placement.rect.size x y f)
  index_is x y f are = ap (index_in placement.rect.size) (plus_minus placement.rect.corner (spot x y f)) ∙ index_of_spot placement.rect.size x y f are.column are.row are.frame

  abbrev says : ℕ → ℕ → ℕ → Bool → Type 0
  says x y f b = get_or choice (raster_index placement.rect.size x y f) false ≡ b

  -- a cell of the box by what the choice says of it
  within_is : (x y f : ℕ) (b : Bool) → AreCounts placement.rect.size x y f → says x y f b
      → within_after m placement choice (cell_in placement.rect x y f) ≡ (if b then Some (new_source placement (cell_in placement.rect x y f)) else map_at m (cell_in placement.rect x y f))
  within_is x y f b are is =
      ap (λ b. if b then after_at m placement choice (cell_in placement.rect x y f) else None) (cell_inside placement.rect x y f are)
      ∙ ap (λ b. if b then Some (new_source placement (cell_in placement.rect x y f)) else map_at m (cell_in placement.rect x y f)) (ap (chosen choice) (index_is x y f are) ∙ is)

  pub within_new : (x y f : ℕ) → AreCounts placement.rect.size x y f → says x y f true → within_after m placement choice (cell_in placement.rect x y f) ≡ Some (plus placement.from (spot x y f))
  within_new x y f are is = within_is x y f true are is ∙ ap (λ step. Some (plus placement.from step)) (plus_minus placement.rect.corner (spot x y f))

  pub within_old : (x y f : ℕ) → AreCounts placement.rect.size x y f → says x y f false → within_after m placement choice (cell_in placement.rect x y f) ≡ map_at m (cell_in placement.rect x y f)
  within_old x y f are is = within_is x y f false are is

  -- a cell with no next one along an axis, and two new cells, cost nothing
  none_after : (d : At → At → ℕ) (axis : Axis) (a : Option At) → seam_of d axis a None ≡ 0
  none_after d axis (Some a) = refl
  none_after d axis None = refl

  pub no_next : (d : At → At → ℕ) (axis : Axis) (x y f : ℕ) → AreCounts placement.rect.size x y f → has_next placement.rect.size axis x y f ≡ false
      → pair_at d (within_after m placement choice) axis (cell_in placement.rect x y f) ≡ 0
  no_next d axis x y f are none =
      ap (λ b. seam_of d axis (within_after m placement choice (cell_in placement.rect x y f)) (if b then after_at m placement choice (plus (cell_in placement.rect x y f) (unit_step axis)) else None))
      (next_in_box placement.rect axis x y f are ∙ none)
      ∙ none_after d axis (within_after m placement choice (cell_in placement.rect x y f))

  next_source : (p step : At) → new_source placement (plus p step) ≡ plus (new_source placement p) step
  next_source p step = λ k. record {
    x = moved placement.from.x p.x step.x placement.rect.corner.x k;
    y = moved placement.from.y p.y step.y placement.rect.corner.y k;
    f = moved placement.from.f p.f step.f placement.rect.corner.f k;
  }
    where
      moved : (from z step corner : ℤ) → from +ℤ ((z +ℤ step) -ℤ corner) ≡ (from +ℤ (z -ℤ corner)) +ℤ step
      moved from z step corner = omega (arith, ints)

  pub both_new : (v : Cells) (axis : Axis) (x y f a b c : ℕ) → AreCounts placement.rect.size x y f → AreCounts placement.rect.size a b c
      → plus (cell_in placement.rect x y f) (unit_step axis) ≡ cell_in placement.rect a b c → says x y f true → says a b c true
      → pair_at (distance v) (within_after m placement choice) axis (cell_in placement.rect x y f) ≡ 0
  both_new v axis x y f a b c are there next new new_there =
      let p = cell_in placement.rect x y f in
      let q = cell_in placement.rect a b c in
      (λ k. seam_of (distance v) axis (within_is x y f true are new k) ((ap (within_after m placement choice) next ∙ within_is a b c true there new_there) k))
      ∙ seam_of_copies v axis (new_source placement p) (new_source placement q) (sym (next_source p (unit_step axis)) ∙ ap (new_source placement) next)

  -- the cost of the pair of two cells of the box
  pub pair_is : (d : At → At → ℕ) (axis : Axis) (x y f a b c : ℕ) → plus (cell_in placement.rect x y f) (unit_step axis) ≡ cell_in placement.rect a b c
      → pair_at d (within_after m placement choice) axis (cell_in placement.rect x y f)
      ≡ seam_of d axis (within_after m placement choice (cell_in placement.rect x y f)) (within_after m placement choice (cell_in placement.rect a b c))
  pair_is d axis x y f a b c next = ap (λ q. seam_of d axis (within_after m placement choice (cell_in placement.rect x y f)) (within_after m placement choice q)) next
