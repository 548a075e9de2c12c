-- The cells of a plan: their places and new sources have coordinates of 32 bits.
use Rattle.std.proofs.Common.{ℕ, ◌<◌, ◌≤◌, arith, rules}
use Rattle.std.proofs.lemmas.Int.{ints}
use Rattle.std.specs.Prelude.{ℤ, pos, negsuc, ◌≤ℤ◌, FitsSigned}
use Rattle.std.specs.Int.{w32}
use Rattle.limits.specs.declared.bounds.TheConstants.{GREATEST_AXIS}
use Rattle.cells.specs.declared.place.At.{At}
use Rattle.cells.specs.Boxes.{IsInBox}
use Rattle.cells.specs.Places.{DifferenceFits, SumFits, index_in, minus, plus}
use Rattle.cells.proofs.Raster.{OnAxis, has_index, index_parts}
use Rattle.map_canvas.specs.Maps.{IsSource}
use Rattle.map_canvas.proofs.Filling.{fits_small, step_source, step_sum}
use Rattle.cut_graph.specs.declared.plan.Plan.{Plan}
use Rattle.cut_graph.specs.Plans.{IsPlan}

near_fits : (z : ℤ) → pos 0 ≤ℤ z → z ≤ℤ pos GREATEST_AXIS → FitsSigned w32 z
near_fits (pos d) low high = let lt : d < 4097 = omega (arith, ints, high) in search rules
near_fits (negsuc d) low high = absurd (omega (arith, ints, low))

count_fits : (z : ℤ) (c n : ℕ) → OnAxis n z c → n ≤ GREATEST_AXIS → FitsSigned w32 z
count_fits z c n on le = near_fits z (omega (arith, ints, on.is)) (omega (arith, ints, on.is, on.below))

pub record CellFits (plan : Plan) (p : At) : Type 0 where
  pub difference : DifferenceFits p plan.placement.rect.corner
  pub sum : SumFits plan.placement.from (minus p plan.placement.rect.corner)
  pub source : IsSource (plus plan.placement.from (minus p plan.placement.rect.corner))

pub cell_fits : (plan : Plan) (p : At) → IsPlan plan → IsInBox plan.placement.rect p → CellFits plan p
cell_fits plan p is inside =
    let size = plan.placement.rect.size in
    let step = minus p plan.placement.rect.corner in
    let at = index_parts size step _ (has_index (index_in size step) 0 inside) in
    let small = fits_small plan.map.now.size plan.sample.now plan.placement is.fits is.over.small in
    record {
      difference = record {
        x = count_fits step.x at.x size.w at.x_on small.axes.w.1;
        y = count_fits step.y at.y size.h at.y_on small.axes.h.1;
        f = count_fits step.f at.f size.f at.f_on small.axes.f.1;
      };
      sum = step_sum plan.map.now.size plan.sample.now plan.placement is.fits is.volume step inside;
      source = (step_source plan.map.now.size plan.sample.now plan.placement is.fits is.volume step inside).source;
    }
