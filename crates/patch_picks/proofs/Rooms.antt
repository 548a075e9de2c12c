-- How many places a part has.
use Rattle.std.proofs.Common.{◌*◌, ◌≤◌, arith}
use Rattle.std.proofs.Math.Nat.{mul-le-mul}
use Rattle.cells.specs.declared.place.Size.{Size}
use Rattle.cells.specs.Places.{IsSmall, HasAxes, cell_count}
use Rattle.patch_picks.specs.declared.candidates.Candidates.{Candidates}
use Rattle.patch_picks.specs.declared.candidates.Candidates.TheVariants.{One, Laid, Fits}
use Rattle.patch_picks.specs.Lists.{first_half, room}
use Rattle.patch_picks.specs.Counts.{FitsCount, steps_in}

-- at most twice as many steps on each axis as the part has cells, so eight times as many together
within_eight : (part made : Size) → made.w ≤ 2 * part.w → made.h ≤ 2 * part.h → made.f ≤ 2 * part.f → cell_count made ≤ 8 * cell_count part
within_eight part made w h f = omega (arith, mul-le-mul w (mul-le-mul h f))

-- a box has at most one more place on each axis than the part has cells
pub room_few : (part inner : Size) → HasAxes part → cell_count (room part inner) ≤ 8 * cell_count part
room_few part inner axes = within_eight part (room part inner) (omega (arith, axes.w)) (omega (arith, axes.h)) (omega (arith, axes.f))

pub room_fits : (part inner : Size) → IsSmall part → FitsCount (room part inner)
room_fits part inner small = record {
  w = omega (arith, small.axes.w);
  h = omega (arith, small.axes.h);
  f = omega (arith, small.axes.f);
  cells = omega (arith, small.cells, room_few part inner small.axes);
}

pub steps_few : (list : Candidates) (part : Size) → HasAxes part → cell_count (steps_in list part) ≤ 8 * cell_count part
steps_few (One placement) part axes = within_eight part (record { w = 1; h = 1; f = 1 }) (omega (arith, axes.w)) (omega (arith, axes.h)) (omega (arith, axes.f))
steps_few (Laid q) part axes = within_eight part (first_half part) (omega (arith, axes.w)) (omega (arith, axes.h)) (omega (arith, axes.f))
steps_few (Fits rect) part axes = room_few part rect.size axes
