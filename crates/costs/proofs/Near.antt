-- Sources, cells of an output, and the places beside them have coordinates of 32 bits.
use Rattle.std.proofs.Common.{◌≡◌, ℕ, ◌+◌, ◌<◌, ◌≤◌, refl, ap, ◌∙◌, sym, subst, arith, rules}
use Rattle.std.proofs.lemmas.Int.{ints}
use Rattle.std.specs.Prelude.{ℤ, pos, negsuc, ◌+ℤ◌, ◌-ℤ◌, ◌≤ℤ◌, Option, Some, None, FitsSigned}
use Rattle.std.specs.Int.{w32}
use Rattle.cells.specs.declared.place.At.{At}
use Rattle.cells.specs.declared.place.Size.{Size}
use Rattle.cells.specs.declared.place.Box3.{Box3}
use Rattle.cells.specs.declared.place.Axis.{Axis}
use Rattle.cells.specs.declared.place.Axis.TheVariants.{X, Y, F}
use Rattle.cells.specs.Places.{DifferenceFits, IsNearAxis, IsSmall, SumFits, index_in, plus}
use Rattle.cells.specs.Neighbours.{unit_step}
use Rattle.cells.specs.Boxes.{AxisHolds, HoldsBox, cell_in}
use Rattle.cells.proofs.Raster.{OnAxis, index_parts}
use Rattle.map_canvas.specs.Maps.{SourceMap, IsCoordinate, IsMap, IsSource, map_at, source_at}
use Rattle.boxes.specs.Pairs.{AreCounts}
use Rattle.boxes.specs.Raster.{largest}
use Rattle.limits.specs.declared.bounds.TheConstants.{GREATEST_AXIS}
use Rattle.costs.specs.Costs.{IsAsked}

-- a coordinate with a step of 0 or 1 is a number of 32 bits
sum_near : (z : ℤ) (n : ℕ) → IsCoordinate z → n ≤ GREATEST_AXIS → FitsSigned w32 (z +ℤ pos n)
sum_near (pos a) n near le = small (a + n) (omega (arith, ints, near.1))
  where
    small : (d : ℕ) → d ≤ 200000 → FitsSigned w32 (pos d)
    small d lt = search rules
sum_near (negsuc a) n near le = absurd (omega (arith, ints, near.0))

difference_near : (z : ℤ) (n : ℕ) → IsCoordinate z → n ≤ 1 → FitsSigned w32 (z -ℤ pos n)
difference_near z n near le = small (z -ℤ pos n) (omega (arith, ints, near.0)) (omega (arith, ints, near.1))
  where
    small : (d : ℤ) → negsuc 0 ≤ℤ d → d ≤ℤ pos 200000 → FitsSigned w32 d
    small d from to = search rules

-- the places beside a source
pub record StepFits (p : At) (axis : Axis) : Type 0 where
  pub ahead : SumFits p (unit_step axis)
  pub back : DifferenceFits p (unit_step axis)

pub step_fits : (p : At) (axis : Axis) → IsSource p → StepFits p axis
step_fits p X near = record {
  ahead = record { x = sum_near p.x 1 near.x (omega arith); y = sum_near p.y 0 near.y (omega arith); f = sum_near p.f 0 near.f (omega arith) };
  back = record { x = difference_near p.x 1 near.x (omega arith); y = difference_near p.y 0 near.y (omega arith); f = difference_near p.f 0 near.f (omega arith) };
}
step_fits p Y near = record {
  ahead = record { x = sum_near p.x 0 near.x (omega arith); y = sum_near p.y 1 near.y (omega arith); f = sum_near p.f 0 near.f (omega arith) };
  back = record { x = difference_near p.x 0 near.x (omega arith); y = difference_near p.y 1 near.y (omega arith); f = difference_near p.f 0 near.f (omega arith) };
}
step_fits p F near = record {
  ahead = record { x = sum_near p.x 0 near.x (omega arith); y = sum_near p.y 0 near.y (omega arith); f = sum_near p.f 1 near.f (omega arith) };
  back = record { x = difference_near p.x 0 near.x (omega arith); y = difference_near p.y 0 near.y (omega arith); f = difference_near p.f 1 near.f (omega arith) };
}

-- a filled cell is as near
pub filled_near : (m : SourceMap) → IsMap m → (p from : At) → map_at m p ≡ Some from → IsSource p
filled_near m is p from e = by (index_in m.size p) refl
  where
    coordinate : (z : ℤ) (c n : ℕ) → OnAxis n z c → n ≤ GREATEST_AXIS → IsCoordinate z
    coordinate z c n on le = subst IsCoordinate (sym on.is) (omega (arith, ints), omega (arith, ints, on.below))

    by : (o : Option ℕ) → index_in m.size p ≡ o → IsSource p
    by None out = let none : None ≡ Some from = ap (source_at m.sources) (sym out) ∙ e in cc
    by (Some i) at =
        let on = index_parts m.size p i at in
        record {
          x = coordinate p.x on.x m.size.w on.x_on is.small.axes.w.1;
          y = coordinate p.y on.y m.size.h on.y_on is.small.axes.h.1;
          f = coordinate p.f on.f m.size.f on.f_on is.small.axes.f.1;
        }

-- boxes inside an output, their cells and the places beside those
pub in_largest : (size : Size) (corner : At) (inner : Size) → IsSmall size → HoldsBox size corner inner → HoldsBox largest corner inner
in_largest size corner inner small box = record {
  x = record { from = box.x.from; to = omega (arith, ints, box.x.to, small.axes.w) };
  y = record { from = box.y.from; to = omega (arith, ints, box.y.to, small.axes.h) };
  f = record { from = box.f.from; to = omega (arith, ints, box.f.to, small.axes.f) };
}

-- a cell of a box and the next one along an axis may be asked for
cell_on : (z : ℤ) (len c : ℕ) → AxisHolds GREATEST_AXIS z len → c < len → IsNearAxis (z +ℤ pos c)
cell_on z len c box lt = (omega (arith, ints, box.from), omega (arith, ints, box.to))

next_on : (z : ℤ) (len c step : ℕ) → AxisHolds GREATEST_AXIS z len → c < len → step ≤ 1 → IsNearAxis ((z +ℤ pos c) +ℤ pos step)
next_on z len c step box lt le = (omega (arith, ints, box.from), omega (arith, ints, box.to))

pub cell_asked : (rect : Box3) (x y f : ℕ) → HoldsBox largest rect.corner rect.size → AreCounts rect.size x y f → IsAsked (cell_in rect x y f)
cell_asked rect x y f box are = record {
  x = cell_on rect.corner.x rect.size.w x box.x are.column;
  y = cell_on rect.corner.y rect.size.h y box.y are.row;
  f = cell_on rect.corner.f rect.size.f f box.f are.frame;
}

pub next_asked : (rect : Box3) (x y f : ℕ) (axis : Axis) → HoldsBox largest rect.corner rect.size → AreCounts rect.size x y f → IsAsked (plus (cell_in rect x y f) (unit_step axis))
next_asked rect x y f X box are = record {
  x = next_on rect.corner.x rect.size.w x 1 box.x are.column (omega arith);
  y = next_on rect.corner.y rect.size.h y 0 box.y are.row (omega arith);
  f = next_on rect.corner.f rect.size.f f 0 box.f are.frame (omega arith);
}
next_asked rect x y f Y box are = record {
  x = next_on rect.corner.x rect.size.w x 0 box.x are.column (omega arith);
  y = next_on rect.corner.y rect.size.h y 1 box.y are.row (omega arith);
  f = next_on rect.corner.f rect.size.f f 0 box.f are.frame (omega arith);
}
next_asked rect x y f F box are = record {
  x = next_on rect.corner.x rect.size.w x 0 box.x are.column (omega arith);
  y = next_on rect.corner.y rect.size.h y 0 box.y are.row (omega arith);
  f = next_on rect.corner.f rect.size.f f 1 box.f are.frame (omega arith);
}

-- a place that may be asked for has steps
pub asked_step : (p : At) (axis : Axis) → IsAsked p → SumFits p (unit_step axis)
asked_step p axis asked = let fits = step_fits p axis (record { x = (asked.x.0, omega (arith, ints, asked.x.1)); y = (asked.y.0, omega (arith, ints, asked.y.1)); f = (asked.f.0, omega (arith, ints, asked.f.1)) }) in fits.ahead

-- and lies not far from the corner of a box
apart : (z c : ℤ) (len : ℕ) → IsNearAxis z → AxisHolds GREATEST_AXIS c len → FitsSigned w32 (z -ℤ c)
apart z c len asked box = small (z -ℤ c) (omega (arith, ints, asked.0, box.from, box.to)) (omega (arith, ints, asked.1, box.from))
  where
    small : (d : ℤ) → negsuc 5000 ≤ℤ d → d ≤ℤ pos 5000 → FitsSigned w32 d
    small d from to = search rules

pub asked_apart : (p corner : At) (inner : Size) → IsAsked p → HoldsBox largest corner inner → DifferenceFits p corner
asked_apart p corner inner asked box = record {
  x = apart p.x corner.x inner.w asked.x box.x;
  y = apart p.y corner.y inner.h asked.y box.y;
  f = apart p.f corner.f inner.f asked.f box.f;
}
