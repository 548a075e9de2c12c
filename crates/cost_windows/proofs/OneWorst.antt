-- There is one worst window.
use Rattle.std.proofs.Common.{◌≡◌, ℕ, sym, ap, ◌∙◌, arith}
use Rattle.std.proofs.lemmas.Int.{ints}
use Rattle.std.specs.Prelude.{Option, Some, unwrap_or}
use Rattle.cells.specs.declared.place.At.{At}
use Rattle.cells.specs.declared.place.Size.{Size}
use Rattle.cells.specs.Boxes.{HasCells, HoldsBox}
use Rattle.cells.specs.Places.{IsInside, index_in}
use Rattle.cells.proofs.BoxTests.{inside_of, on_axis_some}
use Rattle.cells.proofs.Raster.{has_index, one_place}
use Rattle.cost_windows.specs.Windows.{IsWorst, window_at}

-- a box with a cell has its corner inside
corner_inside : (size : Size) (corner : At) (inner : Size) → HasCells inner → HoldsBox size corner inner → IsInside size corner
corner_inside size corner inner some holds = inside_of size corner (record {
  x = on_axis_some size.w corner.x holds.x.from (omega (arith, ints, holds.x.to, some.w));
  y = on_axis_some size.h corner.y holds.y.from (omega (arith, ints, holds.y.to, some.h));
  f = on_axis_some size.f corner.f holds.f.from (omega (arith, ints, holds.f.to, some.f));
})

pub one_worst : (d : At → At → ℕ) (output : Size) (m : At → Option At) (window : Size) (corner other : At)
    → HasCells window → IsWorst d output m window corner → IsWorst d output m window other → corner ≡ other
one_worst d output m window corner other some is also =
    let i = unwrap_or (index_in output corner) 0 in
    let j = unwrap_or (index_in output other) 0 in
    let at : index_in output corner ≡ Some i = has_index (index_in output corner) 0 (corner_inside output corner window some is.inside) in
    let there : index_in output other ≡ Some j = has_index (index_in output other) 0 (corner_inside output other window some also.inside) in
    let costs : window_at d window m other ≡ window_at d window m corner = omega (arith, is.greatest other also.inside, also.greatest corner is.inside) in
    let same : j ≡ i = omega (arith, is.first other also.inside costs i j at there, also.first corner is.inside (sym costs) j i there at) in
    one_place output corner other i at (there ∙ ap Some same)
