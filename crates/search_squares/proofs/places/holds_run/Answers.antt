use Rattle.std.proofs.lemmas.Grind.{common_steps}
use Rattle.std.proofs.Common.{◌+◌, arith}
use Rattle.std.proofs.lemmas.Int.{to_z-of_z}
use Rattle.std.specs.Prelude.{◌-ℤ◌}
use Rattle.cells.specs.Boxes.{AxisHolds}
use Rattle.search_squares.proofs.PlaceRuns.{each_in}
use Rattle.search_squares.proofs.places.holds_run.Goals as goal

pub returns-clause-inside : goal.returns-clause-inside
returns-clause-inside c = λ _.
    let outer = c.args.outer.now in
    let inner = c.args.inner in
    let from = c.args.from in
    let x : AxisHolds outer.size.w (from.x -ℤ outer.corner.x) (inner.w + c.saturating_sub.result) = grind (arith, to_z-of_z, c.axis_holds.ensures c.if-not-axis_holds.false) in
    let y : AxisHolds outer.size.h (from.y -ℤ outer.corner.y) (inner.h + 0) = grind (arith, to_z-of_z, c.axis_holds-2.ensures c.if-not-axis_holds-2.false) in
    let f : AxisHolds outer.size.f (from.f -ℤ outer.corner.f) (inner.f + 0) = grind (arith, to_z-of_z, c.axis_holds-3.ensures c.if-not-axis_holds-3.false) in
    each_in outer inner from c.args.n c.saturating_sub.result (omega (arith, c.saturating_sub.ensures)) x y f

pub returns-clause-some : goal.returns-clause-some
returns-clause-some c = grind (arith, common_steps)

pub returns-then-not-axis_holds-3-clause-some : goal.returns-then-not-axis_holds-3-clause-some
returns-then-not-axis_holds-3-clause-some c = grind (arith, common_steps)

pub returns-then-not-axis_holds-2-clause-some : goal.returns-then-not-axis_holds-2-clause-some
returns-then-not-axis_holds-2-clause-some c = grind (arith, common_steps)
