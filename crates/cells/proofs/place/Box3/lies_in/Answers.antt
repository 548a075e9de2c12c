use Rattle.std.proofs.lemmas.Grind.{common_steps}
use Rattle.std.proofs.Common.{sym, ◌∙◌, arith}
use Rattle.std.proofs.lemmas.Int.{to_z-of_z}
use mathlib.Core.Bool.{false≢true}
use Rattle.cells.specs.Boxes.{AxisHolds}
use Rattle.cells.proofs.place.Box3.lies_in.Goals as goal
use Rattle.cells.proofs.place.Box3.lies_in.Goals.{then-axis_holds, else-axis_holds}

pub returns-then-axis_holds-2 : goal.returns-then-axis_holds-2
returns-then-axis_holds-2 c =
    let rect = c.args.self.now in
    let size = c.args.size in
    elim c.if-axis_holds.branch [
      | then-axis_holds w ↦
          let x : AxisHolds size.w rect.corner.x rect.size.w = grind (arith, to_z-of_z, c.axis_holds.ensures.0 w.if-axis_holds.true) in
          let y : AxisHolds size.h rect.corner.y rect.size.h = grind (arith, to_z-of_z, w.axis_holds-then-axis_holds.ensures.0 (sym w.value-is ∙ c.if-axis_holds-2.true)) in (
            λ on.
                let f : AxisHolds size.f rect.corner.f rect.size.f = grind (arith, to_z-of_z, c.axis_holds-then-axis_holds-2.ensures.0 on) in
                record { x = x; y = y; f = f },
            λ holds. let f = holds.f in grind (arith, to_z-of_z, c.axis_holds-then-axis_holds-2.ensures),
          )
      | else-axis_holds w ↦ absurd (false≢true (sym w.if-axis_holds.false ∙ sym w.value-is ∙ c.if-axis_holds-2.true))
    ]

pub returns-else-axis_holds-2 : goal.returns-else-axis_holds-2
returns-else-axis_holds-2 c = grind (arith, common_steps)
