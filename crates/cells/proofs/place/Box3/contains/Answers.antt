use Rattle.std.proofs.Common.{sym, ◌∙◌, arith}
use Rattle.std.proofs.lemmas.Int.{to_z-of_z}
use Rattle.std.specs.Prelude.{IsSome, IsTrue, ◌-ℤ◌}
use mathlib.Core.Bool.{false≢true}
use Rattle.cells.specs.Places.{minus, on_axis}
use Rattle.cells.proofs.BoxTests.{inside_of, of_inside}
use Rattle.cells.proofs.place.Box3.contains.Goals as goal
use Rattle.cells.proofs.place.Box3.contains.Goals.{then-is_on_run, else-is_on_run}

pub returns-then-is_on_run-2 : goal.returns-then-is_on_run-2
returns-then-is_on_run-2 c =
    let size = c.args.self.now.size in
    let corner = c.args.self.now.corner in
    let p = c.args.p in
    elim c.if-is_on_run.branch [
      | then-is_on_run w ↦
          let x : IsSome (on_axis size.w (p.x -ℤ corner.x)) = grind (arith, to_z-of_z, c.is_on_run.ensures.0 w.if-is_on_run.true) in
          let y : IsSome (on_axis size.h (p.y -ℤ corner.y)) = grind (arith, to_z-of_z, w.is_on_run-then-is_on_run.ensures.0 (sym w.value-is ∙ c.if-is_on_run-2.true)) in (
            λ on.
                let f : IsSome (on_axis size.f (p.f -ℤ corner.f)) = grind (arith, to_z-of_z, c.is_on_run-then-is_on_run-2.ensures.0 on) in
                inside_of size (minus p corner) (record { x = x; y = y; f = f }),
            λ inside.
                let f : IsSome (on_axis size.f (p.f -ℤ corner.f)) = (of_inside size (minus p corner) inside).f in
                grind (arith, to_z-of_z, c.is_on_run-then-is_on_run-2.ensures),
          )
      | else-is_on_run w ↦ absurd (false≢true (sym w.if-is_on_run.false ∙ sym w.value-is ∙ c.if-is_on_run-2.true))
    ]

pub returns-else-is_on_run-2 : goal.returns-else-is_on_run-2
returns-else-is_on_run-2 c =
    let size = c.args.self.now.size in
    let corner = c.args.self.now.corner in
    let p = c.args.p in (
      λ on. absurd (false≢true (sym c.if-is_on_run-2.false ∙ on)),
      λ inside.
          let at = of_inside size (minus p corner) inside in
          elim c.if-is_on_run.branch [
            | then-is_on_run w ↦
                let y : IsSome (on_axis size.h (p.y -ℤ corner.y)) = at.y in
                let on : IsTrue w.is_on_run-then-is_on_run.result = grind (arith, to_z-of_z, w.is_on_run-then-is_on_run.ensures) in
                w.value-is ∙ on
            | else-is_on_run w ↦
                let x : IsSome (on_axis size.w (p.x -ℤ corner.x)) = at.x in
                let on : IsTrue c.is_on_run.result = grind (arith, to_z-of_z, c.is_on_run.ensures) in
                absurd (false≢true (sym w.if-is_on_run.false ∙ on))
          ],
    )
