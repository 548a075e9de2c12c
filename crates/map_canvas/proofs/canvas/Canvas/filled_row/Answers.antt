use Rattle.std.proofs.Common.{arith}
use Rattle.std.proofs.lemmas.Grind.{common_steps}
use Rattle.std.proofs.Common.{sym, subst}
use Rattle.std.specs.Prelude.{pos, ◌+ℤ◌, ◌≤ℤ◌}
use Rattle.cells.specs.Places.{IsInside}
use Rattle.cells.specs.Cells.{Cells, HasRun}
use Rattle.cells.proofs.PartBoxes.{run_of_part}
use Rattle.map_canvas.specs.Canvases.{CanvasState, filled_marks}
use Rattle.map_canvas.proofs.canvas.Canvas.filled_row.Goals as goal

pub row-requires : goal.row-requires
row-requires c =
    let map = c.self.inside.map in
    subst (λ (v : Cells). HasRun v c.args.at c.args.w) (sym c.self.invariant.2)
    (run_of_part (filled_marks map c.self.inside.picture.k) c.args.at c.args.w
    (subst (λ (s : CanvasState). IsInside s.map.size c.args.at) (sym c.self.view_is) c.requires.inside)
    (subst (λ (s : CanvasState). (c.args.at.x +ℤ pos c.args.w) ≤ℤ pos s.map.size.w) (sym c.self.view_is) c.requires.room))

pub returns-clause-len : goal.returns-clause-len
returns-clause-len c = grind (arith, common_steps)
