use Rattle.std.proofs.Common.{ap, ◌∙◌}
use Rattle.cells.specs.Boxes.{cell_in}
use Rattle.cells.specs.Neighbours.{unit_step}
use Rattle.cells.specs.Places.{plus}
use Rattle.boxes.proofs.Cells.{next_f, next_x, next_y}
use Rattle.boxes.proofs.counts.Counts.next_along.Goals as goal

pub returns-in-X-clause-next : goal.returns-in-X-clause-next
returns-in-X-clause-next c = λ rect.
    let at = c.args.self in
    ap (λ axis. plus (cell_in rect at.x at.y at.f) (unit_step axis)) c.in-X.is ∙ next_x rect at.x at.y at.f

pub returns-in-Y-clause-next : goal.returns-in-Y-clause-next
returns-in-Y-clause-next c = λ rect.
    let at = c.args.self in
    ap (λ axis. plus (cell_in rect at.x at.y at.f) (unit_step axis)) c.in-Y.is ∙ next_y rect at.x at.y at.f

pub returns-in-F-clause-next : goal.returns-in-F-clause-next
returns-in-F-clause-next c = λ rect.
    let at = c.args.self in
    ap (λ axis. plus (cell_in rect at.x at.y at.f) (unit_step axis)) c.in-F.is ∙ next_f rect at.x at.y at.f
