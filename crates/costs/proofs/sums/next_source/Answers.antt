use Rattle.std.proofs.Common.{◌∙◌, sym, subst}
use Rattle.cells.specs.declared.place.At.{At}
use Rattle.cells.specs.Neighbours.{unit_step}
use Rattle.cells.specs.Places.{SumFits, plus}
use Rattle.cells.specs.Boxes.{cell_in}
use Rattle.costs.specs.Costs.{IsAsked}
use Rattle.costs.proofs.Near.{asked_step, cell_asked, next_asked}
use Rattle.costs.proofs.sums.next_source.Goals as goal

pub plus-next-requires : goal.plus-next-requires
plus-next-requires g c =
    let rect = c.args.rect.now in
    let at = c.args.at in
    subst (SumFits c.cell.result) (sym c.unit.ensures)
    (subst (λ (p : At). SumFits p (unit_step c.args.axis)) (sym c.cell.ensures)
    (asked_step (cell_in rect at.x at.y at.f) c.args.axis (cell_asked rect at.x at.y at.f c.requires.inside c.requires.counts)))

pub source-requires : goal.source-requires
source-requires g c =
    let rect = c.args.rect.now in
    let at = c.args.at in
    subst IsAsked (sym (c.plus-next.ensures ∙ (λ k. plus (c.cell.ensures k) (c.unit.ensures k))))
    (next_asked rect at.x at.y at.f c.args.axis c.requires.inside c.requires.counts)
