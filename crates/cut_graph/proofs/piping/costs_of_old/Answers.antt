use Rattle.std.proofs.Common.{◌≡◌, ◌∙◌, ap, refl, subst, sym}
use Rattle.cells.specs.Neighbours.{unit_step}
use Rattle.cells.specs.Places.{SumFits, plus}
use Rattle.costs.proofs.Copies.{same_cost, same_place, seam_of_copies}
use Rattle.costs.proofs.Near.{step_fits}
use Rattle.cut_graph.proofs.piping.costs_of_old.Goals as goal
use Rattle.cut_graph.proofs.piping.costs_of_old.Goals.{Then-eq}

pub plus-requires : goal.plus-requires
plus-requires c = subst (SumFits c.args.a) (sym c.unit.ensures) (step_fits c.args.a c.args.axis c.requires.a).ahead

-- the old sources are next to one another
next : (c : Then-eq) → plus c.args.a (unit_step c.args.axis) ≡ c.args.b
next c = sym (c.plus.ensures ∙ ap (plus c.args.a) c.unit.ensures) ∙ same_place c.plus.result c.args.b (sym c.eq.ensures ∙ c.if-eq.true)

pub returns-then-eq-clause-new : goal.returns-then-eq-clause-new
returns-then-eq-clause-new c =
    let a = c.args in
    c.requires.cost ∙ same_cost a.sample.now a.axis a.a a.b a.new_a (plus a.new_a (unit_step a.axis)) (next c) refl

pub returns-then-eq-clause-old : goal.returns-then-eq-clause-old
returns-then-eq-clause-old c = let a = c.args in sym (seam_of_copies a.sample.now a.axis a.a a.b (next c))
