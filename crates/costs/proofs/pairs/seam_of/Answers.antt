use Rattle.std.proofs.Common.{arith, sym, ap, ◌∙◌}
use Rattle.std.proofs.lemmas.Grind.{common_steps}
use Rattle.cells.specs.Places.{plus}
use Rattle.costs.proofs.Copies.{same_place, seam_of_copies}
use Rattle.costs.proofs.pairs.seam_of.Goals as goal

pub returns-then-eq-clause-cost : goal.returns-then-eq-clause-cost
returns-then-eq-clause-cost c =
    let a = c.in-Some-Some.a in
    let b = c.in-Some-Some.b in
    let next = ap (plus a) (sym c.unit-step.ensures) ∙ sym c.plus.ensures in
    let same = same_place c.plus.result b (sym c.eq.ensures ∙ c.if-eq.true) in
    rw (c.in-Some-Some.is-0, c.in-Some-Some.is-1) (sym (seam_of_copies c.args.sample.now c.args.axis a b (next ∙ same)))

pub plus-requires-2 : goal.plus-requires-2
plus-requires-2 c = grind (arith, common_steps)
