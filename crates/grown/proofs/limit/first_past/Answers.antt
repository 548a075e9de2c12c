use Rattle.std.proofs.Common.{sym, ◌∙◌}
use Rattle.std.proofs.lemmas.Option.{none-some}
use Rattle.std.specs.Prelude.{Some, None}
use Rattle.cells.specs.Places.{place_of}
use Rattle.grown.specs.BoxLimit.{plan_box}
use Rattle.grown.specs.Counted.{AreBoxesOf}
use Rattle.grown.proofs.limit.first_past.Goals as goal

pub count-requires-clause-lens : goal.count-requires-clause-lens
count-requires-clause-lens c =
    let are : AreBoxesOf c.args.plan.now c.args.sample.now (Some c.in-Some.boxes) = rw c.in-Some.is at c.boxes_of.ensures in
    are.0

pub returns-in-Some : goal.returns-in-Some
returns-in-Some c =
    let are : AreBoxesOf c.args.plan.now c.args.sample.now (Some c.in-Some.boxes) = rw c.in-Some.is at c.boxes_of.ensures in
    c.count.ensures (plan_box c.args.plan.now c.args.sample.now) are.1

pub returns-in-None : goal.returns-in-None
returns-in-None c =
    let none : AreBoxesOf c.args.plan.now c.args.sample.now None = rw c.in-None.is at c.boxes_of.ensures in
    λ number passes. none-some passes.rect (sym (none (place_of c.args.plan.now.size passes.next.index)) ∙ passes.next.is)
