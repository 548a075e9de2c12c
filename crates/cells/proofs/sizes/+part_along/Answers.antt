use Rattle.std.proofs.Common.{arith}
use Rattle.std.proofs.lemmas.Grind.{common_steps}
use Rattle.std.proofs.Common.{◌≡◌, ◌+◌, ◌∷◌, List, sym, ◌∙◌, subst}
use mathlib.Core.Bool.{false≢true}
use Rattle.cells.specs.declared.place.Size.{Size}
use Rattle.cells.specs.declared.place.At.{At}
use Rattle.cells.specs.SizeLists.{IsPartFound}
use Rattle.cells.proofs.PartPlaces.{found_behind}
use Rattle.cells.proofs.sizes.+part_along.Goals as goal

pub returns : goal.returns
returns t c =
    let others : List Size = c.in_ok-next.next.now ∷ c.in_ok-next.more.now in
    let is : c.args.more.now ≡ others = (c.in_ok-next.ensures {u = tt}).cases.0 in
    subst (λ (more : List Size). IsPartFound c.args.number (c.args.size ∷ more) c.args.at c.part_along.result) (sym is)
    (found_behind c.args.number c.args.size others c.args.at c.part_along.result (λ inside. absurd (false≢true (sym c.if-has.false ∙ c.has.ensures.1 inside)))
    (subst (λ (p : At). IsPartFound (c.args.number + 1) others p c.part_along.result) c.past.ensures c.part_along.ensures))

pub returns-in_err-next : goal.returns-in_err-next
returns-in_err-next t c = grind (arith, common_steps)

pub part_along-requires : goal.part_along-requires
part_along-requires t c = grind (arith, common_steps)

pub returns-then-at-lt0 : goal.returns-then-at-lt0
returns-then-at-lt0 t c = grind (arith, common_steps)

pub past-requires-clause-from : goal.past-requires-clause-from
past-requires-clause-from t c = grind (arith, common_steps)

pub returns-then-has : goal.returns-then-has
returns-then-has t c = grind (arith, common_steps)

pub overflow_add-number : goal.overflow_add-number
overflow_add-number t c = grind (arith, common_steps)
