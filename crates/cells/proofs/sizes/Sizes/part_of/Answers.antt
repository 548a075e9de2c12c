use Rattle.std.proofs.Common.{arith}
use Rattle.std.proofs.lemmas.Grind.{common_steps}
use Rattle.std.proofs.Common.{◌∷◌, List, subst}
use Rattle.cells.specs.declared.place.Size.{Size}
use Rattle.cells.specs.SizeLists.{IsPartFound}
use Rattle.cells.proofs.PartPlaces.{none_found, some_found}
use Rattle.cells.proofs.sizes.Sizes.part_of.Goals as goal

found : (c : goal.After-part_along) → IsPartFound 1 c.args.self.now c.args.at c.part_along.result
found c =
    subst (λ (sizes : List Size). IsPartFound 1 sizes c.args.at c.part_along.result) c.self.view_is
    (subst (λ (more : List Size). IsPartFound 1 (c.self.inside.first ∷ more) c.args.at c.part_along.result) c.as_slice.ensures.sizes c.part_along.ensures)

pub returns-clause-none : goal.returns-clause-none
returns-clause-none c = none_found 1 c.args.self.now c.args.at c.part_along.result (found c)

pub returns-clause-some : goal.returns-clause-some
returns-clause-some c = some_found 1 c.args.self.now c.args.at c.part_along.result (found c)

pub part_along-requires-clause-sizes : goal.part_along-requires-clause-sizes
part_along-requires-clause-sizes c = grind (arith, common_steps)
