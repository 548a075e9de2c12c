use Rattle.std.proofs.lemmas.Grind.{common_steps}
use Rattle.std.proofs.Common.{◌≡◌, ◌∙◌, arith}
use Rattle.cells.specs.Distances.{distance, distance_of}
use Rattle.cells.proofs.DistanceLaws.{distance_bound, distance_laws}
use Rattle.cells.proofs.distance.cell_distance.Goals as goal

pub returns-in-Some-Some-clause-bound : goal.returns-in-Some-Some-clause-bound
returns-in-Some-Some-clause-bound c =
    let v = c.args.v.now in
    let whole : c.difference_of_cells.result ≡ distance v c.args.a c.args.b =
    c.difference_of_cells.ensures ∙ (λ i. distance_of v.k (c.in-Some-Some.ensures.bytes i) (c.in-Some-Some.ensures'.bytes i)) in
    omega (arith, whole, distance_bound v c.samples-k.ensures.volume c.args.a c.args.b)

pub returns-in-Some-Some-clause-laws : goal.returns-in-Some-Some-clause-laws
returns-in-Some-Some-clause-laws c = distance_laws c.args.v.now c.samples-k.ensures.volume

pub returns-in-None-None-clause-laws : goal.returns-in-None-None-clause-laws
returns-in-None-None-clause-laws c = distance_laws c.args.v.now c.samples-k.ensures.volume

pub returns-in_default-clause-laws : goal.returns-in_default-clause-laws
returns-in_default-clause-laws c = distance_laws c.args.v.now c.samples-k.ensures.volume

pub returns-in-Some-Some-clause-distance : goal.returns-in-Some-Some-clause-distance
returns-in-Some-Some-clause-distance c = grind (arith, common_steps)

pub returns-in_default-clause-distance : goal.returns-in_default-clause-distance
returns-in_default-clause-distance c = grind (arith, common_steps)

pub returns-in-None-None-clause-distance : goal.returns-in-None-None-clause-distance
returns-in-None-None-clause-distance c = grind (arith, common_steps)
