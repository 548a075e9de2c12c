use Rattle.std.proofs.Common.{◌≡◌, ◌+◌, ◌∙◌, arith, length}
use Rattle.std.proofs.lemmas.Grind.{common_steps}
use Rattle.cells.proofs.DistanceLaws.{difference_three}
use Rattle.cells.proofs.distance.difference_of_cells.Goals as goal

pub returns-in-len3-len3 : goal.returns-in-len3-len3
returns-in-len3-len3 c =
    let la : length c.args.a.now ≡ 3 = grind (arith, common_steps) in
    let lb : length c.args.b.now ≡ 3 = grind (arith, common_steps) in
    (λ k. c.apart-in-len3-len3.ensures k + c.apart-in-len3-len3-2.ensures k + c.apart-in-len3-len3-3.ensures k) ∙ difference_three c.args.a.now c.args.b.now la lb

pub returns-in-len1-len1 : goal.returns-in-len1-len1
returns-in-len1-len1 c = grind (arith, common_steps)

pub overflow_add-result-in-len3-len3 : goal.overflow_add-result-in-len3-len3
overflow_add-result-in-len3-len3 c = grind (arith, common_steps)

pub overflow_add-result : goal.overflow_add-result
overflow_add-result c = grind (arith, common_steps)

pub bounds-b2-2 : goal.bounds-b2-2
bounds-b2-2 c = grind (arith, common_steps)

pub bounds-a2-2 : goal.bounds-a2-2
bounds-a2-2 c = grind (arith, common_steps)

pub bounds-b1-1 : goal.bounds-b1-1
bounds-b1-1 c = grind (arith, common_steps)

pub bounds-a1-1 : goal.bounds-a1-1
bounds-a1-1 c = grind (arith, common_steps)

pub bounds-b0-0 : goal.bounds-b0-0
bounds-b0-0 c = grind (arith, common_steps)

pub bounds-a0-0 : goal.bounds-a0-0
bounds-a0-0 c = grind (arith, common_steps)

pub bounds-a-0 : goal.bounds-a-0
bounds-a-0 c = grind (arith, common_steps)

pub bounds-b-0 : goal.bounds-b-0
bounds-b-0 c = grind (arith, common_steps)
