use Rattle.std.proofs.lemmas.Grind.{common_steps}
use Rattle.std.proofs.Common.{sym, arith}
use Rattle.std.proofs.lemmas.Int.{to_z-of_z}
use Rattle.cells.proofs.PartLaws.{small_of, index_front, index_from_below, none_before}
use Rattle.cells.proofs.parts.+index_along.Goals as goal

pub index_of-requires : goal.index_of-requires
index_of-requires t c = small_of c.args.size c.args.more.now c.requires.parts

pub returns-in-Some-clause-index : goal.returns-in-Some-clause-index
returns-in-Some-clause-index t c = sym (index_front c.args.size c.args.more.now c.args.at c.in-Some.i (sym c.in-Some.ensures.index))

pub returns-in-Some-clause-below : goal.returns-in-Some-clause-below
returns-in-Some-clause-below t c =
    index_from_below c.args.size c.args.more.now c.args.at c.in-Some.i (index_front c.args.size c.args.more.now c.args.at c.in-Some.i (sym c.in-Some.ensures.index))

pub returns-then-at-lt0-clause-index : goal.returns-then-at-lt0-clause-index
returns-then-at-lt0-clause-index t c = sym (none_before c.args.size c.args.more.now c.args.at (grind (arith, to_z-of_z, c.if-at-lt0.true)))

pub overflow_add-result : goal.overflow_add-result
overflow_add-result t c = grind (arith, common_steps)

pub returns-clause-below : goal.returns-clause-below
returns-clause-below t c = grind (arith, common_steps)

pub cells-requires : goal.cells-requires
cells-requires t c = grind (arith, common_steps)

pub returns-in_err-next-clause-index : goal.returns-in_err-next-clause-index
returns-in_err-next-clause-index t c = grind (arith, common_steps)

pub past-requires-clause-from : goal.past-requires-clause-from
past-requires-clause-from t c = grind (arith, common_steps)

pub index_along-requires : goal.index_along-requires
index_along-requires t c = grind (arith, common_steps)

pub returns-in_err-i-clause-below : goal.returns-in_err-i-clause-below
returns-in_err-i-clause-below t c = grind (arith, common_steps)

pub returns-in_err-next-clause-below : goal.returns-in_err-next-clause-below
returns-in_err-next-clause-below t c = grind (arith, common_steps)
