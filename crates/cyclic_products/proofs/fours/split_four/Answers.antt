use Rattle.std.proofs.Common.{arith}
use Rattle.std.proofs.lemmas.Grind.{common_steps}
use Rattle.cyclic_products.specs.declared.residues.TheConstants.{LAST}
use Rattle.cyclic_products.proofs.FourNumbers.{split_four_is}
use Rattle.cyclic_products.proofs.fours.split_four.Goals as goal

pub returns : goal.returns
returns c =
    split_four_is LAST c.args.table.now c.args.j c.args.values.now _ _ _ _ _ _ _ _ c.requires.whole
    c.split_pair-a.ensures.sum c.split_pair-a.ensures.difference c.split_pair-b.ensures.sum c.split_pair-b.ensures.difference
    c.split_pair-w.ensures.sum c.split_pair-w.ensures.difference c.split_pair-y.ensures.sum c.split_pair-y.ensures.difference

pub bounds-values-3-2 : goal.bounds-values-3-2
bounds-values-3-2 c = grind (arith, common_steps)

pub bounds-values-2-2 : goal.bounds-values-2-2
bounds-values-2-2 c = grind (arith, common_steps)

pub bounds-values-1-2 : goal.bounds-values-1-2
bounds-values-1-2 c = grind (arith, common_steps)

pub bounds-values-0-2 : goal.bounds-values-0-2
bounds-values-0-2 c = grind (arith, common_steps)

pub bounds-table-j-4 : goal.bounds-table-j-4
bounds-table-j-4 c = omega arith

pub offset_bounds-table-j-4 : goal.offset_bounds-table-j-4
offset_bounds-table-j-4 c = omega arith

pub overflow_add-j : goal.overflow_add-j
overflow_add-j c = omega arith

pub overflow_mul-j-2 : goal.overflow_mul-j-2
overflow_mul-j-2 c = omega arith

pub bounds-table-j-3 : goal.bounds-table-j-3
bounds-table-j-3 c = omega arith

pub offset_bounds-table-j-3 : goal.offset_bounds-table-j-3
offset_bounds-table-j-3 c = omega arith

pub overflow_mul-j : goal.overflow_mul-j
overflow_mul-j c = omega arith

pub bounds-values-3 : goal.bounds-values-3
bounds-values-3 c = omega arith

pub bounds-values-1 : goal.bounds-values-1
bounds-values-1 c = omega arith

pub bounds-table-j-2 : goal.bounds-table-j-2
bounds-table-j-2 c = omega arith
