use Rattle.std.proofs.Common.{arith}
use Rattle.std.proofs.lemmas.Grind.{common_steps}
use Rattle.cyclic_products.specs.declared.residues.TheConstants.{HALF, LAST}
use Rattle.cyclic_products.proofs.FourNumbers.{join_four_is}
use Rattle.cyclic_products.proofs.fours.join_four.Goals as goal

pub returns : goal.returns
returns c =
    join_four_is LAST HALF c.args.halves.now c.args.j c.args.values.now _ _ _ _ _ _ _ _ c.requires.whole
    c.join_pair-a.ensures.sum c.join_pair-a.ensures.difference c.join_pair-c.ensures.sum c.join_pair-c.ensures.difference
    c.join_pair-w.ensures.sum c.join_pair-w.ensures.difference c.join_pair-x.ensures.sum c.join_pair-x.ensures.difference

pub bounds-values-3-2 : goal.bounds-values-3-2
bounds-values-3-2 c = grind (arith, common_steps)

pub bounds-values-2-2 : goal.bounds-values-2-2
bounds-values-2-2 c = grind (arith, common_steps)

pub bounds-values-1-2 : goal.bounds-values-1-2
bounds-values-1-2 c = grind (arith, common_steps)

pub bounds-values-0-2 : goal.bounds-values-0-2
bounds-values-0-2 c = grind (arith, common_steps)

pub bounds-halves-j-4 : goal.bounds-halves-j-4
bounds-halves-j-4 c = omega arith

pub offset_bounds-halves-j-4 : goal.offset_bounds-halves-j-4
offset_bounds-halves-j-4 c = omega arith

pub bounds-halves-j-3 : goal.bounds-halves-j-3
bounds-halves-j-3 c = omega arith

pub offset_bounds-halves-j-3 : goal.offset_bounds-halves-j-3
offset_bounds-halves-j-3 c = omega arith

pub bounds-values-3 : goal.bounds-values-3
bounds-values-3 c = omega arith

pub bounds-values-2 : goal.bounds-values-2
bounds-values-2 c = omega arith

pub bounds-halves-j-2 : goal.bounds-halves-j-2
bounds-halves-j-2 c = omega arith
