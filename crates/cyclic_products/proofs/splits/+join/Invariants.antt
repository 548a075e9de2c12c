use Rattle.cyclic_products.proofs.splits.+join.Given as goal

abbrev pub decreases-join : goal.decreases-join
decreases-join l = l.levels
