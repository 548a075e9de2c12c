use Rattle.cyclic_products.proofs.splits.+split.Given as goal

abbrev pub decreases-split : goal.decreases-split
decreases-split l = l.levels
