use Rattle.cyclic_products.specs.declared.residues.TheConstants.{LAST}
use Rattle.cyclic_products.specs.Residues.{IsCongruent, mixed}
use Rattle.cyclic_products.proofs.Walks.{IsWalked}
use Rattle.cyclic_products.proofs.passes.add.Given as goal

abbrev pub invariant-pairs : goal.invariant-pairs
invariant-pairs l = IsWalked (IsCongruent LAST) (mixed LAST 1 1) l.fn.sums l.f l.fn.sums l.sums l.i
