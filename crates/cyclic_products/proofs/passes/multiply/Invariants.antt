use Rattle.std.proofs.Common.{◌*◌, ◌%◌}
use Rattle.cyclic_products.specs.declared.residues.TheConstants.{LAST, PRIME}
use Rattle.cyclic_products.specs.Residues.{IsCongruent}
use Rattle.cyclic_products.proofs.Walks.{IsWalked}
use Rattle.cyclic_products.proofs.passes.multiply.Given as goal

abbrev pub invariant-pairs : goal.invariant-pairs
invariant-pairs l = IsWalked (IsCongruent LAST) (λ x y. (x * y) % PRIME) l.fn.f l.g l.fn.f l.f l.i
