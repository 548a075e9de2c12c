use Rattle.std.proofs.Common.{◌≡◌, ◌%◌}
use Rattle.cyclic_products.specs.declared.residues.TheConstants.{PRIME}
use Rattle.cyclic_products.proofs.Walks.{IsWalked}
use Rattle.cyclic_products.proofs.passes.reduce.Given as goal

abbrev pub invariant-numbers : goal.invariant-numbers
invariant-numbers l = IsWalked (λ a b. a ≡ b) (λ x y. x % PRIME) l.fn.values l.fn.values l.fn.values l.values l.i
