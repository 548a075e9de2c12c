use Rattle.std.proofs.Common.{◌*◌}
use Rattle.cyclic_products.specs.declared.residues.TheConstants.{LAST}
use Rattle.cyclic_products.specs.Residues.{IsCongruent, mixed}
use Rattle.cyclic_products.proofs.Walks.{IsWalked}
use Rattle.cyclic_products.proofs.passes.split_level.Given as goal

abbrev pub invariant-pairs : goal.invariant-pairs
invariant-pairs l = record {
  low : IsWalked (IsCongruent LAST) (mixed LAST 1 l.a) l.fn.low l.fn.high l.fn.low l.low l.i;
  high : IsWalked (IsCongruent LAST) (mixed LAST 1 (LAST * l.a)) l.fn.low l.fn.high l.fn.high l.high l.i;
}
