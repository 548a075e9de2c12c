use Rattle.std.proofs.Common.{◌≡◌, ◌*◌, ◌+◌, ◌%◌, ◌++◌, length, map, take}
use Rattle.cyclic_products.specs.declared.residues.TheConstants.{LAST}
use Rattle.cyclic_products.specs.Splits.{table_of}
use Rattle.cyclic_products.proofs.tables.table.Given as goal

abbrev pub invariant-levels : goal.invariant-levels
invariant-levels l = l.table.items ≡ table_of LAST l.first l.ladder l.level

abbrev pub invariant-numbers : goal.invariant-numbers
invariant-numbers l = record {
  whole : l.whole ≡ length (table_of LAST l.first l.ladder l.level);
  items : l.table.items ≡ table_of LAST l.first l.ladder l.level ++ map (λ x. (x * l.step) % (LAST + 1)) (take l.i (table_of LAST l.first l.ladder l.level));
}
