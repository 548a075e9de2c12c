use Rattle.std.proofs.Common.{◌≡◌, ◌^◌, length}
use Rattle.cyclic_products.specs.Splits.{AreImages}
use Rattle.cyclic_products.specs.declared.residues.TheConstants.{LAST}
use Rattle.offset_errors.specs.Errors.{listed_sums}
use Rattle.offset_errors.proofs.errors.summed_images.Given as goal

abbrev pub invariant-numbers : goal.invariant-numbers
invariant-numbers l = record {
  size : length l.images.items ≡ 2 ^ l.layout.levels;
  images : AreImages LAST l.transform (listed_sums l.layout l.map l.sample l.rect l.part l.j) l.images.items;
}
