use Rattle.std.proofs.Common.{subst}
use Rattle.cyclic_products.specs.declared.residues.TheConstants.{LAST}
use Rattle.cyclic_products.specs.Residues.{mix}
use Rattle.cyclic_products.specs.Splits.{AreTables}
use Rattle.cyclic_products.proofs.Products.{added}
use Rattle.cyclic_products.proofs.SameLists.{same_images}
use Rattle.cyclic_products.proofs.transform.Transform.add.Goals as goal

pub returns : goal.returns
returns c = λ f g of_f of_g.
    let t = c.args.self.now in
    let tables : AreTables LAST t = subst (AreTables LAST) c.self.view_is c.self.invariant in
    same_images LAST t (mix LAST 1 1 f g) _ _ c.add.ensures
    (added LAST t tables f g c.args.images.now c.args.others.now of_f of_g)
