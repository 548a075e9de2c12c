use Rattle.std.proofs.Common.{subst}
use Rattle.cyclic_products.specs.declared.residues.TheConstants.{LAST}
use Rattle.cyclic_products.specs.Products.{cyclic}
use Rattle.cyclic_products.specs.Splits.{AreTables}
use Rattle.cyclic_products.proofs.Products.{multiplied}
use Rattle.cyclic_products.proofs.SameLists.{same_images}
use Rattle.cyclic_products.proofs.transform.Transform.multiply.Goals as goal

pub returns : goal.returns
returns c = λ f g of_f of_g.
    let t = c.args.self.now in
    let tables : AreTables LAST t = subst (AreTables LAST) c.self.view_is c.self.invariant in
    same_images LAST t (cyclic f g) _ _ c.multiply.ensures
    (multiplied LAST t tables f g c.args.images.now c.args.others.now of_f of_g)
