use Rattle.std.proofs.Common.{arith}
use Rattle.cyclic_products.specs.Products.{cyclic}
use Rattle.cyclic_products.proofs.transform.Transform.product.Goals as goal

pub returns : goal.returns
returns c =
    c.join.ensures (cyclic c.args.f.now c.args.g.now) (c.multiply.ensures c.args.f.now c.args.g.now c.split.ensures c.split-2.ensures)

pub multiply-requires-clause-images : goal.multiply-requires-clause-images
multiply-requires-clause-images c = omega arith

pub join-requires : goal.join-requires
join-requires c = omega arith
