use Rattle.std.proofs.Common.{arith}
use Rattle.std.proofs.lemmas.Grind.{common_steps}
use Rattle.std.proofs.Common.{◌∙◌}
use Rattle.loop_walk.proofs.ProductLaws.{product_restored}
use Rattle.loop_walk.proofs.product.fill_product.Goals as goal

pub returns : goal.returns
returns c =
    product_restored c.args.n c.args.left.now c.args.right.now c.bring_near.new.nears c.fill_near.new.made c.restore.new.numbers
    c.requires.left c.requires.right (c.fill_near.auto.made ∙ c.requires.made) c.requires.small_left c.requires.small_right c.bring_near.ensures c.fill_near.ensures c.restore.ensures

pub fill_near-requires-clause-near : goal.fill_near-requires-clause-near
fill_near-requires-clause-near c = grind (arith, common_steps)
