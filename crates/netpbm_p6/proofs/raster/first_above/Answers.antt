use Rattle.std.proofs.Common.{arith}
use Rattle.std.proofs.lemmas.Grind.{common_steps}
use Rattle.std.proofs.Common.{◌<◌, ◌≤◌, rules, tests}
use Rattle.std.proofs.lemmas.Iterator.{IsFirst-from_position, YieldsList-from_slice}
use Rattle.netpbm_p6.proofs.RasterLaws.{first_above_is}
use Rattle.netpbm_p6.proofs.raster.first_above.Goals as goal

pub returns-clause-some : goal.returns-clause-some
returns-clause-some c =
    first_above_is c.args.maxval c.args.bytes.now c.position.result
    (IsFirst-from_position _ _ _ (λ b. c.args.maxval < b) (λ b. b ≤ c.args.maxval) c.position.ensures.ran (YieldsList-from_slice c.args.bytes.now cc) (λ x q k. search (rules, tests)) (λ x q k. search (rules, tests)))

pub position-requires-clause-fits : goal.position-requires-clause-fits
position-requires-clause-fits c = grind (arith, common_steps)
