use Rattle.std.proofs.Common.{arith}
use Rattle.std.proofs.lemmas.Grind.{common_steps}
use Rattle.costs.proofs.pairs.pair_cost.Goals as goal

pub plus-requires : goal.plus-requires
plus-requires c = grind (arith, common_steps)
