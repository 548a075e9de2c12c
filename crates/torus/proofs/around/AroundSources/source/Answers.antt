use Rattle.std.proofs.Common.{arith}
use Rattle.std.proofs.lemmas.Grind.{common_steps}
use Rattle.torus.proofs.around.AroundSources.source.Goals as goal

pub around_axis-requires-3 : goal.around_axis-requires-3
around_axis-requires-3 c = grind (arith, common_steps)

pub around_axis-requires-2 : goal.around_axis-requires-2
around_axis-requires-2 c = grind (arith, common_steps)

pub around_axis-requires : goal.around_axis-requires
around_axis-requires c = grind (arith, common_steps)

pub returns-clause-source : goal.returns-clause-source
returns-clause-source c = grind (arith, common_steps)
