use Rattle.std.proofs.Common.{arith}
use Rattle.std.proofs.lemmas.Grind.{common_steps}
use Rattle.loop_walk.proofs.record.made_tables.Goals as goal

pub returns : goal.returns
returns c = grind (arith, common_steps)

pub fill_tables-requires-clause-whole : goal.fill_tables-requires-clause-whole
fill_tables-requires-clause-whole c = grind (arith, common_steps)

pub fill_tables-requires-clause-nears : goal.fill_tables-requires-clause-nears
fill_tables-requires-clause-nears c = grind (arith, common_steps)

pub fill_tables-requires-clause-rests : goal.fill_tables-requires-clause-rests
fill_tables-requires-clause-rests c = grind (arith, common_steps)

pub overflow_mul-n-2 : goal.overflow_mul-n-2
overflow_mul-n-2 c = grind (arith, common_steps)
