use Rattle.std.proofs.Common.{arith}
use Rattle.std.proofs.lemmas.Grind.{common_steps}
use Rattle.loop_walk.proofs.sums.entry_in.Goals as goal

pub stored_entry-requires-clause-enough : goal.stored_entry-requires-clause-enough
stored_entry-requires-clause-enough c = grind (arith, common_steps)
