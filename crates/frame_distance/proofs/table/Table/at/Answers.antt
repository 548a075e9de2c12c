use Rattle.std.proofs.Common.{arith}
use Rattle.std.proofs.lemmas.Grind.{common_steps}
use Rattle.frame_distance.proofs.table.Table.at.Goals as goal

pub index-requires : goal.index-requires
index-requires c = grind (arith, common_steps)
