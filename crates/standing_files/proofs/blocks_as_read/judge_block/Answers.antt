use Rattle.std.proofs.Common.{arith}
use Rattle.std.proofs.lemmas.Grind.{common_steps}
use Rattle.standing_files.proofs.blocks_as_read.judge_block.Goals as goal

pub put_block-requires-clause-stands : goal.put_block-requires-clause-stands
put_block-requires-clause-stands c = grind (arith, common_steps)
