use Rattle.block_check.proofs.Several.{each_least}
use Rattle.block_check.proofs.laws.blocks_that_stand.Goals as goal

pub returns : goal.returns
returns c = each_least
