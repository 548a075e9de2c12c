use Rattle.block_check.proofs.FirstBroken.{stands_not}
use Rattle.block_check.proofs.laws.broken_block_stands_not.Goals as goal

pub returns : goal.returns
returns c = stands_not
