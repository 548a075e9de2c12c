use Rattle.block_check.proofs.FirstBroken.{one_broken}
use Rattle.block_check.proofs.laws.one_first_broken_block.Goals as goal

pub returns : goal.returns
returns c = one_broken
