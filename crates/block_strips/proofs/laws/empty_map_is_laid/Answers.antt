use Rattle.block_strips.proofs.Laying.{empty_is_laid}
use Rattle.block_strips.proofs.laws.empty_map_is_laid.Goals as goal

pub returns : goal.returns
returns c = empty_is_laid
