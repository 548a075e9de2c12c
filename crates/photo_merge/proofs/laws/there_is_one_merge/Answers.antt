use Rattle.photo_merge.proofs.Leading.{one_merge}
use Rattle.photo_merge.proofs.laws.there_is_one_merge.Goals as goal

pub returns : goal.returns
returns c = one_merge
