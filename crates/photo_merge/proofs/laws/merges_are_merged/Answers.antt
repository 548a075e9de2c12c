use Rattle.photo_merge.proofs.Leading.{merges_are_merged}
use Rattle.photo_merge.proofs.laws.merges_are_merged.Goals as goal

pub returns : goal.returns
returns c = merges_are_merged
