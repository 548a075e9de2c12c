use Rattle.loop_walk.proofs.FirstLaws.{one_first}
use Rattle.loop_walk.proofs.laws.first_walk_is_one.Goals as goal

pub returns : goal.returns
returns c = one_first
