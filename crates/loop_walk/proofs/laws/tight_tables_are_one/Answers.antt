use Rattle.loop_walk.proofs.OneAnswer.{one_tight}
use Rattle.loop_walk.proofs.laws.tight_tables_are_one.Goals as goal

pub returns : goal.returns
returns c = one_tight
