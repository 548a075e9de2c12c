use Rattle.strip_boundary.proofs.OneAnswer.{one_tight}
use Rattle.strip_boundary.proofs.laws.tight_sums_are_one.Goals as goal

pub returns : goal.returns
returns c = one_tight
