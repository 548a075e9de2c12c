use Rattle.strip_boundary.proofs.OneAnswer.{one_first_least}
use Rattle.strip_boundary.proofs.laws.first_least_boundary_is_one.Goals as goal

pub returns : goal.returns
returns c = one_first_least
