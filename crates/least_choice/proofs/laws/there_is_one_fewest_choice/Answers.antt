use Rattle.least_choice.proofs.OneChoice.{one_fewest}
use Rattle.least_choice.proofs.laws.there_is_one_fewest_choice.Goals as goal

pub returns : goal.returns
returns c = one_fewest
