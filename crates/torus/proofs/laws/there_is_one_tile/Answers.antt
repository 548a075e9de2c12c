use Rattle.torus.proofs.OneSteps.{one_tile}
use Rattle.torus.proofs.laws.there_is_one_tile.Goals as goal

pub returns : goal.returns
returns c = one_tile
