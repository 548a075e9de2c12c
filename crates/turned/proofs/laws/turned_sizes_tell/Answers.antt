use Rattle.turned.proofs.TurnedLists.{sizes_told}
use Rattle.turned.proofs.laws.turned_sizes_tell.Goals as goal

pub returns : goal.returns
returns c = sizes_told
