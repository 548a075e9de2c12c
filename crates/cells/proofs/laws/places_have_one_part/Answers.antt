use Rattle.cells.proofs.PartLists.{one_part_has}
use Rattle.cells.proofs.laws.places_have_one_part.Goals as goal

pub returns : goal.returns
returns c = one_part_has
