use Rattle.turned.proofs.TurnedPlaces.{same_cell_of, untouched_one}
use Rattle.turned.proofs.laws.same_cell.Goals as goal

pub returns-clause-one : goal.returns-clause-one
returns-clause-one c = untouched_one

pub returns-clause-cell : goal.returns-clause-cell
returns-clause-cell c = λ v p there is. same_cell_of v is p there
