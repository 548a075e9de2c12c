use Rattle.turned.proofs.TurnedCells.{parts_turned, sizes_turned, turned_at}
use Rattle.turned.proofs.laws.turned_parts_stand.Goals as goal

pub returns-clause-parts : goal.returns-clause-parts
returns-clause-parts c = parts_turned

pub returns-clause-sizes : goal.returns-clause-sizes
returns-clause-sizes c = sizes_turned

pub returns-clause-cells : goal.returns-clause-cells
returns-clause-cells c = turned_at
