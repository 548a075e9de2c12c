use Rattle.cells.proofs.PartLists.{is_part, stands_in}
use Rattle.cells.proofs.laws.parts_stand_in_their_volume.Goals as goal

pub returns-clause-part : goal.returns-clause-part
returns-clause-part c = is_part

pub returns-clause-cells : goal.returns-clause-cells
returns-clause-cells c = stands_in
