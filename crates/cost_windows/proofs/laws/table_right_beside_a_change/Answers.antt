use Rattle.cost_windows.proofs.Besides.{right_beside_change, right_beside_choice}
use Rattle.cost_windows.proofs.laws.table_right_beside_a_change.Goals as goal

pub returns-clause-change : goal.returns-clause-change
returns-clause-change c = right_beside_change

pub returns-clause-choice : goal.returns-clause-choice
returns-clause-choice c = right_beside_choice
