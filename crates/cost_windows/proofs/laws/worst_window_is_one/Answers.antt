use Rattle.cost_windows.proofs.OneWorst.{one_worst}
use Rattle.cost_windows.proofs.laws.worst_window_is_one.Goals as goal

pub returns : goal.returns
returns c = one_worst
