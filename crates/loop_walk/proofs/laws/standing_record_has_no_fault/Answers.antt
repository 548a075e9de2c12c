use Rattle.loop_walk.proofs.OneAnswer.{no_fault}
use Rattle.loop_walk.proofs.laws.standing_record_has_no_fault.Goals as goal

pub returns : goal.returns
returns c = no_fault
