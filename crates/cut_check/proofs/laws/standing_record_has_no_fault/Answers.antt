use Rattle.cut_check.proofs.NoFault.{no_fault}
use Rattle.cut_check.proofs.laws.standing_record_has_no_fault.Goals as goal

pub returns : goal.returns
returns c s fault stands broken = no_fault s c.args.cut.now fault stands broken
