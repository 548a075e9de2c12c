use Rattle.cut_replay.proofs.Standing.{stands_not}
use Rattle.cut_replay.proofs.laws.broken_record_stands_not.Goals as goal

pub returns : goal.returns
returns c = stands_not
