use Rattle.standing_files.proofs.Least.{records_least}
use Rattle.standing_files.proofs.laws.standing_records_are_least.Goals as goal

pub returns : goal.returns
returns c = records_least
