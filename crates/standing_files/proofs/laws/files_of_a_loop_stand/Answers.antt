use Rattle.standing_files.proofs.Runs.{loop_stands}
use Rattle.standing_files.proofs.laws.files_of_a_loop_stand.Goals as goal

pub returns : goal.returns
returns c = loop_stands
