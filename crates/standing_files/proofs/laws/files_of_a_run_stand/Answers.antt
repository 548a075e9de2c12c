use Rattle.standing_files.proofs.Runs.{run_stands}
use Rattle.standing_files.proofs.laws.files_of_a_run_stand.Goals as goal

pub returns : goal.returns
returns c = run_stands
